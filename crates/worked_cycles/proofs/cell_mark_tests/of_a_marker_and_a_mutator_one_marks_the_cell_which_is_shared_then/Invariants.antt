use Rattle.worked_cycles.proofs.cell_mark_tests.of_a_marker_and_a_mutator_one_marks_the_cell_which_is_shared_then.Given as goal

abbrev pub ghosts-mark_and_share : goal.ghosts-mark_and_share
ghosts-mark_and_share g a = record { name = a.blank.name; parts = a.blank.parts }
