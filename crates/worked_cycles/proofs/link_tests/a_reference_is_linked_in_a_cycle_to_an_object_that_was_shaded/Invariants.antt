use Rattle.worked_cycles.proofs.link_tests.a_reference_is_linked_in_a_cycle_to_an_object_that_was_shaded.Given as goal

abbrev pub ghosts-link_in_cycle : goal.ghosts-link_in_cycle
ghosts-link_in_cycle g a = record { name = a.blank.name; parts = a.blank.parts }
