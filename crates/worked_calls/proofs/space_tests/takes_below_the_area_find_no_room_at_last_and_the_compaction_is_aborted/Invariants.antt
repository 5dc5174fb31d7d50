use Rattle.worked_calls.proofs.space_tests.takes_below_the_area_find_no_room_at_last_and_the_compaction_is_aborted.Given as goal

abbrev pub ghosts-take_below_and_abort : goal.ghosts-take_below_and_abort
ghosts-take_below_and_abort g a = record { name = a.blank.name; parts = a.blank.parts }
