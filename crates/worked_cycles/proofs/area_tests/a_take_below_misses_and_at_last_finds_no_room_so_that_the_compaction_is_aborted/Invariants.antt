use Rattle.worked_cycles.proofs.area_tests.a_take_below_misses_and_at_last_finds_no_room_so_that_the_compaction_is_aborted.Given as goal

abbrev pub ghosts-miss_and_abort-L-Ledger : goal.ghosts-miss_and_abort-L-Ledger
ghosts-miss_and_abort-L-Ledger g a = record { name = a.blank.name; parts = a.blank.parts }

abbrev pub ghosts-miss_and_abort-M-Ledger : goal.ghosts-miss_and_abort-M-Ledger
ghosts-miss_and_abort-M-Ledger g a = record { name = a.made.name; parts = a.made.parts }
