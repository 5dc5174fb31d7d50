use Rattle.worked_cycles.proofs.area_tests.an_index_below_the_area_is_filled_before_any_abort.Given as goal

abbrev pub ghosts-fill_below-L-Ledger : goal.ghosts-fill_below-L-Ledger
ghosts-fill_below-L-Ledger g a = record { name = a.blank.name; parts = a.blank.parts }

abbrev pub ghosts-fill_below-M-Ledger : goal.ghosts-fill_below-M-Ledger
ghosts-fill_below-M-Ledger g a = record { name = a.made.name; parts = a.made.parts }
