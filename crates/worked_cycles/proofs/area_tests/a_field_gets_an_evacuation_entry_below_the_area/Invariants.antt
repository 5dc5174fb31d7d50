use Rattle.worked_cycles.proofs.area_tests.a_field_gets_an_evacuation_entry_below_the_area.Given as goal

abbrev pub ghosts-evacuate-L-Ledger : goal.ghosts-evacuate-L-Ledger
ghosts-evacuate-L-Ledger g a = record { name = a.blank.name; parts = a.blank.parts }

abbrev pub ghosts-evacuate-M-Ledger : goal.ghosts-evacuate-M-Ledger
ghosts-evacuate-M-Ledger g a = record { name = a.made.name; parts = a.made.parts }
