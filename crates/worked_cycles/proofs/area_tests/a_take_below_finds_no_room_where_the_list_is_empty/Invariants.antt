use Rattle.worked_cycles.proofs.area_tests.a_take_below_finds_no_room_where_the_list_is_empty.Given as goal

abbrev pub ghosts-spend_external-L-Ledger : goal.ghosts-spend_external-L-Ledger
ghosts-spend_external-L-Ledger g a = record { name = a.blank.name; parts = a.blank.parts }

abbrev pub ghosts-spend_external-M-Ledger : goal.ghosts-spend_external-M-Ledger
ghosts-spend_external-M-Ledger g a = record { name = a.made.name; parts = a.made.parts }
