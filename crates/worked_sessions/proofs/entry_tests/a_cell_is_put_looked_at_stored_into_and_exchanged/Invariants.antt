use Rattle.worked_sessions.proofs.entry_tests.a_cell_is_put_looked_at_stored_into_and_exchanged.Given as goal

abbrev pub ghosts-put_and_store : goal.ghosts-put_and_store
ghosts-put_and_store g a = record { name = a.blank.name; parts = a.blank.parts }
