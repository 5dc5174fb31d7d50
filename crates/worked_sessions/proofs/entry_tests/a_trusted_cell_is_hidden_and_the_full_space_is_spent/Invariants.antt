use Rattle.worked_sessions.proofs.entry_tests.a_trusted_cell_is_hidden_and_the_full_space_is_spent.Given as goal

abbrev pub ghosts-fill_trusted : goal.ghosts-fill_trusted
ghosts-fill_trusted g a = record { name = a.blank.name; parts = a.blank.parts }
