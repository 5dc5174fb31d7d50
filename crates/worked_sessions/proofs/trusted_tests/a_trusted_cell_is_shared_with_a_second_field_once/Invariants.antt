use Rattle.worked_sessions.proofs.trusted_tests.a_trusted_cell_is_shared_with_a_second_field_once.Given as goal

abbrev pub ghosts-share_twice : goal.ghosts-share_twice
ghosts-share_twice g a = record { name = a.blank.name; parts = a.blank.parts }
