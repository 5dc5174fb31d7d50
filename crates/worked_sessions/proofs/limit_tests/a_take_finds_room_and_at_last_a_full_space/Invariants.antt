use Rattle.worked_sessions.proofs.limit_tests.a_take_finds_room_and_at_last_a_full_space.Given as goal

abbrev pub ghosts-spend_trusted : goal.ghosts-spend_trusted
ghosts-spend_trusted g a = record { name = a.blank.name; parts = a.blank.parts }
