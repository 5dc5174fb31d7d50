use Rattle.worked_sessions.proofs.trusted_tests.a_trusted_cell_is_seen_once_it_is_published_and_its_field_is_taken.Given as goal

abbrev pub ghosts-publish_and_miss : goal.ghosts-publish_and_miss
ghosts-publish_and_miss g a = record { name = a.blank.name; parts = a.blank.parts }
