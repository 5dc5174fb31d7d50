use Rattle.worked_sessions.proofs.field_tests.an_external_field_is_bound_once.Given as goal

abbrev pub ghosts-bind_twice : goal.ghosts-bind_twice
ghosts-bind_twice g a = record { name = a.blank.name; parts = a.blank.parts }
