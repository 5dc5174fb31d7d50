use Rattle.worked_sessions.proofs.trusted_tests.a_trusted_cell_that_is_bound_gives_a_ticket.Given as goal

abbrev pub ghosts-give_ticket : goal.ghosts-give_ticket
ghosts-give_ticket g a = record { name = a.blank.name; parts = a.blank.parts }
