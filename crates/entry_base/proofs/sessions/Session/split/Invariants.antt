use Rattle.entry_base.proofs.sessions.Session.split.Given as goal

abbrev pub ghosts-split_as : goal.ghosts-split_as
ghosts-split_as a = record { number = a.number; owed = a.owed.now }
