use Rattle.entry_base.proofs.sessions.Session.cut.Given as goal

abbrev pub ghosts-cut_as : goal.ghosts-cut_as
ghosts-cut_as a = record { number = 0; owed = a.objects.items }
