use Rattle.trusted_steps.proofs.fills.tnew.Given as goal

abbrev pub ghosts-fill_new : goal.ghosts-fill_new
ghosts-fill_new a = record { name = a.blank.name; parts = a.blank.parts }
