use Rattle.access_steps.proofs.inits.init.Given as goal

abbrev pub ghosts-bind_new : goal.ghosts-bind_new
ghosts-bind_new a = record { name = a.blank.name; parts = a.blank.parts }
