use Rattle.mark_steps.proofs.evacuations.evacuate_from.Given as goal

abbrev pub ghosts-place : goal.ghosts-place
ghosts-place a = record { name = a.blank.name; parts = a.blank.parts }
