use Rattle.entry_rule.specs.Entries.{Evacuated}
use Rattle.entry_rule.proofs.entries.evacuate_step.Given as goal

abbrev pub ghosts-evacuate_step_as : goal.ghosts-evacuate_step_as
ghosts-evacuate_step_as a = record { learns = λ found v w. Evacuated v a.index a.number a.word w }
