use Rattle.object_rule.specs.Fields.{Forged}
use Rattle.object_rule.proofs.fields.forge_step.Given as goal

abbrev pub ghosts-forge_step_as : goal.ghosts-forge_step_as
ghosts-forge_step_as a = record { learns = λ found v w. Forged v a.number a.word w }
