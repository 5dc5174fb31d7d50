use Rattle.entry_rule.specs.Looks.{LookedAt}
use Rattle.entry_rule.proofs.looks.look_step.Given as goal

abbrev pub ghosts-look_step_as : goal.ghosts-look_step_as
ghosts-look_step_as a = record { learns = λ found v w. LookedAt v a.space a.word a.first a.last found w }
