use Rattle.entry_rule.specs.Looks.{Published}
use Rattle.entry_rule.proofs.looks.publish_step.Given as goal

abbrev pub ghosts-publish_step_as : goal.ghosts-publish_step_as
ghosts-publish_step_as a = record { learns = λ found v w. Published v a.index w }
