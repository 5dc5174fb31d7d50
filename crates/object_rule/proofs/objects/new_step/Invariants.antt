use Rattle.object_rule.specs.Objects.{NewObject}
use Rattle.object_rule.proofs.objects.new_step.Given as goal

abbrev pub ghosts-new_step_as : goal.ghosts-new_step_as
ghosts-new_step_as a = record { learns = λ found v w. NewObject v a.var a.count found w }
