use Rattle.object_rule.specs.Objects.{Dropped}
use Rattle.object_rule.proofs.objects.drop_step.Given as goal

abbrev pub ghosts-drop_step_as : goal.ghosts-drop_step_as
ghosts-drop_step_as a = record { learns = λ found v w. Dropped v a.var w }
