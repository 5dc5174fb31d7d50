use Rattle.entry_rule.specs.Looks.{Stored}
use Rattle.entry_rule.proofs.looks.store_step.Given as goal

abbrev pub ghosts-store_step_as : goal.ghosts-store_step_as
ghosts-store_step_as a = record { learns = λ found v w. Stored v a.word a.first a.last a.value w }
