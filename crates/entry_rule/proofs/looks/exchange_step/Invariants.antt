use Rattle.entry_rule.specs.Looks.{Exchanged}
use Rattle.entry_rule.proofs.looks.exchange_step.Given as goal

abbrev pub ghosts-exchange_step_as : goal.ghosts-exchange_step_as
ghosts-exchange_step_as a = record { learns = λ found v w. Exchanged v a.word a.first a.last a.value found w }
