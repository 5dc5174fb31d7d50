use Rattle.entry_rule.specs.Entries.{Aborts}
use Rattle.entry_rule.proofs.entries.abort_step.Given as goal

abbrev pub ghosts-abort_step_as : goal.ghosts-abort_step_as
ghosts-abort_step_as a = record { learns = λ found v w. Aborts v w }
