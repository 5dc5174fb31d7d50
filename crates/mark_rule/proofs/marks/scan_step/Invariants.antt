use Rattle.mark_rule.specs.Marking.{Scanned}
use Rattle.mark_rule.proofs.marks.scan_step.Given as goal

abbrev pub ghosts-scan_step_as : goal.ghosts-scan_step_as
ghosts-scan_step_as a = record { learns = λ found v w. Scanned v a.object w }
