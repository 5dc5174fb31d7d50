use Rattle.freelist_rule.specs.Segments.{Committed}
use Rattle.freelist_rule.proofs.segments.commit_step.Given as goal

abbrev pub ghosts-commit_step_as : goal.ghosts-commit_step_as
ghosts-commit_step_as a = record { learns = λ found v w. Committed v a.space a.head found w }
