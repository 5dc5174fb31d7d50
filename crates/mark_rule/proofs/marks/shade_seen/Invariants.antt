use Rattle.mark_rule.specs.Marking.{Shaded}
use Rattle.mark_rule.proofs.marks.shade_seen.Given as goal

abbrev pub ghosts-shade_seen_as : goal.ghosts-shade_seen_as
ghosts-shade_seen_as a = record { learns = λ found v w. Shaded v a.object found w }
