use Rattle.worked_markers.specs.Left.{IsLeft}
use Rattle.worked_markers.proofs.cycles.assert_left.Given as goal

abbrev pub invariant-loop-object : goal.invariant-loop-object
invariant-loop-object g l = IsLeft l.image.words.items l.left l.object
