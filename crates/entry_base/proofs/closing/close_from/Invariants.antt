use Rattle.entry_base.proofs.WalkStep.{Closing}
use Rattle.entry_base.proofs.closing.close_from.Given as goal

abbrev pub invariant-loop-i : goal.invariant-loop-i
invariant-loop-i l = Closing l.initial.words l.from l.to l.i l.words
