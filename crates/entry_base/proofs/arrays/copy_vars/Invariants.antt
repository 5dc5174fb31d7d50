use Rattle.entry_base.proofs.Picks.{Copied}
use Rattle.entry_base.proofs.arrays.copy_vars.Given as goal

abbrev pub invariant-loop-i : goal.invariant-loop-i
invariant-loop-i l = Copied 0 l.from l.to l.i
