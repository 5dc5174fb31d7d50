use Rattle.entry_base.proofs.Picks.{Copied}
use Rattle.entry_base.proofs.arrays.array_of_vars.Given as goal

abbrev pub invariant-loop-i : goal.invariant-loop-i
invariant-loop-i l = Copied 0 l.vars l.array l.i
