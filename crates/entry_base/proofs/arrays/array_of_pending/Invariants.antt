use Rattle.std.proofs.Common.{None}
use Rattle.entry_base.proofs.Picks.{Copied}
use Rattle.entry_base.proofs.arrays.array_of_pending.Given as goal

abbrev pub invariant-loop-i : goal.invariant-loop-i
invariant-loop-i l = Copied None l.pending l.array l.i
