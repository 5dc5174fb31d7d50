use Rattle.std.proofs.Common.{false, get_or, None}
use Rattle.entry_base.proofs.Picks.{Picked}
use Rattle.entry_base.proofs.arrays.pick_pending.Given as goal

abbrev pub invariant-loop-i : goal.invariant-loop-i
invariant-loop-i l = Picked None (λ j. get_or l.numbers j false) l.initial.mine l.theirs l.mine l.i
