use Rattle.std.proofs.Common.{false, get_or}
use Rattle.entry_base.proofs.Picks.{Picked}
use Rattle.entry_base.proofs.arrays.pick_numbers.Given as goal

abbrev pub invariant-loop-i : goal.invariant-loop-i
invariant-loop-i l = Picked false (λ j. get_or l.theirs j false) l.initial.mine l.theirs l.mine l.i
