use Rattle.std.proofs.Common.{◌/◌, false, get_or}
use Rattle.entry_base.proofs.Picks.{Picked}
use Rattle.entry_base.proofs.arrays.pick_vars.Given as goal

abbrev pub invariant-loop-i : goal.invariant-loop-i
invariant-loop-i l = Picked 0 (λ j. get_or l.numbers (j / 16) false) l.initial.mine l.theirs l.mine l.i
