use Rattle.std.proofs.Common.{◌≡◌, take}
use Rattle.std.specs.Prelude.{vec_capacity}
use Rattle.marker.proofs.marker.fill.Given as goal

abbrev pub invariant-loop-i : goal.invariant-loop-i
invariant-loop-i l = record { items : l.stack.items ≡ take l.i l.from; room : vec_capacity l.stack ≡ vec_capacity l.fn.stack }
