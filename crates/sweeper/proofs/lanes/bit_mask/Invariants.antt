use Rattle.std.proofs.Common.{◌≡◌, ◌+◌, ◌*◌, ◌/◌, map, take, length}
use Rattle.sweeper.specs.Bits.{bit}
use Rattle.std.specs.Simd.Lanes.{mask_l}
use Rattle.sweeper.proofs.lanes.bit_mask.Given as goal

abbrev pub invariant-loop-lanes : goal.invariant-loop-lanes
invariant-loop-lanes l = record {
  at : l.at ≡ 8 * l.lanes-index;
  mask : l.mask ≡ mask_l (map (λ w. bit w l.place) (take l.at l.words));
}

abbrev pub invariant-loop-word : goal.invariant-loop-word
invariant-loop-word l = record {
  at : l.at ≡ length l.words / 8 * 8 + l.word-index;
  mask : l.mask ≡ mask_l (map (λ w. bit w l.place) (take l.at l.words));
}
