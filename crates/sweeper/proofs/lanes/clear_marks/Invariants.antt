use Rattle.std.proofs.Common.{◌≡◌, ◌≤◌, ◌-◌, ◌++◌, map, take, drop, length}
use Rattle.sweeper.specs.Bits.{without_mark}
use Rattle.sweeper.proofs.lanes.clear_marks.Given as goal

abbrev pub invariant-loop-words : goal.invariant-loop-words
invariant-loop-words l = record {
  within : l.at ≤ length l.initial.words;
  done : l.words ≡ map without_mark (take l.at l.initial.words) ++ drop l.at l.initial.words;
}

abbrev pub decreases-loop-words : goal.decreases-loop-words
decreases-loop-words l = length l.words - l.at

abbrev pub invariant-loop-at : goal.invariant-loop-at
invariant-loop-at l = record {
  within : l.at ≤ length l.fn.words;
  done : l.words ≡ map without_mark (take l.at l.fn.words) ++ drop l.at l.fn.words;
}

abbrev pub decreases-loop-at : goal.decreases-loop-at
decreases-loop-at l = length l.words - l.at
