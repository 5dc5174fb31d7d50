-- The digits that are left to write, and those that stand there, make the whole.
use Rattle.std.proofs.Common.{◌≡◌, ◌≤◌, ◌-◌, ◌++◌, drop, length}
use Rattle.script_reader.specs.Canonical.{hex}
use Rattle.script_reader.proofs.digits.push_word.Given as goal

abbrev pub invariant-digits : goal.invariant-digits
invariant-digits l = record {
  low : l.start ≤ l.at;
  high : l.at ≤ 16;
  sized : length l.word ≡ 16;
  spelled : hex (l.at - l.start) l.rest ++ drop l.at l.word ≡ hex l.fn.digits l.number;
}

abbrev pub decreases-digits : goal.decreases-digits
decreases-digits l = l.at
