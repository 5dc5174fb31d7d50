-- The digits so far spell the number, and what is left goes on after it.
use Rattle.std.proofs.Common.{◌≡◌, ◌<◌, ◌^◌, drop}
use Rattle.script_reader.specs.Spelling.{number_onto}
use Rattle.script_reader.proofs.words.number.Given as goal

abbrev pub invariant-loop-byte : goal.invariant-loop-byte
invariant-loop-byte l = record {
  spelled : number_onto l.base 0 l.word ≡ number_onto l.base l.number (drop l.byte-index l.word);
  below : l.number < 16 ^ l.byte-index;
}
