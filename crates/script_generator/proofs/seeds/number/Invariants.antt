-- The digits so far spell the number, and what is left goes on after it.
use Rattle.std.proofs.Common.{◌≡◌, ◌<◌, ◌^◌, drop}
use Rattle.script_reader.specs.Spelling.{number_onto}
use Rattle.script_generator.specs.Seed.{fitting}
use Rattle.script_generator.proofs.seeds.number.Given as goal

abbrev pub invariant-loop-byte : goal.invariant-loop-byte
invariant-loop-byte l = record {
  spelled : fitting (number_onto 10 0 l.digits) ≡ fitting (number_onto 10 l.number (drop l.byte-index l.digits));
  below : l.number < 2 ^ 64;
}
