use Rattle.std.proofs.Common.{rules, ◌-◌, drop, take, arith}
use Rattle.std.specs.Str.{IsUtf8}
use Rattle.script_reader.specs.Canonical.{hex}
use Rattle.script_reader.proofs.HexDigits.{hex_utf8, word_written, write_digit}
use Rattle.script_reader.proofs.digits.push_word.Goals as goal

pub digits-preserved : goal.digits-preserved
digits-preserved c = record {
  low = omega arith;
  high = omega arith;
  sized = search rules;
  spelled = rw c.hex_digit.ensures.value
      (write_digit (16 - c.args.digits) c.digits.at c.digits.rest c.digits.word (hex c.args.digits c.args.number)
      (omega arith) (omega arith) c.digits.invariant.spelled);
}

pub unwrap-requires : goal.unwrap-requires
unwrap-requires c =
    let w = word_written c.args.digits c.digits.at c.digits.rest c.args.number c.digits.word
    (omega arith) (omega arith) (omega arith) c.digits.invariant.spelled in
    let u : IsUtf8 (take (16 - (16 - c.args.digits)) (drop (16 - c.args.digits) c.digits.word))
    = rw w (hex_utf8 c.args.digits c.args.number) in
    search (rules, u)

pub returns : goal.returns
returns c =
    let w = word_written c.args.digits c.digits.at c.digits.rest c.args.number c.digits.word
    (omega arith) (omega arith) (omega arith) c.digits.invariant.spelled in
    search (rules, w)
