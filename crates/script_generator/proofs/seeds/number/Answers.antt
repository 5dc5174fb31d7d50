use Rattle.std.proofs.Common.{sym, ◌∙◌}
use Rattle.script_generator.proofs.SeedDigits.{number_onto-stuck, number_onto-end}
use Rattle.script_generator.proofs.seeds.number.Goals as goal

pub returns-in_err-number : goal.returns-in_err-number
returns-in_err-number c =
    let stuck = number_onto-stuck c.loop-byte.number c.args.digits.now c.loop-byte.byte-index c.loop-byte-test.true
    (sym c.with_digit.ensures ∙ c.in_err-number.was) in
    c.from_residual.ensures ∙ sym (c.loop-byte.invariant.spelled ∙ stuck)

pub returns : goal.returns
returns c =
    sym (c.loop-byte.invariant.spelled
    ∙ number_onto-end c.loop-byte.number c.args.digits.now c.loop-byte.byte-index c.loop-byte-test.false c.loop-byte.invariant.below)
