use Rattle.std.proofs.Common.{arith}
use Rattle.script_reader.proofs.Numbers.{digit_fits}
use Rattle.script_reader.proofs.words.number.Goals as goal

pub overflow_mul-number : goal.overflow_mul-number
overflow_mul-number c =
    let fits = digit_fits c.args.base c.loop-byte.number c.in_ok-digit.digit c.loop-byte.byte-index
    (omega arith) (omega arith) (omega arith) (omega arith) in
    omega (arith, fits)

pub overflow_add-number : goal.overflow_add-number
overflow_add-number c =
    let fits = digit_fits c.args.base c.loop-byte.number c.in_ok-digit.digit c.loop-byte.byte-index
    (omega arith) (omega arith) (omega arith) (omega arith) in
    omega (arith, fits)
