use Rattle.std.proofs.Common.{◌==◌}
use Rattle.script_reader.proofs.Splitting.{two_parts}
use Rattle.script_reader.proofs.header.last_word.Goals as goal

pub returns-in-Some-clause-more : goal.returns-in-Some-clause-more
returns-in-Some-clause-more c =
    two_parts (λ b. b == 32) c.args.line.now c.in-Some.field-0.0.now c.in-Some.field-0.1.now c.in-Some.ensures.split
