use Rattle.std.proofs.Common.{rules, ◌==◌}
use Rattle.script_reader.proofs.Splitting.{whole_from_position, split_from_position}
use Rattle.script_reader.proofs.words.split_at_byte.Goals as goal

pub returns-in_err-at-clause-whole : goal.returns-in_err-at-clause-whole
returns-in_err-at-clause-whole c =
    search (rules, whole_from_position (λ b. b == c.args.byte) c.args.text.now)

pub returns-clause-split : goal.returns-clause-split
returns-clause-split c =
    search (rules, split_from_position (λ b. b == c.args.byte) c.args.text.now c.in_ok-at.at)
