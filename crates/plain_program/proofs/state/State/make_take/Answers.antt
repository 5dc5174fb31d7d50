use Rattle.std.proofs.Common.{rules}
use Rattle.plain_program.proofs.Makes.{makes_take}
use Rattle.plain_program.proofs.state.State.make_take.Goals as goal

pub returns-in_ok-take_index-in-Some : goal.returns-in_ok-take_index-in-Some
returns-in_ok-take_index-in-Some c =
    makes_take c.args.self.now c.take_index.new.self c.args.by c.args.space c.in-Some.index c.args.said
    c.in-Some.ensures (search rules) c.in_ok-take_index-in-Some.ensures.table c.in_ok-take_index-in-Some.ensures.spent
