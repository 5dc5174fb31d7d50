use Rattle.std.proofs.Common.{rules}
use Rattle.plain_program.proofs.Makes.{makes_below}
use Rattle.plain_program.proofs.state.State.make_below.Goals as goal

pub returns-in_ok-take_index-in-Some : goal.returns-in_ok-take_index-in-Some
returns-in_ok-take_index-in-Some c =
    makes_below c.args.self.now c.take_index.new.self c.args.by c.args.start c.in-Some.index c.args.said
    (search rules) c.in-Some.ensures (search rules) c.in_ok-take_index-in-Some.ensures.table c.in_ok-take_index-in-Some.ensures.spent
