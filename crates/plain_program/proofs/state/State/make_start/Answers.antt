use Rattle.std.proofs.Common.{rules}
use Rattle.plain_program.proofs.MakesMeets.{makes_start}
use Rattle.plain_program.proofs.state.State.make_start.Goals as goal

pub returns : goal.returns
returns c =
    makes_start c.args.self.now c.begin.new.self c.args.by c.args.policy c.args.said
    c.if-by-ne-MEETING.false (c.in_cycle.ensures.0 c.if-in_cycle.false) (search rules) c.in_ok-begin.ensures.table c.in_ok-begin.ensures.spent
