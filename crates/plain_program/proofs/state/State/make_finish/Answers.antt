use Rattle.std.proofs.Common.{rules}
use Rattle.plain_program.proofs.MakesMeets.{makes_finish}
use Rattle.plain_program.proofs.state.State.make_finish.Goals as goal

pub returns : goal.returns
returns c =
    makes_finish c.args.self.now c.finish.new.self c.args.by c.args.said
    c.if-by-ne-MEETING.false (c.in_ok-may_finish.ensures.0 c.if-not-branch.false) (search rules) c.in_ok-finish.ensures.table c.in_ok-finish.ensures.spent
