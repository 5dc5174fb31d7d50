use Rattle.std.proofs.Common.{rules}
use Rattle.plain_program.proofs.MakesCycles.{makes_abort}
use Rattle.plain_program.proofs.state.State.make_abort.Goals as goal

pub returns : goal.returns
returns c =
    makes_abort c.args.self.now c.abort.new.self c.args.by c.in-Some.start c.args.said
    c.in-Some.ensures (search rules) (search rules) c.abort.ensures.table c.abort.ensures.spent
