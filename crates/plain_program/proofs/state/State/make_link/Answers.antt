use Rattle.std.proofs.Common.{rules}
use Rattle.plain_program.proofs.MakesObjects.{makes_link}
use Rattle.plain_program.proofs.state.State.make_link.Goals as goal

pub returns : goal.returns
returns c =
    makes_link c.args.self.now c.set_spot.new.self c.args.by c.args.spot c.args.var c.object_in-object.result c.args.said
    (search rules) (search rules) c.object_in-object.ensures (search rules)
    c.in_ok-set_spot.ensures.table c.in_ok-set_spot.ensures.spent
