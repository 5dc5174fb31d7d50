use Rattle.std.proofs.Common.{rules}
use Rattle.plain_program.proofs.MakesCycles.{makes_evac}
use Rattle.plain_program.proofs.state.State.make_evac.Goals as goal

pub returns : goal.returns
returns c =
    makes_evac c.args.self.now c.remove_owed.new.self c.add_entry.new.self c.args.by c.args.index c.args.number c.args.said
    (c.may_evacuate.ensures.0 c.if-not-may_evacuate.false) (search rules)
    c.remove_owed.ensures.table c.in_ok-add_entry.ensures.table c.remove_owed.ensures.spent c.in_ok-add_entry.ensures.spent
