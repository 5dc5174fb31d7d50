use Rattle.std.proofs.Common.{rules}
use Rattle.plain_program.proofs.Makes.{makes_put}
use Rattle.plain_program.proofs.state.State.make_put.Goals as goal

pub returns : goal.returns
returns c =
    makes_put c.args.self.now c.set_cell.new.self c.add_put.new.self c.remove_owed.new.self c.add_fresh.new.self c.mark.new.self
    c.args.by c.args.space c.args.index c.args.tag c.args.value c.next-id.result c.is_external.result c.args.said
    (search rules) (search rules) c.next-id.ensures c.is_external.ensures
    c.in_ok-set_cell.ensures.table c.add_put.ensures.table c.remove_owed.ensures.table c.in_ok-add_fresh.ensures.table c.in_ok-mark.ensures.table
    c.in_ok-set_cell.ensures.spent c.add_put.ensures.spent c.remove_owed.ensures.spent c.in_ok-add_fresh.ensures.spent c.in_ok-mark.ensures.spent
