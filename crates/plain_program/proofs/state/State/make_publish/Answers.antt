use Rattle.std.proofs.Common.{rules}
use Rattle.plain_program.proofs.Makes.{makes_publish}
use Rattle.plain_program.proofs.state.State.make_publish.Goals as goal

pub returns : goal.returns
returns c =
    makes_publish c.args.self.now c.show_cell.new.self c.drop_ticket.new.self c.mark.new.self c.args.by c.args.index c.args.said
    (search rules) (search rules) c.in_ok-show_cell.ensures.table c.drop_ticket.ensures.table c.in_ok-mark.ensures.table
    c.in_ok-show_cell.ensures.spent c.drop_ticket.ensures.spent c.in_ok-mark.ensures.spent
