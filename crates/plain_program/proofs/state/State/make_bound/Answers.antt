use Rattle.std.proofs.Common.{rules}
use Rattle.plain_program.proofs.Makes.{makes_bound}
use Rattle.plain_program.proofs.state.State.make_bound.Goals as goal

pub returns : goal.returns
returns c =
    makes_bound c.args.self.now c.set_word.new.self c.set_bound.new.self c.keep_ticket.new.self c.remove_fresh.new.self c.touch.new.self
    c.args.by c.args.field c.args.word c.space_of-space.result c.index_of-index.result c.id_at-id.result c.args.said
    c.requires.allowed c.requires.zero (search rules) c.space_of-space.ensures c.index_of-index.ensures c.id_at-id.ensures
    c.in_ok-set_word.ensures.table c.in_ok-set_bound.ensures.table c.in_ok-keep_ticket.ensures.table c.remove_fresh.ensures.table c.in_ok-touch.ensures.table
    c.in_ok-set_word.ensures.spent c.in_ok-set_bound.ensures.spent c.in_ok-keep_ticket.ensures.spent c.remove_fresh.ensures.spent c.in_ok-touch.ensures.spent
