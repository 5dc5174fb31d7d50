use Rattle.std.proofs.Common.{rules}
use Rattle.plain_program.proofs.Makes.{makes_swap}
use Rattle.plain_program.proofs.state.State.make_swap.Goals as goal

pub returns : goal.returns
returns c =
    makes_swap c.args.self.now c.store.new.self c.args.by c.args.word c.args.first c.args.last c.args.value c.index_of.result c.in-Some.cell c.args.said
    c.index_of.ensures c.in-Some.ensures.some.0 c.in-Some.ensures.some.1 (search rules) (search rules) c.in_ok-store.ensures.table c.in_ok-store.ensures.spent
