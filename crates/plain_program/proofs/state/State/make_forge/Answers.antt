use Rattle.std.proofs.Common.{rules}
use Rattle.plain_program.proofs.Makes.{makes_forge}
use Rattle.plain_program.proofs.state.State.make_forge.Goals as goal

pub returns : goal.returns
returns c =
    makes_forge c.args.self.now c.set_word.new.self c.set_bound.new.self c.touch.new.self c.args.by c.args.number c.args.word c.args.said
    (search rules) (search rules) c.in_ok-set_word.ensures.table c.in_ok-set_bound.ensures.table c.in_ok-touch.ensures.table
    c.in_ok-set_word.ensures.spent c.in_ok-set_bound.ensures.spent c.in_ok-touch.ensures.spent
