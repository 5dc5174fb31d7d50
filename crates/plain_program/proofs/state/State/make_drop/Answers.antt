use Rattle.std.proofs.Common.{rules}
use Rattle.plain_program.proofs.MakesObjects.{makes_drop}
use Rattle.plain_program.proofs.state.State.make_drop.Goals as goal

pub returns : goal.returns
returns c =
    makes_drop c.args.self.now c.set_variable.new.self c.args.by c.args.var c.args.said
    c.if-by-ge-MUTATORS.false c.if-var-ge-VARIABLES.false (search rules)
    c.in_ok-set_variable.ensures.table c.in_ok-set_variable.ensures.spent
