use Rattle.std.proofs.Common.{rules}
use Rattle.plain_program.proofs.MakesObjects.{makes_new}
use Rattle.plain_program.proofs.state.State.make_new.Goals as goal

pub returns : goal.returns
returns c =
    makes_new c.args.self.now c.set_variable.new.self c.add_object.new.self c.add_born.new.self c.args.by c.args.var c.count-object.result c.objects.result c.args.said
    c.if-by-ge-MUTATORS.false c.if-var-ge-VARIABLES.false c.count-object.ensures c.objects.ensures c.if-object-objects.false (search rules)
    c.in_ok-set_variable.ensures.table c.add_object.ensures.table c.in_ok-add_born.ensures.table
    c.in_ok-set_variable.ensures.spent c.add_object.ensures.spent c.in_ok-add_born.ensures.spent
