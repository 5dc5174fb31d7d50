use Rattle.plain_table.specs.declared.scripts.Op.TheVariants as op
use Rattle.plain_table.specs.declared.reports.Reply.TheVariants as reply
use Rattle.mutator_calls.proofs.ObjectCalls.{IsReady-held, Makes-drop}
use Rattle.mutator_calls.proofs.heap.Mutator.drop_var.Goals as goal

pub returns-clause-makes : goal.returns-clause-makes
returns-clause-makes c = λ s h. Makes-drop c.args.self.now c.hold.new.self c.args.var c.requires.variable s h c.hold.ensures

pub returns-clause-ready : goal.returns-clause-ready
returns-clause-ready c =
    IsReady-held c.args.self.now c.hold.new.self c.args.var 0 c.hold.ensures (op.Drop c.args.var) reply.Ok c.requires.ready (returns-clause-makes c)
