use Rattle.entry_base.specs.Sessions.{view}
use Rattle.graph_steps.proofs.ObjectCalls.{made_drop}
use Rattle.graph_steps.proofs.objects.drop_var.Goals as goal

pub returns-clause-made : goal.returns-clause-made
returns-clause-made c = made_drop (view c.args.s.now) (view c.drop_step.new.s) c.args.var c.requires.variable c.requires.mutator c.args.s.now.tied.many c.requires.caller.1.own c.drop_step.ensures.learned
