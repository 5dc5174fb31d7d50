use Rattle.entry_base.specs.Sessions.{view}
use Rattle.call_base.proofs.CallsInOrder.{called_looks}
use Rattle.graph_steps.proofs.objects.shade.Goals as goal

pub returns-clause-called : goal.returns-clause-called
returns-clause-called c =
    let learned = c.shade_seen.ensures.learned in
    called_looks (view c.args.s.now) (view c.shade_seen.new.s) c.requires.caller.1.own learned.same learned.looks
