use Rattle.std.proofs.Common.{[]}
use Rattle.call_base.proofs.CallsInOrder.{called_looks, called_trans}
use Rattle.space_steps.proofs.segments.commit_at.Goals as goal

pub returns-clause-called : goal.returns-clause-called
returns-clause-called c =
    let l = c.commit_step.ensures.learned in
    called_trans _ _ _ [] [] c.link_segment.ensures.called (called_looks _ _ c.link_segment.ensures.caller.1.own l.same l.looks)
