use Rattle.std.proofs.Common.{refl}
use Rattle.call_base.proofs.CallsInOrder.{called_extends}
use Rattle.space_steps.proofs.areas.abort.Goals as goal

pub returns-in-Some-clause-called : goal.returns-in-Some-clause-called
returns-in-Some-clause-called c = let l = c.abort_step.ensures.learned in called_extends _ _ _ refl c.requires.caller.1.own l.same l.extends
