use Rattle.call_base.proofs.CallsInOrder.{called_looks}
use Rattle.mark_steps.proofs.words.ref_at.Goals as goal

pub returns-then-word-eq0-clause-called : goal.returns-then-word-eq0-clause-called
returns-then-word-eq0-clause-called c = let t = c.load_reference-word.ensures.learned.loaded in called_looks _ _ c.requires.caller.1.own t.same t.looks

pub returns-clause-called : goal.returns-clause-called
returns-clause-called c = let t = c.load_reference-word.ensures.learned.loaded in called_looks _ _ c.requires.caller.1.own t.same t.looks
