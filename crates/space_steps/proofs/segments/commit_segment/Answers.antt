use Rattle.std.proofs.Common.{[]}
use Rattle.call_base.proofs.CallsInOrder.{called_looks, called_trans}
use Rattle.space_steps.proofs.segments.commit_segment.Goals as goal

pub returns-then-word-limit-clause-called : goal.returns-then-word-limit-clause-called
returns-then-word-limit-clause-called c =
    let l = c.load_freelist-word.ensures.learned in
    called_trans _ _ _ [] [] (called_looks _ _ c.requires.caller.1.own l.loaded.same l.looks) c.commit_at.ensures.called

pub returns-else-word-eq0-clause-called : goal.returns-else-word-eq0-clause-called
returns-else-word-eq0-clause-called c = let l = c.load_freelist-word.ensures.learned in called_looks _ _ c.requires.caller.1.own l.loaded.same l.looks
