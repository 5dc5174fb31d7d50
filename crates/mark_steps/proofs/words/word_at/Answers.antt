use Rattle.entry_base.specs.Passed.{field_of}
use Rattle.call_base.proofs.CallsInOrder.{called_looks}
use Rattle.mark_steps.proofs.SeenWords.{saw_loaded}
use Rattle.mark_steps.proofs.words.word_at.Goals as goal

pub returns-clause-called : goal.returns-clause-called
returns-clause-called c = let t = c.load_word.ensures.learned.loaded in called_looks _ _ c.requires.caller.1.own t.same t.looks

pub returns-clause-saw : goal.returns-clause-saw
returns-clause-saw c = saw_loaded _ _ (field_of c.args.object c.args.f) c.load_word.result c.load_word.ensures.learned
