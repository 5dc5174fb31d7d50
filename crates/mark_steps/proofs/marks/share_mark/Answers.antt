use Rattle.entry_base.specs.Sessions.{view}
use Rattle.mark_steps.proofs.SeenWords.{lawful_after, lawful_of, openable_of}
use Rattle.mark_steps.proofs.SharedMarks.{shared_below, shared_called, shared_ends, shared_marked}
use Rattle.mark_steps.proofs.marks.share_mark.Goals as goal

pub mark_entry-requires-clause-inside : goal.mark_entry-requires-clause-inside
mark_entry-requires-clause-inside c = shared_below (view c.args.s.now) c.args.object c.args.word (openable_of _ _ c.args.shared.now.openable c.requires.caller.1) (lawful_of _ _ c.requires.caller.1) c.requires.saw

pub returns-clause-called : goal.returns-clause-called
returns-clause-called c =
    let e = c.mark_entry.ensures in
    shared_called (view c.args.s.now) _ c.args.object c.args.word (openable_of _ _ c.args.shared.now.openable c.requires.caller.1) (lawful_after _ _ _ _ e.called e.caller.1) c.requires.saw c.mark_entry.result e.called e.cause

pub returns-clause-ends : goal.returns-clause-ends
returns-clause-ends c =
    let e = c.mark_entry.ensures in
    shared_ends (view c.args.s.now) _ c.args.object c.args.word (openable_of _ _ c.args.shared.now.openable c.requires.caller.1) (lawful_after _ _ _ _ e.called e.caller.1) c.requires.saw c.mark_entry.result e.called e.cause e.ends

pub returns-clause-marked : goal.returns-clause-marked
returns-clause-marked c =
    let e = c.mark_entry.ensures in
    shared_marked (view c.args.s.now) _ c.args.object c.args.word (openable_of _ _ c.args.shared.now.openable c.requires.caller.1) (lawful_after _ _ _ _ e.called e.caller.1) c.requires.saw c.mark_entry.result e.called e.cause e.marked
