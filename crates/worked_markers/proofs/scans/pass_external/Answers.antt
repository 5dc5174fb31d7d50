use Rattle.entry_base.specs.Passed.{field_of}
use Rattle.mark_steps.proofs.SeenWords.{Saw-stays, lawful_after}
use Rattle.worked_markers.proofs.scans.pass_external.Goals as goal

pub evacuate-requires-clause-saw : goal.evacuate-requires-clause-saw
evacuate-requires-clause-saw c =
    let m = c.mark.ensures in
    Saw-stays _ _ _ (field_of c.args.object c.args.f) c.word_at-word.result m.called (lawful_after _ _ _ _ m.called m.caller.1) c.word_at-word.ensures.saw
