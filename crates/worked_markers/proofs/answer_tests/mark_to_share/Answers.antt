use Rattle.std.proofs.Common.{rules}
use Rattle.entry_base.specs.Sessions.{view}
use Rattle.mark_steps.proofs.SharedMarks.{saw_named}
use Rattle.worked_markers.proofs.answer_tests.mark_to_share.Goals as goal

pub share_mark-requires-clause-saw : goal.share_mark-requires-clause-saw
share_mark-requires-clause-saw g c =
    saw_named (view c.args.s.now) (view c.name_trusted-word.new.s) 0 c.name_trusted-word.result c.name_trusted-word.ensures.learned c.if-word-eq0.false
    (search rules)
