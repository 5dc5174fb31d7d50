use Rattle.std.proofs.Common.{ap, arith, inl, inr}
use Rattle.plain_table.specs.Places.{space_of}
use Rattle.plain_table.specs.Table.{limit_in}
use Rattle.entry_base.specs.Openings.{sizes_in}
use Rattle.entry_base.specs.Passed.{field_of}
use Rattle.entry_base.specs.Sessions.{view}
use Rattle.call_base.proofs.CallsInOrder.{called_none}
use Rattle.mark_steps.specs.declared.answers.Mark.TheVariants as mark
use Rattle.mark_steps.proofs.MarkParts.{mark_part, out_first, out_none}
use Rattle.mark_steps.proofs.SeenWords.{lawful_after, lawful_of}
use Rattle.mark_steps.proofs.marks.mark.Goals as goal
use Rattle.mark_steps.proofs.marks.mark.Goals.{then-index-eq0-via-then-index-eq0, then-index-eq0-via-else-index-eq0+then-index-limit}

pub returns-then-index-eq0-clause-cause : goal.returns-then-index-eq0-clause-cause
returns-then-index-eq0-clause-cause c = elim c.then-index-eq0.branch [
  | then-index-eq0-via-then-index-eq0 w ↦
      let test = w.if-index-eq0.true in
      inr (out_none _ _ (space_of (field_of c.args.object c.args.f)) c.args.word (lawful_of _ _ c.requires.caller.1) (out_first (limit_in (sizes_in (view c.args.s.now).opening) (space_of (field_of c.args.object c.args.f))) c.args.word (omega (arith, test))))
  | then-index-eq0-via-else-index-eq0+then-index-limit w ↦
      let l = w.limit.ensures.limit in
      let above = w.if-index-limit.true in
      let same = ap (λ o. limit_in (sizes_in o) c.field_space-space.result) c.requires.caller.1.opened in
      let spaced = ap (limit_in (sizes_in (view c.args.s.now).opening)) c.field_space-space.ensures.space in
      inl (omega (arith, l, above, same, spaced))
]

pub returns-then-index-eq0-clause-part : goal.returns-then-index-eq0-clause-part
returns-then-index-eq0-clause-part c fields =
    mark_part _ _ c.args.object (field_of c.args.object c.args.f) c.args.word c.requires.saw (lawful_of _ _ c.requires.caller.1) fields mark.NoCell (called_none (view c.args.s.now)) (returns-then-index-eq0-clause-cause c)

pub returns-clause-part : goal.returns-clause-part
returns-clause-part c fields =
    let e = c.mark_entry.ensures in
    mark_part _ _ c.args.object (field_of c.args.object c.args.f) c.args.word c.requires.saw
    (lawful_after _ _ _ _ e.called e.caller.1) fields c.mark_entry.result e.called e.cause
