use Rattle.std.proofs.Common.{◌∙◌, sym}
use Rattle.entry_base.specs.Sessions.{view}
use Rattle.access_steps.proofs.EventAnswers.{IsWordAtEvent-named, IsWordAtEvent-number}
use Rattle.access_steps.proofs.FieldAccesses.{Made-name, Made-name_empty}
use Rattle.access_steps.proofs.fields.name.Goals as goal

pub returns-in-None-clause-made : goal.returns-in-None-clause-made
returns-in-None-clause-made c = Made-name_empty (view c.args.s.now) c.args.var c.args.f c.requires.range.0 (sym c.field_number.ensures.number ∙ c.in-None.is)

pub returns-in-Some-clause-made : goal.returns-in-Some-clause-made
returns-in-Some-clause-made c =
    Made-name (view c.args.s.now) _ c.args.var c.args.f c.in-Some.number c.requires.range.0 (sym c.field_number.ensures.number ∙ c.in-Some.is)
    c.name_external.result c.requires.caller.1.own c.name_external.ensures.learned.answered

pub returns-in-Some-clause-answer : goal.returns-in-Some-clause-answer
returns-in-Some-clause-answer c = λ number is.
    IsWordAtEvent-number (view c.name_external.new.s) c.in-Some.number number _ (sym c.in-Some.is ∙ (c.field_number.ensures.number ∙ is))
    (IsWordAtEvent-named (view c.args.s.now) _ _ _ c.name_external.ensures.learned.answered)
