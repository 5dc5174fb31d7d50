use Rattle.std.proofs.Common.{rules, ◌∙◌, sym}
use Rattle.entry_base.specs.Sessions.{view}
use Rattle.call_base.specs.Called.{LeavesOwn}
use Rattle.access_steps.proofs.FieldAccesses.{Made-swap, Made-swap_empty}
use Rattle.access_steps.proofs.fields.swap.Goals as goal

pub returns-in-None-clause-made : goal.returns-in-None-clause-made
returns-in-None-clause-made c =
    Made-swap_empty (view c.args.s.now) c.args.var c.args.f c.requires.range.0 (sym c.field_number.ensures.number ∙ c.in-None.is) c.args.range.first c.args.range.last c.args.value

pub returns-in-Some-clause-made : goal.returns-in-Some-clause-made
returns-in-Some-clause-made c =
    let leaves : LeavesOwn (view c.args.s.now) (view c.swap_at.new.s) = search rules in
    Made-swap (view c.args.s.now) _ c.args.var c.args.f c.in-Some.number c.requires.range.0 (sym c.field_number.ensures.number ∙ c.in-Some.is)
    (view c.name_external-word.new.s) c.name_external-word.result c.args.range.first c.args.range.last c.swap_at.result c.requires.caller.1.own
    c.name_external-word.ensures.learned.answered leaves c.args.value c.swap_at.ensures.writes
