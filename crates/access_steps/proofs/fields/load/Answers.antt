use Rattle.std.proofs.Common.{rules, ◌∙◌, sym, subst}
use Rattle.plain_table.specs.declared.scripts.Op.TheVariants as op
use Rattle.entry_base.specs.Sessions.{view}
use Rattle.call_base.specs.Called.{LeavesOwn, Made}
use Rattle.access_steps.specs.Accesses.{reply_of}
use Rattle.access_steps.proofs.FieldAccesses.{Made-load, Made-load_empty}
use Rattle.access_steps.proofs.fields.load.Goals as goal

pub returns-in-None-clause-made : goal.returns-in-None-clause-made
returns-in-None-clause-made c =
    Made-load_empty (view c.args.s.now) c.args.var c.args.f c.requires.range.0 (sym c.field_number.ensures.number ∙ c.in-None.is) c.args.range.first c.args.range.last

pub returns-in-Some-clause-made : goal.returns-in-Some-clause-made
returns-in-Some-clause-made c =
    let leaves : LeavesOwn (view c.args.s.now) (view c.look.new.s) = search rules in
    subst (λ said. Made (view c.args.s.now) (op.Load c.args.var c.args.f c.args.range.first c.args.range.last) said (view c.look.new.s)) (sym c.reply_of.ensures.reply)
    (Made-load (view c.args.s.now) _ c.args.var c.args.f c.in-Some.number c.requires.range.0 (sym c.field_number.ensures.number ∙ c.in-Some.is)
    (view c.name_external-word.new.s) c.name_external-word.result c.args.range.first c.args.range.last (reply_of c.look.result) c.requires.caller.1.own
    c.name_external-word.ensures.learned.answered leaves c.look.ensures.called c.look.ensures.ends)
