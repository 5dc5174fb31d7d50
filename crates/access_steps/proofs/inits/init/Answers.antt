use Rattle.std.proofs.Common.{◌∙◌, sym}
use Rattle.entry_base.specs.Sessions.{view}
use Rattle.access_steps.proofs.FieldAccesses.{Made-init_empty}
use Rattle.access_steps.proofs.NewBindings.{Made-init}
use Rattle.access_steps.proofs.inits.init.Goals as goal

pub returns-in-None-clause-made : goal.returns-in-None-clause-made
returns-in-None-clause-made c =
    Made-init_empty (view c.args.s.now) c.args.var c.args.f c.requires.range.0 (sym c.field_number.ensures.number ∙ c.in-None.is) c.args.tag c.args.value

pub returns-in-Some-clause-made : goal.returns-in-Some-clause-made
returns-in-Some-clause-made c =
    Made-init (view c.args.s.now) _ c.args.var c.args.f c.in-Some.number c.args.tag c.args.value _ c.requires.range.0
    (sym c.field_number.ensures.number ∙ c.in-Some.is) c.bind_new.ensures.binds c.bind_new.ensures.leaves
