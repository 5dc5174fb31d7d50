use Rattle.std.proofs.Common.{◌∙◌, sym}
use Rattle.entry_base.specs.Sessions.{view}
use Rattle.access_steps.proofs.FieldAccesses.{Made-forge, Made-forge_empty}
use Rattle.access_steps.proofs.fields.forge.Goals as goal

pub returns-in-None-clause-made : goal.returns-in-None-clause-made
returns-in-None-clause-made c = Made-forge_empty (view c.args.s.now) c.args.var c.args.f c.requires.range.0 (sym c.field_number.ensures.number ∙ c.in-None.is) c.args.word

pub returns-in-Some-clause-made : goal.returns-in-Some-clause-made
returns-in-Some-clause-made c =
    Made-forge (view c.args.s.now) _ c.args.var c.args.f c.in-Some.number c.requires.range.0 (sym c.field_number.ensures.number ∙ c.in-Some.is)
    c.args.word c.requires.caller.1.own c.forge_step.ensures.learned
