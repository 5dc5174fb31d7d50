use Rattle.std.proofs.Common.{IfSome, subst, sym, ◌∙◌}
use Rattle.plain_table.specs.declared.scripts.Op.TheVariants as op
use Rattle.plain_table.specs.declared.events.Spot.TheVariants.{Ref}
use Rattle.entry_base.specs.Sessions.{view}
use Rattle.object_rule.proofs.Held.{mutator-held}
use Rattle.call_base.specs.Called.{Made}
use Rattle.call_base.proofs.HeldVariables.{holds_in}
use Rattle.graph_steps.specs.Graph.{IsAtSpot}
use Rattle.graph_steps.proofs.ObjectCalls.{got_at_spot, made_fetch, made_fetch_empty}
use Rattle.graph_steps.proofs.references.fetch.Goals as goal

pub returns-in-None-clause-made : goal.returns-in-None-clause-made
returns-in-None-clause-made c = made_fetch_empty (view c.args.s.now) c.args.into c.args.var c.args.k c.requires.variables.1 (sym c.held.ensures ∙ c.in-None.is)

pub returns-in-Some-clause-made : goal.returns-in-Some-clause-made
returns-in-Some-clause-made c =
    let v = view c.args.s.now in
    let w = view c.get_reference.new.s in
    let found = sym c.held.ensures ∙ c.in-Some.is in
    let many = c.args.s.now.tied.many in
    let mutator = mutator-held v c.in-Some.object many (c.args.var, holds_in v c.args.var c.in-Some.object c.requires.variables.1 found) in
    subst (λ r. Made v (op.Fetch c.args.into c.args.var c.args.k) r w) (sym c.reply_of.ensures)
    (made_fetch v w c.args.into c.args.var c.args.k c.in-Some.object c.get_reference.result c.requires.variables.0 c.requires.variables.1 mutator many
    c.requires.caller.1.own found c.get_reference.ensures.learned)

pub returns-in-Some-clause-found : goal.returns-in-Some-clause-found
returns-in-Some-clause-found c =
    let w = view c.get_reference.new.s in
    let at = got_at_spot (view c.args.s.now) w c.args.into (Ref c.in-Some.object c.args.k) c.get_reference.result c.get_reference.ensures.learned in
    subst (λ x. IfSome x (λ object. IsAtSpot w (Ref object c.args.k) c.reply_of.result)) (sym (sym c.held.ensures ∙ c.in-Some.is))
    (subst (IsAtSpot w (Ref c.in-Some.object c.args.k)) (sym c.reply_of.ensures) at)
