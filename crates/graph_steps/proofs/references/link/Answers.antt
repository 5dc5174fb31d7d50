use Rattle.std.proofs.Common.{IfSome, rules, subst, sym, ◌∙◌}
use Rattle.entry_base.specs.Callers.{SameOwn}
use Rattle.entry_base.specs.Sessions.{view}
use Rattle.object_rule.specs.Objects.{IsTarget}
use Rattle.graph_steps.proofs.LinkCalls.{made_link, made_link_none, made_link_unheld}
use Rattle.graph_steps.proofs.references.link.Goals as goal

pub returns-in-None-clause-made : goal.returns-in-None-clause-made
returns-in-None-clause-made c = made_link_unheld (view c.args.s.now) c.args.var c.args.k c.requires.variable c.args.target (sym c.held.ensures ∙ c.in-None.is)

pub returns-in-None-target_word-clause-made : goal.returns-in-None-target_word-clause-made
returns-in-None-target_word-clause-made c =
    made_link_none (view c.args.s.now) c.args.var c.args.k c.requires.variable c.args.target c.in-Some.object (sym c.held.ensures ∙ c.in-Some.is) c.requires.target
    (c.target_word.ensures.none.0 c.in-None-target_word.is)

pub returns-clause-made : goal.returns-clause-made
returns-clause-made c =
    let v = view c.args.s.now in
    let aims : IsTarget v c.args.target c.in-Some-target_word.word = subst (λ x. IfSome x (IsTarget v c.args.target)) c.in-Some-target_word.is c.target_word.ensures.word in
    let leaves : SameOwn v (view c.link_reference.new.s) = search rules in
    made_link v c.args.var c.args.k c.requires.variable c.args.target (view c.shade_target-shaded.new.s) (view c.link_reference.new.s) c.in-Some.object c.in-Some-target_word.word
    (sym c.held.ensures ∙ c.in-Some.is) aims c.shade_target-shaded.ensures.caller.1.own c.shade_target-shaded.ensures.called leaves c.link_reference.ensures.learned
