use Rattle.std.proofs.Common.{subst, IfSome}
use Rattle.entry_base.specs.Sessions.{view}
use Rattle.object_rule.specs.Objects.{IsTarget}
use Rattle.graph_steps.proofs.LinkCalls.{made_link_global, made_link_global_none}
use Rattle.graph_steps.proofs.globals.link_global.Goals as goal

pub returns-in-None-clause-made : goal.returns-in-None-clause-made
returns-in-None-clause-made c = made_link_global_none (view c.args.s.now) c.args.g c.args.target c.requires.target (c.target_word.ensures.none.0 c.in-None.is)

pub returns-clause-made : goal.returns-clause-made
returns-clause-made c =
    let v = view c.args.s.now in
    let aims : IsTarget v c.args.target c.in-Some.word = subst (λ x. IfSome x (IsTarget v c.args.target)) c.in-Some.is c.target_word.ensures.word in
    made_link_global v c.args.g c.args.target (view c.link_global.new.s) c.in-Some.word aims c.requires.caller.1.own c.link_global.ensures.learned
