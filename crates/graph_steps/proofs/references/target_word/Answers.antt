use Rattle.std.proofs.Common.{◌<◌, IfSome, sym, subst, ◌∙◌, arith}
use Rattle.entry_base.specs.Sessions.{view, opened_with}
use Rattle.entry_base.proofs.OneByOne.{held_within_limit}
use Rattle.call_base.proofs.HeldVariables.{holds_in}
use Rattle.graph_steps.proofs.references.target_word.Goals as goal

pub overflow_add-result : goal.overflow_add-result
overflow_add-result c =
    let low = held_within_limit (opened_with c.args.shared.now) (view c.args.s.now) _ c.in-Some-held.object c.requires.caller.1 (holds_in (view c.args.s.now) c.in-Some.var c.in-Some-held.object (subst (λ t. IfSome t (λ var. var < 16)) c.in-Some.is c.requires.target) (sym c.held.ensures ∙ c.in-Some-held.is)) in
    let made = c.args.shared.now.made.1 in
    let few = c.args.shared.now.few.2 in
    omega (arith, low, made, few)
