use Rattle.std.proofs.Common.{ℕ, [], Some, IfSome, option_map, refl, ap, ◌∙◌, sym, subst, inl, inr}
use Rattle.plain_table.specs.declared.events.Act.TheVariants as act
use Rattle.plain_table.specs.declared.reports.Reply.TheVariants as reply
use Rattle.entry_word.specs.declared.image.Pending.{Pending}
use Rattle.entry_base.specs.Sessions.{view}
use Rattle.object_rule.proofs.Held.{mutator-held}
use Rattle.call_base.proofs.HeldVariables.{holds_in}
use Rattle.call_base.proofs.CallsInOrder.{called_none, pends_stay}
use Rattle.call_base.proofs.OneEvent.{called_once}
use Rattle.trusted_steps.proofs.TrustedCalls.{Made-publish_empty, Made-not_yours, Made-publish}
use Rattle.trusted_steps.specs.Causes.{HeldWord, IsPublishReply}
use Rattle.trusted_steps.proofs.EventCauses.{HeldWord-named}
use Rattle.trusted_steps.proofs.publishing.publish.Goals as goal

pub returns-in-None-clause-made : goal.returns-in-None-clause-made
returns-in-None-clause-made c = Made-publish_empty (view c.args.s.now) c.args.var c.requires.range (sym c.held.ensures ∙ c.in-None.is)

pub returns-in-None-own_cell-clause-made : goal.returns-in-None-own_cell-clause-made
returns-in-None-own_cell-clause-made c =
    Made-not_yours (view c.args.s.now) (view c.name_trusted-word.new.s) c.args.var c.in-Some.object c.name_trusted-word.result c.requires.range (sym c.held.ensures ∙ c.in-Some.is)
    c.requires.caller.1.own c.name_trusted-word.ensures.learned.named.answered (c.own_cell.ensures.not_own c.in-None-own_cell.is)

pub returns-in-Some-own_cell-clause-made : goal.returns-in-Some-own_cell-clause-made
returns-in-Some-own_cell-clause-made c =
    let v = view c.args.s.now in
    let own = c.in-Some-own_cell.ensures.own in
    let found = sym c.held.ensures ∙ c.in-Some.is in
    let mutator = mutator-held v c.in-Some.object c.args.s.now.tied.many (c.args.var, holds_in v c.args.var c.in-Some.object c.requires.range found) in
    Made-publish v (view c.name_trusted-word.new.s) c.args.var c.in-Some.object c.name_trusted-word.result c.requires.range found
    c.requires.caller.1.own c.name_trusted-word.ensures.learned.named.answered (view c.publish_step.new.s) c.in-Some-own_cell.cell.index
    mutator c.args.s.now.tied.eight c.name_trusted-word.ensures.caller.1.own (ap (option_map (λ (p : Pending). p.index)) own.0) own.1 c.publish_step.ensures.learned

pub returns-in-None-own_cell-clause-answer : goal.returns-in-None-own_cell-clause-answer
returns-in-None-own_cell-clause-answer c =
    let u = view c.args.s.now in
    let v = view c.name_trusted-word.new.s in
    let n = c.name_trusted-word.ensures.learned in
    subst (λ x. IfSome x (λ object. (word : ℕ) × HeldWord u object word v × IsPublishReply u word reply.NotYours)) (sym (sym c.held.ensures ∙ c.in-Some.is)) (
      c.name_trusted-word.result,
      HeldWord-named u v v c.in-Some.object c.name_trusted-word.result [] n (called_none v),
      inr ((λ is. c.own_cell.ensures.not_own c.in-None-own_cell.is (sym (pends_stay u v n.named.answered.same n.named.answered.own.pending) ∙ is)), refl),
    )

pub returns-in-Some-own_cell-clause-answer : goal.returns-in-Some-own_cell-clause-answer
returns-in-Some-own_cell-clause-answer c =
    let u = view c.args.s.now in
    let v = view c.name_trusted-word.new.s in
    let w = view c.publish_step.new.s in
    let n = c.name_trusted-word.ensures.learned in
    let own = c.in-Some-own_cell.ensures.own in
    let published = c.publish_step.ensures.learned in
    subst (λ x. IfSome x (λ object. (word : ℕ) × HeldWord u object word w × IsPublishReply u word reply.Ok)) (sym (sym c.held.ensures ∙ c.in-Some.is)) (
      c.name_trusted-word.result,
      HeldWord-named u v w c.in-Some.object c.name_trusted-word.result _ n
          (called_once v w (act.Publish c.in-Some-own_cell.cell.index) reply.Ok c.name_trusted-word.ensures.caller.1.own published.same published.extends),
      inl (pends_stay u v n.named.answered.same n.named.answered.own.pending ∙ (ap (option_map (λ (p : Pending). p.index)) own.0 ∙ ap Some own.1), refl),
    )
