use Rattle.std.proofs.Common.{◌≡◌, None, IfSome, ◌∙◌, sym, subst}
use Rattle.entry_base.specs.Sessions.{view, ticket_in}
use Rattle.trusted_steps.proofs.EntryFills.{Made-tnew, Made-tnew_empty, Made-tnew_pending}
use Rattle.trusted_steps.specs.Causes.{IsFillAtEvent}
use Rattle.trusted_steps.proofs.fills.tnew.Goals as goal

pub returns-in-None-clause-made : goal.returns-in-None-clause-made
returns-in-None-clause-made c = Made-tnew_empty (view c.args.s.now) c.args.var c.args.tag c.args.value c.requires.range (sym c.held.ensures ∙ c.in-None.is)

pub returns-in-Some-ticket-clause-made : goal.returns-in-Some-ticket-clause-made
returns-in-Some-ticket-clause-made c =
    Made-tnew_pending (view c.args.s.now) c.args.var c.in-Some.object c.args.tag c.args.value _ c.requires.range (sym c.held.ensures ∙ c.in-Some.is)
    (sym c.ticket.ensures ∙ c.in-Some-ticket.is)

pub returns-in-None-ticket-clause-made : goal.returns-in-None-ticket-clause-made
returns-in-None-ticket-clause-made c =
    Made-tnew (view c.args.s.now) (view c.fill_new.new.s) c.args.var c.in-Some.object c.args.tag c.args.value c.fill_new.result c.requires.range
    (sym c.held.ensures ∙ c.in-Some.is) (sym c.ticket.ensures ∙ c.in-None-ticket.is) c.fill_new.ensures.fills c.fill_new.ensures.leaves

pub returns-in-None-ticket-clause-answer : goal.returns-in-None-ticket-clause-answer
returns-in-None-ticket-clause-answer c =
    let u = view c.args.s.now in
    subst (λ x. IfSome x (λ object. ticket_in u ≡ None → IsFillAtEvent (view c.fill_new.new.s) object c.fill_new.result)) (sym (sym c.held.ensures ∙ c.in-Some.is)) (λ none. c.fill_new.ensures.answer)
