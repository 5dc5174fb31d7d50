use Rattle.std.proofs.Common.{[], ◌∷◌, inr, sym, subst}
use Rattle.plain_table.specs.declared.events.Act.TheVariants as act
use Rattle.plain_table.specs.declared.events.Space.TheVariants.{Trusted}
use Rattle.entry_base.specs.Sessions.{view}
use Rattle.entry_base.specs.Callers.{event_of}
use Rattle.entry_base.specs.Histories.{IsPhaseHistory}
use Rattle.object_rule.proofs.Held.{mutator-held}
use Rattle.call_base.specs.Called.{EndsWith}
use Rattle.space_steps.specs.Takes.{taken_reply}
use Rattle.trusted_steps.proofs.EntryFills.{FillsNew-bound}
use Rattle.trusted_steps.proofs.EventCauses.{IsFillAtEvent-full}
use Rattle.trusted_steps.proofs.fills.fill_new.Goals as goal

pub returns-in-At-clause-fills : goal.returns-in-At-clause-fills
returns-in-At-clause-fills g c =
    FillsNew-bound (view c.args.s.now) (view c.take.new.s) (view c.bind_new.new.s) c.args.object c.args.tag c.args.value c.bind_new.result c.in-At.ticket
    (mutator-held (view c.args.s.now) c.args.object c.args.s.now.tied.many c.requires.held) c.args.s.now.tied.eight c.requires.none c.in-At.ensures.called c.in-At.ensures.taken c.bind_new.ensures.binds

pub returns-in-At-clause-answer : goal.returns-in-At-clause-answer
returns-in-At-clause-answer g c = inr c.bind_new.ensures.answer

pub returns-in-Full-clause-answer : goal.returns-in-Full-clause-answer
returns-in-Full-clause-answer g c =
    let u = view c.args.s.now in
    let w = view c.take.new.s in
    let caller = c.take.ensures.caller.1 in
    IsFillAtEvent-full w u.number c.args.object
    (subst (λ t. EndsWith (event_of u (act.Take Trusted) (taken_reply t) ∷ []) w.seen) c.in-Full.is c.take.ensures.ends)
    (subst (λ key. IsPhaseHistory key w.seen) (sym caller.opened) caller.lawful)
