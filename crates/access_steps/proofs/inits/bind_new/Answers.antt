use Rattle.std.proofs.Common.{[], ◌∷◌, sym, subst}
use Rattle.plain_table.specs.declared.events.Act.TheVariants as act
use Rattle.plain_table.specs.declared.events.Space.TheVariants.{External}
use Rattle.entry_base.specs.Callers.{event_of}
use Rattle.entry_base.specs.Openings.{start_of}
use Rattle.entry_base.specs.Sessions.{view}
use Rattle.entry_base.specs.Histories.{IsPhaseHistory}
use Rattle.call_base.specs.Called.{Called, EndsWith}
use Rattle.space_steps.specs.Takes.{taken_reply}
use Rattle.access_steps.specs.Inits.{abort_for}
use Rattle.access_steps.proofs.NewBindings.{BindsNew-taken, bind_reply-free, bind_reply-taken}
use Rattle.access_steps.proofs.EventAnswers.{IsInitAtEvent-free, IsInitAtEvent-full, IsInitAtEvent-taken}
use Rattle.access_steps.proofs.inits.bind_new.Goals as goal

pub returns-then-found-eq0-clause-binds : goal.returns-then-found-eq0-clause-binds
returns-then-found-eq0-clause-binds g c =
    let u = view c.args.s.now in
    let v = view c.take.new.s in
    BindsNew-taken u v (view c.clear_area.new.s) (view c.put-word.new.s) _ c.args.number c.args.tag c.args.value c.in-At.ticket.index _ c.bind_external-found.result
    (subst (λ t. Called u (event_of u (act.Take External) (taken_reply t) ∷ []) v) c.in-At.is c.take.ensures.called)
    (subst (λ i. Called v (abort_for v.number (start_of v.opening) i) (view c.clear_area.new.s)) c.index.ensures c.clear_area.ensures.called)
    c.put-word.ensures.called c.put-word.ensures.caller.1.own c.bind_external-found.ensures.learned c.put-word.ensures.word
    _ (bind_reply-free _ c.if-found-eq0.true)

pub returns-clause-binds : goal.returns-clause-binds
returns-clause-binds g c =
    let u = view c.args.s.now in
    let v = view c.take.new.s in
    BindsNew-taken u v (view c.clear_area.new.s) (view c.put-word.new.s) _ c.args.number c.args.tag c.args.value c.in-At.ticket.index _ c.bind_external-found.result
    (subst (λ t. Called u (event_of u (act.Take External) (taken_reply t) ∷ []) v) c.in-At.is c.take.ensures.called)
    (subst (λ i. Called v (abort_for v.number (start_of v.opening) i) (view c.clear_area.new.s)) c.index.ensures c.clear_area.ensures.called)
    c.put-word.ensures.called c.put-word.ensures.caller.1.own c.bind_external-found.ensures.learned c.put-word.ensures.word
    _ (bind_reply-taken _ c.if-found-eq0.false)

pub returns-then-found-eq0-clause-answer : goal.returns-then-found-eq0-clause-answer
returns-then-found-eq0-clause-answer g c = IsInitAtEvent-free _ _ _ _ _ c.bind_external-found.ensures.learned c.if-found-eq0.true

pub returns-clause-answer : goal.returns-clause-answer
returns-clause-answer g c = IsInitAtEvent-taken _ _ _ _ _ c.bind_external-found.ensures.learned c.if-found-eq0.false

pub returns-in-Full-clause-answer : goal.returns-in-Full-clause-answer
returns-in-Full-clause-answer g c =
    let u = view c.args.s.now in
    let w = view c.take.new.s in
    let caller = c.take.ensures.caller.1 in
    IsInitAtEvent-full w u.number c.args.number
    (subst (λ t. EndsWith (event_of u (act.Take External) (taken_reply t) ∷ []) w.seen) c.in-Full.is c.take.ensures.ends)
    (subst (λ key. IsPhaseHistory key w.seen) (sym caller.opened) caller.lawful)
