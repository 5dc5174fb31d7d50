use Rattle.std.proofs.Common.{◌≢◌, [], refl, subst, inl, inr}
use Rattle.entry_base.specs.Openings.{phase_of}
use Rattle.entry_base.specs.Sessions.{view}
use Rattle.object_rule.specs.Fields.{NamedTrusted}
use Rattle.call_base.proofs.CallsInOrder.{called_none}
use Rattle.access_steps.proofs.NewBindings.{bind_reply-free, bind_reply-taken}
use Rattle.mark_steps.proofs.SharedMarks.{saw_named}
use Rattle.trusted_steps.proofs.SharedMarks.{SharesEntry-null, SharesEntry-bound}
use Rattle.trusted_steps.proofs.EventCauses.{HeldWord-bound, HeldWord-named, IsBoundAtEvent-free, IsBoundAtEvent-taken}
use Rattle.trusted_steps.proofs.shares.share_entry.Goals as goal

pub returns-then-word-eq0-clause-shares : goal.returns-then-word-eq0-clause-shares
returns-then-word-eq0-clause-shares c =
    SharesEntry-null (view c.args.s.now) (view c.name_trusted-word.new.s) c.args.source c.args.target c.requires.caller.1.own
    (subst (λ n. NamedTrusted (view c.args.s.now) c.args.source n (view c.name_trusted-word.new.s)) c.if-word-eq0.true c.name_trusted-word.ensures.learned)

pub mark_in_cycle-requires-clause-saw : goal.mark_in_cycle-requires-clause-saw
mark_in_cycle-requires-clause-saw c cycle =
    let n = c.name_trusted-word.ensures.learned in
    saw_named (view c.args.s.now) (view c.name_trusted-word.new.s) c.args.source c.name_trusted-word.result n c.if-word-eq0.false
    (subst (λ o. phase_of o ≢ 0) n.named.answered.same.opening cycle)

pub returns-then-found-eq0-clause-shares : goal.returns-then-found-eq0-clause-shares
returns-then-found-eq0-clause-shares c =
    SharesEntry-bound (view c.args.s.now) (view c.name_trusted-word.new.s) (view c.mark_in_cycle.new.s) (view c.bind_shared-found.new.s) c.args.source c.args.target
    c.name_trusted-word.result c.bind_shared-found.result _ c.if-word-eq0.false c.requires.caller.1.own c.mark_in_cycle.ensures.caller.1.own
    c.name_trusted-word.ensures.learned c.mark_in_cycle.ensures.called c.bind_shared-found.ensures.learned (bind_reply-free _ c.if-found-eq0.true)

pub returns-else-found-eq0-clause-shares : goal.returns-else-found-eq0-clause-shares
returns-else-found-eq0-clause-shares c =
    SharesEntry-bound (view c.args.s.now) (view c.name_trusted-word.new.s) (view c.mark_in_cycle.new.s) (view c.bind_shared-found.new.s) c.args.source c.args.target
    c.name_trusted-word.result c.bind_shared-found.result _ c.if-word-eq0.false c.requires.caller.1.own c.mark_in_cycle.ensures.caller.1.own
    c.name_trusted-word.ensures.learned c.mark_in_cycle.ensures.called c.bind_shared-found.ensures.learned (bind_reply-taken _ c.if-found-eq0.false)

pub returns-then-word-eq0-clause-answer : goal.returns-then-word-eq0-clause-answer
returns-then-word-eq0-clause-answer c =
    let v = view c.name_trusted-word.new.s in
    (c.name_trusted-word.result, HeldWord-named (view c.args.s.now) v v c.args.source c.name_trusted-word.result [] c.name_trusted-word.ensures.learned (called_none v), inl (c.if-word-eq0.true, refl))

pub returns-then-found-eq0-clause-answer : goal.returns-then-found-eq0-clause-answer
returns-then-found-eq0-clause-answer c =
    let w = view c.mark_in_cycle.new.s in
    let x = view c.bind_shared-found.new.s in
    let bound = c.bind_shared-found.ensures.learned.answered in
    let word = c.name_trusted-word.result in (
      word,
      HeldWord-bound (view c.args.s.now) (view c.name_trusted-word.new.s) w x c.args.source c.args.target word c.bind_shared-found.result _ c.name_trusted-word.ensures.learned
          c.mark_in_cycle.ensures.called c.mark_in_cycle.ensures.caller.1.own bound,
      inr (c.if-word-eq0.false, IsBoundAtEvent-free w x c.args.target word c.bind_shared-found.result bound.same bound.extends c.if-found-eq0.true),
    )

pub returns-else-found-eq0-clause-answer : goal.returns-else-found-eq0-clause-answer
returns-else-found-eq0-clause-answer c =
    let w = view c.mark_in_cycle.new.s in
    let x = view c.bind_shared-found.new.s in
    let bound = c.bind_shared-found.ensures.learned.answered in
    let word = c.name_trusted-word.result in (
      word,
      HeldWord-bound (view c.args.s.now) (view c.name_trusted-word.new.s) w x c.args.source c.args.target word c.bind_shared-found.result _ c.name_trusted-word.ensures.learned
          c.mark_in_cycle.ensures.called c.mark_in_cycle.ensures.caller.1.own bound,
      inr (c.if-word-eq0.false, IsBoundAtEvent-taken w x c.args.target word c.bind_shared-found.result bound.same bound.extends c.if-found-eq0.false),
    )
