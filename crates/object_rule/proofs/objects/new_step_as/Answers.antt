use Rattle.std.proofs.Common.{◌+◌, ◌==◌, ◌∙◌, refl, arith}
use prog.Atomic.{either}
use Rattle.entry_base.proofs.Steps.{learned_at}
use Rattle.object_rule.specs.Objects.{NewObject}
use Rattle.object_rule.proofs.NewObjects.{made_calls, made_tied, missed_tied}
use Rattle.object_rule.proofs.ObjectsMade.{makes_object}
use Rattle.object_rule.proofs.objects.new_step_as.Goals as goal

pub compare_exchange-found-requires : goal.compare_exchange-found-requires
compare_exchange-found-requires g c =
    let r = c.requires in
    let sized = c.args.shared.now.sized in
    let limits = c.args.shared.now.limits in
    let made = c.args.shared.now.made in (
      r.caller.0,
      omega arith,
      learned_at _ _ _ c.args.s.now.seat.me _ _ (λ n. either (n == c.args.count) (c.args.count + 1) n) _ (λ found w. NewObject c.args.s.now.seat.me.0 c.args.var c.args.count found w) _ (refl) (λ n. refl) (λ n w learned. (r.picked n c.args.s.now.seat.me.0 w).1 learned)
          (makes_object _ _ _ c.args.s.now.seat.me c.args.var c.args.count r.caller.1 r.mutator c.args.s.now.tied.many r.variable r.below r.loaded),
    )

pub invariant_of-s : goal.invariant_of-s
invariant_of-s g c =
    let r = c.requires in
    let t : NewObject c.args.s.now.seat.me.0 c.args.var c.args.count c.compare_exchange-found.result c.compare_exchange-found.new.seat.me.0 = (r.picked _ c.args.s.now.seat.me.0 _).0 c.compare_exchange-found.ensures.2.0 in
    record {
      bare = c.compare_exchange-found.ensures.2.1 ∙ c.args.s.now.bare;
      tied = made_tied _ _ _ _ _ _ c.args.s.now.tied t c.if-found-count.true;
    }

pub invariant_of-s-else-found-count : goal.invariant_of-s-else-found-count
invariant_of-s-else-found-count g c =
    let r = c.requires in
    let t : NewObject c.args.s.now.seat.me.0 c.args.var c.args.count c.compare_exchange-found.result c.compare_exchange-found.new.seat.me.0 = (r.picked _ c.args.s.now.seat.me.0 _).0 c.compare_exchange-found.ensures.2.0 in
    record {
      bare = c.compare_exchange-found.ensures.2.1 ∙ c.args.s.now.bare;
      tied = missed_tied _ _ _ _ _ _ c.args.s.now.tied t c.if-found-count.false;
    }

pub returns-then-found-count-clause-caller : goal.returns-then-found-count-clause-caller
returns-then-found-count-clause-caller g c =
    let r = c.requires in
    let t : NewObject c.args.s.now.seat.me.0 c.args.var c.args.count c.compare_exchange-found.result c.compare_exchange-found.new.seat.me.0 = (r.picked _ c.args.s.now.seat.me.0 _).0 c.compare_exchange-found.ensures.2.0 in
    (c.compare_exchange-found.ensures.0 ∙ r.caller.0, made_calls _ _ _ _ _ _ r.caller.1 r.below t)

pub returns-else-found-count-clause-caller : goal.returns-else-found-count-clause-caller
returns-else-found-count-clause-caller g c =
    let r = c.requires in
    let t : NewObject c.args.s.now.seat.me.0 c.args.var c.args.count c.compare_exchange-found.result c.compare_exchange-found.new.seat.me.0 = (r.picked _ c.args.s.now.seat.me.0 _).0 c.compare_exchange-found.ensures.2.0 in
    (c.compare_exchange-found.ensures.0 ∙ r.caller.0, made_calls _ _ _ _ _ _ r.caller.1 r.below t)
