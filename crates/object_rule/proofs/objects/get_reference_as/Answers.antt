use Rattle.std.proofs.Common.{◌≤◌, ◌∙◌, subst, refl, arith}
use Rattle.plain_table.specs.declared.events.Spot.TheVariants.{Ref}
use Rattle.entry_base.specs.Openings.{sizes_in}
use Rattle.entry_base.proofs.Steps.{learned_at}
use Rattle.entry_base.proofs.OneByOne.{held_within_limit}
use Rattle.object_rule.specs.Objects.{Got}
use Rattle.object_rule.proofs.Held.{mutator-held, set_calls, set_tied}
use Rattle.object_rule.proofs.VariableGets.{gets_reference}
use Rattle.object_rule.proofs.objects.get_reference_as.Goals as goal

pub load-found-requires : goal.load-found-requires
load-found-requires g c =
    let r = c.requires in
    let sized = c.args.shared.now.sized in
    let limits = c.args.shared.now.limits in
    let made = c.args.shared.now.made in
    let object_low = held_within_limit _ c.args.s.now.seat.me.0 r.held.0 c.args.object r.caller.1 r.held.1 in (
      r.caller.0,
      omega (arith, object_low, r.few),
      learned_at _ _ _ c.args.s.now.seat.me _ _ (λ n. n) _ (λ found w. Got c.args.s.now.seat.me.0 c.args.into (Ref c.args.object c.args.k) found w) _ (refl) (λ n. refl) (λ n w learned. (r.picked n c.args.s.now.seat.me.0 w).1 learned)
          (gets_reference _ _ _ c.args.s.now.seat.me c.args.into c.args.object c.args.k r.caller.1 (mutator-held c.args.s.now.seat.me.0 _ c.args.s.now.tied.many r.held) c.args.s.now.tied.many r.variable r.held r.few),
    )

pub invariant_of-s : goal.invariant_of-s
invariant_of-s g c =
    let r = c.requires in
    let t : Got c.args.s.now.seat.me.0 c.args.into (Ref c.args.object c.args.k) c.load-found.result c.load-found.new.seat.me.0 = (r.picked _ c.args.s.now.seat.me.0 _).0 c.load-found.ensures.2.0 in
    record {
      bare = c.load-found.ensures.2.1 ∙ c.args.s.now.bare;
      tied = set_tied _ _ _ _ t.variable _ c.args.s.now.tied;
    }

pub returns-clause-caller : goal.returns-clause-caller
returns-clause-caller g c =
    let r = c.requires in
    let t : Got c.args.s.now.seat.me.0 c.args.into (Ref c.args.object c.args.k) c.load-found.result c.load-found.new.seat.me.0 = (r.picked _ c.args.s.now.seat.me.0 _).0 c.load-found.ensures.2.0 in
    let low = subst (λ o. c.load-found.result ≤ (sizes_in o).objects) r.caller.1.opened t.low in
    (c.load-found.ensures.0 ∙ r.caller.0, set_calls _ _ _ _ t.variable _ r.caller.1 t.extends.lawful low)
