use Rattle.std.proofs.Common.{◌≤◌, ◌∙◌, refl, arith}
use Rattle.entry_base.specs.Openings.{sizes_in}
use Rattle.entry_base.specs.Sessions.{opened_with}
use Rattle.entry_base.proofs.Steps.{learned_at}
use Rattle.object_rule.specs.Objects.{Dropped}
use Rattle.object_rule.proofs.Held.{set_calls, set_tied}
use Rattle.object_rule.proofs.VariableSets.{drops}
use Rattle.object_rule.proofs.objects.drop_step_as.Goals as goal

pub load-found-requires : goal.load-found-requires
load-found-requires g c =
    let r = c.requires in
    let sized = c.args.shared.now.sized in
    let limits = c.args.shared.now.limits in
    let made = c.args.shared.now.made in (
      r.caller.0,
      omega arith,
      learned_at _ _ _ c.args.s.now.seat.me _ _ (λ n. n) _ (λ found w. Dropped c.args.s.now.seat.me.0 c.args.var w) _ (refl) (λ n. refl) (λ n w learned. (r.picked n c.args.s.now.seat.me.0 w).1 learned)
          (drops _ _ _ c.args.s.now.seat.me c.args.var r.caller.1 r.mutator r.variable),
    )

pub invariant_of-s : goal.invariant_of-s
invariant_of-s g c =
    let r = c.requires in
    let t : Dropped c.args.s.now.seat.me.0 c.args.var c.load-found.new.seat.me.0 = (r.picked _ c.args.s.now.seat.me.0 _).0 c.load-found.ensures.2.0 in
    record {
      bare = c.load-found.ensures.2.1 ∙ c.args.s.now.bare;
      tied = set_tied _ _ _ _ t.variable _ c.args.s.now.tied;
    }

pub returns-clause-caller : goal.returns-clause-caller
returns-clause-caller g c =
    let r = c.requires in
    let t : Dropped c.args.s.now.seat.me.0 c.args.var c.load-found.new.seat.me.0 = (r.picked _ c.args.s.now.seat.me.0 _).0 c.load-found.ensures.2.0 in
    let low : 0 ≤ (sizes_in (opened_with c.args.shared.now)).objects = omega arith in
    (c.load-found.ensures.0 ∙ r.caller.0, set_calls _ _ _ _ t.variable _ r.caller.1 t.extends.lawful low)
