use Rattle.std.proofs.Common.{◌∙◌, refl, arith, bit_or}
use Rattle.entry_base.proofs.Steps.{learned_at}
use Rattle.entry_base.proofs.TiedParts.{tied_stays}
use Rattle.mark_rule.specs.Marking.{Shaded}
use Rattle.mark_rule.proofs.Shading.{seen_within_limit, shaded_calls, shades_seen}
use Rattle.mark_rule.proofs.marks.shade_seen_as.Goals as goal

pub fetch_or-requires : goal.fetch_or-requires
fetch_or-requires g c =
    let r = c.requires in
    let sized = c.args.shared.now.sized in
    let limits = c.args.shared.now.limits in
    let made = c.args.shared.now.made in
    let low = seen_within_limit _ c.args.s.now.seat.me.0 c.args.object r.caller.1 r.seen in (
      r.caller.0,
      omega (arith, low),
      learned_at _ _ _ c.args.s.now.seat.me _ _ (λ n. bit_or n 1) _ (λ found w. Shaded c.args.s.now.seat.me.0 c.args.object found w) _ (refl) (λ n. refl) (λ n w learned. (r.picked n c.args.s.now.seat.me.0 w).1 learned)
          (shades_seen _ _ _ c.args.s.now.seat.me c.args.object r.caller.1 r.seen),
    )

pub invariant_of-s : goal.invariant_of-s
invariant_of-s g c =
    let r = c.requires in
    let t : Shaded c.args.s.now.seat.me.0 c.args.object c.fetch_or.result c.fetch_or.new.seat.me.0 = (r.picked _ c.args.s.now.seat.me.0 _).0 c.fetch_or.ensures.2.0 in
    record {
      bare = c.fetch_or.ensures.2.1 ∙ c.args.s.now.bare;
      tied = tied_stays c.args.s.now.seat.me.0 _ _ (t.same).opening (t.same).number (t.same).numbers (t.own.vars) (t.own.pending) c.args.s.now.tied;
    }

pub returns-clause-caller : goal.returns-clause-caller
returns-clause-caller g c =
    let r = c.requires in
    let t : Shaded c.args.s.now.seat.me.0 c.args.object c.fetch_or.result c.fetch_or.new.seat.me.0 = (r.picked _ c.args.s.now.seat.me.0 _).0 c.fetch_or.ensures.2.0 in
    (c.fetch_or.ensures.0 ∙ r.caller.0, shaded_calls _ _ _ _ _ r.caller.1 t (seen_within_limit _ c.args.s.now.seat.me.0 c.args.object r.caller.1 r.seen))
