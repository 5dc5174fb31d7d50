use Rattle.std.proofs.Common.{◌==◌, ◌∙◌, refl, arith}
use prog.Atomic.{either}
use Rattle.entry_base.proofs.Steps.{learned_at}
use Rattle.entry_base.proofs.OneByOne.{held_within_limit}
use Rattle.object_rule.specs.Fields.{BoundTrusted}
use Rattle.object_rule.proofs.Held.{mutator-held}
use Rattle.object_rule.proofs.TrustedBinds.{binds_trusted, bound_tied}
use Rattle.object_rule.proofs.fields.bind_trusted_as.Goals as goal

pub compare_exchange-found-requires : goal.compare_exchange-found-requires
compare_exchange-found-requires g c =
    let r = c.requires in
    let sized = c.args.shared.now.sized in
    let limits = c.args.shared.now.limits in
    let made = c.args.shared.now.made in
    let object_low = held_within_limit _ c.args.s.now.seat.me.0 r.held.0 c.args.object r.caller.1 r.held.1 in (
      r.caller.0,
      omega (arith, object_low),
      learned_at _ _ _ c.args.s.now.seat.me _ _ (λ n. either (n == 0) c.args.word n) _ (λ found w. BoundTrusted c.args.s.now.seat.me.0 c.args.object c.args.word c.args.tag c.args.value found w) _ (refl) (λ n. refl) (λ n w learned. (r.picked n c.args.s.now.seat.me.0 w).1 learned)
          (binds_trusted _ _ _ c.args.s.now.seat.me c.args.object c.args.word c.args.tag c.args.value r.caller.1 (mutator-held c.args.s.now.seat.me.0 _ c.args.s.now.tied.many r.held) r.held r.filled r.cell (omega arith)),
    )

pub invariant_of-s : goal.invariant_of-s
invariant_of-s g c =
    let r = c.requires in
    let found = c.compare_exchange-found in
    let t : BoundTrusted c.args.s.now.seat.me.0 c.args.object c.args.word c.args.tag c.args.value found.result found.new.seat.me.0 = (r.picked _ c.args.s.now.seat.me.0 _).0 found.ensures.2.0 in
    record {
      bare = found.ensures.2.1 ∙ c.args.s.now.bare;
      tied = bound_tied c.args.s.now.seat.me.0 _ _ c.args.object c.args.word c.args.tag c.args.value found.result c.args.s.now.tied t c.if-found-eq0.true;
    }
