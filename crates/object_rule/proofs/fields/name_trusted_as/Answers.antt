use Rattle.std.proofs.Common.{◌∙◌, refl, arith}
use Rattle.entry_base.proofs.Steps.{learned_at}
use Rattle.entry_base.proofs.OneByOne.{caller_same, held_within_limit}
use Rattle.entry_base.proofs.TiedParts.{tied_stays}
use Rattle.object_rule.specs.Fields.{NamedTrusted}
use Rattle.object_rule.proofs.Held.{mutator-held}
use Rattle.object_rule.proofs.FieldNames.{names_trusted}
use Rattle.object_rule.proofs.fields.name_trusted_as.Goals as goal

pub load-requires : goal.load-requires
load-requires g c =
    let r = c.requires in
    let sized = c.args.shared.now.sized in
    let limits = c.args.shared.now.limits in
    let made = c.args.shared.now.made in
    let object_low = held_within_limit _ c.args.s.now.seat.me.0 r.held.0 c.args.object r.caller.1 r.held.1 in (
      r.caller.0,
      omega (arith, object_low),
      learned_at _ _ _ c.args.s.now.seat.me _ _ (λ n. n) _ (λ found w. NamedTrusted c.args.s.now.seat.me.0 c.args.object found w) _ (refl) (λ n. refl) (λ n w learned. (r.picked n c.args.s.now.seat.me.0 w).1 learned)
          (names_trusted _ _ _ c.args.s.now.seat.me c.args.object r.caller.1 (mutator-held c.args.s.now.seat.me.0 _ c.args.s.now.tied.many r.held) r.held),
    )

pub invariant_of-s : goal.invariant_of-s
invariant_of-s g c =
    let r = c.requires in
    let t : NamedTrusted c.args.s.now.seat.me.0 c.args.object c.load.result c.load.new.seat.me.0 = (r.picked _ c.args.s.now.seat.me.0 _).0 c.load.ensures.2.0 in
    record {
      bare = c.load.ensures.2.1 ∙ c.args.s.now.bare;
      tied = tied_stays c.args.s.now.seat.me.0 _ _ (t.named.answered.same).opening (t.named.answered.same).number (t.named.answered.same).numbers (t.named.answered.own.vars) (t.named.answered.own.pending) c.args.s.now.tied;
    }

pub returns-clause-caller : goal.returns-clause-caller
returns-clause-caller g c =
    let r = c.requires in
    let t : NamedTrusted c.args.s.now.seat.me.0 c.args.object c.load.result c.load.new.seat.me.0 = (r.picked _ c.args.s.now.seat.me.0 _).0 c.load.ensures.2.0 in
    (c.load.ensures.0 ∙ r.caller.0, caller_same _ c.args.s.now.seat.me.0 _ r.caller.1 (t.named.answered.same) (t.named.answered.extends.lawful) (t.named.answered.own.vars) (t.named.answered.own.pending) (t.named.answered.hands))
