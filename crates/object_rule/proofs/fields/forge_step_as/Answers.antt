use Rattle.std.proofs.Common.{◌∙◌, refl, arith}
use Rattle.plain_table.specs.declared.events.Field.TheVariants as field
use Rattle.plain_table.specs.Places.{object_of}
use Rattle.entry_base.proofs.Steps.{learned_at}
use Rattle.entry_base.proofs.OneByOne.{caller_same, held_within_limit}
use Rattle.entry_base.proofs.TiedParts.{tied_stays}
use Rattle.object_rule.specs.Fields.{Forged}
use Rattle.object_rule.proofs.Held.{mutator-held}
use Rattle.object_rule.proofs.Forges.{forges}
use Rattle.object_rule.proofs.fields.forge_step_as.Goals as goal

pub swap-requires : goal.swap-requires
swap-requires g c =
    let r = c.requires in
    let sized = c.args.shared.now.sized in
    let limits = c.args.shared.now.limits in
    let made = c.args.shared.now.made in
    let object_low = held_within_limit _ c.args.s.now.seat.me.0 r.held.0 (object_of (field.External c.args.number)) r.caller.1 r.held.1 in (
      r.caller.0,
      omega (arith, object_low),
      learned_at _ _ _ c.args.s.now.seat.me _ _ (λ x. c.args.word) _ (λ found w. Forged c.args.s.now.seat.me.0 c.args.number c.args.word w) _ (refl) (λ n. refl) (λ n w learned. (r.picked n c.args.s.now.seat.me.0 w).1 learned)
          (forges _ _ _ c.args.s.now.seat.me c.args.number c.args.word r.caller.1 (mutator-held c.args.s.now.seat.me.0 _ c.args.s.now.tied.many r.held) r.held (omega arith)),
    )

pub invariant_of-s : goal.invariant_of-s
invariant_of-s g c =
    let r = c.requires in
    let t : Forged c.args.s.now.seat.me.0 c.args.number c.args.word c.swap.new.seat.me.0 = (r.picked _ c.args.s.now.seat.me.0 _).0 c.swap.ensures.2.0 in
    record {
      bare = c.swap.ensures.2.1 ∙ c.args.s.now.bare;
      tied = tied_stays c.args.s.now.seat.me.0 _ _ (t.same).opening (t.same).number (t.same).numbers (t.own.vars) (t.own.pending) c.args.s.now.tied;
    }

pub returns-clause-caller : goal.returns-clause-caller
returns-clause-caller g c =
    let r = c.requires in
    let t : Forged c.args.s.now.seat.me.0 c.args.number c.args.word c.swap.new.seat.me.0 = (r.picked _ c.args.s.now.seat.me.0 _).0 c.swap.ensures.2.0 in
    (c.swap.ensures.0 ∙ r.caller.0, caller_same _ c.args.s.now.seat.me.0 _ r.caller.1 (t.same) (t.extends.lawful) (t.own.vars) (t.own.pending) (t.hands))
