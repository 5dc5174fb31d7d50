use Rattle.std.proofs.Common.{◌∙◌, refl, arith}
use Rattle.plain_table.specs.declared.events.Field.TheVariants as field
use Rattle.plain_table.specs.Places.{object_of}
use Rattle.entry_base.proofs.Steps.{learned_at}
use Rattle.entry_base.proofs.OneByOne.{caller_same, held_within_limit}
use Rattle.entry_base.proofs.TiedParts.{tied_stays}
use Rattle.object_rule.specs.Fields.{Named}
use Rattle.object_rule.proofs.Held.{mutator-held}
use Rattle.object_rule.proofs.FieldNames.{names_external}
use Rattle.object_rule.proofs.fields.name_external_as.Goals as goal

pub load-requires : goal.load-requires
load-requires g c =
    let r = c.requires in
    let sized = c.args.shared.now.sized in
    let limits = c.args.shared.now.limits in
    let made = c.args.shared.now.made in
    let object_low = held_within_limit _ c.args.s.now.seat.me.0 r.held.0 (object_of (field.External c.args.number)) r.caller.1 r.held.1 in (
      r.caller.0,
      omega (arith, object_low),
      learned_at _ _ _ c.args.s.now.seat.me _ _ (λ n. n) _ (λ found w. Named c.args.s.now.seat.me.0 (field.External c.args.number) found w) _ (refl) (λ n. refl) (λ n w learned. (r.picked n c.args.s.now.seat.me.0 w).1 learned)
          (names_external _ _ _ c.args.s.now.seat.me c.args.number r.caller.1 (mutator-held c.args.s.now.seat.me.0 _ c.args.s.now.tied.many r.held) r.held),
    )

pub invariant_of-s : goal.invariant_of-s
invariant_of-s g c =
    let r = c.requires in
    let t : Named c.args.s.now.seat.me.0 (field.External c.args.number) c.load.result c.load.new.seat.me.0 = (r.picked _ c.args.s.now.seat.me.0 _).0 c.load.ensures.2.0 in
    record {
      bare = c.load.ensures.2.1 ∙ c.args.s.now.bare;
      tied = tied_stays c.args.s.now.seat.me.0 _ _ (t.answered.same).opening (t.answered.same).number (t.answered.same).numbers (t.answered.own.vars) (t.answered.own.pending) c.args.s.now.tied;
    }

pub returns-clause-caller : goal.returns-clause-caller
returns-clause-caller g c =
    let r = c.requires in
    let t : Named c.args.s.now.seat.me.0 (field.External c.args.number) c.load.result c.load.new.seat.me.0 = (r.picked _ c.args.s.now.seat.me.0 _).0 c.load.ensures.2.0 in
    (c.load.ensures.0 ∙ r.caller.0, caller_same _ c.args.s.now.seat.me.0 _ r.caller.1 (t.answered.same) (t.answered.extends.lawful) (t.answered.own.vars) (t.answered.own.pending) (t.answered.hands))
