use Rattle.std.proofs.Common.{◌∙◌, refl, arith}
use Rattle.plain_table.specs.Places.{space_of}
use Rattle.plain_table.specs.Table.{limit_in}
use Rattle.entry_base.specs.Openings.{sizes_in}
use Rattle.entry_base.specs.Passed.{field_of}
use Rattle.entry_base.proofs.Steps.{learned_at}
use Rattle.entry_base.proofs.OneByOne.{caller_same, hands_within_limit}
use Rattle.entry_base.proofs.TiedParts.{tied_stays}
use Rattle.mark_rule.specs.Marking.{WordLoaded}
use Rattle.mark_rule.proofs.WordLoads.{loads_word}
use Rattle.mark_rule.proofs.loads.load_word_as.Goals as goal

pub load-requires : goal.load-requires
load-requires g c =
    let r = c.requires in
    let sized = c.args.shared.now.sized in
    let limits = c.args.shared.now.limits in
    let made = c.args.shared.now.made in
    let object_low = hands_within_limit _ c.args.s.now.seat.me.0 c.args.object r.caller.1 r.hands in (
      r.caller.0,
      omega (arith, object_low, r.few),
      learned_at _ _ _ c.args.s.now.seat.me _ _ (λ n. n) _ (λ found w. WordLoaded c.args.s.now.seat.me.0 (limit_in (sizes_in c.args.s.now.seat.me.0.opening) (space_of (field_of c.args.object c.args.f))) (field_of c.args.object c.args.f) found w) _ (refl) (λ n. refl) (λ n w learned. (r.picked n c.args.s.now.seat.me.0 w).1 learned)
          (loads_word _ _ _ c.args.s.now.seat.me c.args.object c.args.f r.caller.1 r.hands r.few),
    )

pub invariant_of-s : goal.invariant_of-s
invariant_of-s g c =
    let r = c.requires in
    let t : WordLoaded c.args.s.now.seat.me.0 (limit_in (sizes_in c.args.s.now.seat.me.0.opening) (space_of (field_of c.args.object c.args.f))) (field_of c.args.object c.args.f) c.load.result c.load.new.seat.me.0 = (r.picked _ c.args.s.now.seat.me.0 _).0 c.load.ensures.2.0 in
    record {
      bare = c.load.ensures.2.1 ∙ c.args.s.now.bare;
      tied = tied_stays c.args.s.now.seat.me.0 _ _ (t.loaded.same).opening (t.loaded.same).number (t.loaded.same).numbers (t.loaded.own.vars) (t.loaded.own.pending) c.args.s.now.tied;
    }

pub returns-clause-caller : goal.returns-clause-caller
returns-clause-caller g c =
    let r = c.requires in
    let t : WordLoaded c.args.s.now.seat.me.0 (limit_in (sizes_in c.args.s.now.seat.me.0.opening) (space_of (field_of c.args.object c.args.f))) (field_of c.args.object c.args.f) c.load.result c.load.new.seat.me.0 = (r.picked _ c.args.s.now.seat.me.0 _).0 c.load.ensures.2.0 in
    (c.load.ensures.0 ∙ r.caller.0, caller_same _ c.args.s.now.seat.me.0 _ r.caller.1 (t.loaded.same) (t.loaded.looks.lawful) (t.loaded.own.vars) (t.loaded.own.pending) (t.loaded.hands))
