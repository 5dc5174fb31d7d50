use Rattle.std.proofs.Common.{◌∙◌, refl, arith}
use Rattle.entry_base.proofs.Steps.{learned_at}
use Rattle.entry_base.proofs.OneByOne.{caller_same}
use Rattle.entry_base.proofs.TiedParts.{tied_stays}
use Rattle.entry_rule.specs.Entries.{AreaLoaded}
use Rattle.entry_rule.proofs.AreaLoads.{loads_area}
use Rattle.entry_rule.proofs.entries.load_area_as.Goals as goal

pub load-requires : goal.load-requires
load-requires g c =
    let r = c.requires in
    let sized = c.args.shared.now.sized in
    let limits = c.args.shared.now.limits in
    let made = c.args.shared.now.made in (
      r.caller.0,
      omega arith,
      learned_at _ _ _ c.args.s.now.seat.me _ _ (λ n. n) _ (λ found w. AreaLoaded c.args.s.now.seat.me.0 found w) _ (refl) (λ n. refl) (λ n w learned. (r.picked n c.args.s.now.seat.me.0 w).1 learned)
          (loads_area _ _ _ c.args.s.now.seat.me r.caller.1),
    )

pub invariant_of-s : goal.invariant_of-s
invariant_of-s g c =
    let r = c.requires in
    let t : AreaLoaded c.args.s.now.seat.me.0 c.load.result c.load.new.seat.me.0 = (r.picked _ c.args.s.now.seat.me.0 _).0 c.load.ensures.2.0 in
    record {
      bare = c.load.ensures.2.1 ∙ c.args.s.now.bare;
      tied = tied_stays c.args.s.now.seat.me.0 _ _ (t.loaded.same).opening (t.loaded.same).number (t.loaded.same).numbers (t.loaded.own.vars) (t.loaded.own.pending) c.args.s.now.tied;
    }

pub returns-clause-caller : goal.returns-clause-caller
returns-clause-caller g c =
    let r = c.requires in
    let t : AreaLoaded c.args.s.now.seat.me.0 c.load.result c.load.new.seat.me.0 = (r.picked _ c.args.s.now.seat.me.0 _).0 c.load.ensures.2.0 in
    (c.load.ensures.0 ∙ r.caller.0, caller_same _ c.args.s.now.seat.me.0 _ r.caller.1 (t.loaded.same) (t.loaded.looks.lawful) (t.loaded.own.vars) (t.loaded.own.pending) (t.loaded.hands))
