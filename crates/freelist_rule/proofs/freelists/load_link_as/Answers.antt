use Rattle.std.proofs.Common.{◌%◌, ◌^◌, ◌∙◌, refl}
use Rattle.entry_base.specs.Learned.{Loaded}
use Rattle.entry_base.proofs.Steps.{learned_at}
use Rattle.entry_base.proofs.OneByOne.{caller_same}
use Rattle.entry_base.proofs.TiedParts.{tied_stays}
use Rattle.freelist_rule.specs.Freelists.{link_facts}
use Rattle.freelist_rule.proofs.FreelistLoads.{loads_link}
use Rattle.freelist_rule.proofs.freelists.load_link_as.Goals as goal

pub load-requires : goal.load-requires
load-requires g c =
    let r = c.requires in
    let sized = c.args.shared.now.sized in
    let limits = c.args.shared.now.limits in
    let made = c.args.shared.now.made in (
      r.caller.0,
      c.entry_place.ensures.inside,
      learned_at _ _ _ c.args.s.now.seat.me _ _ (λ n. n) _ (λ found w. Loaded c.args.s.now.seat.me.0 (link_facts c.args.space (c.args.word % 2 ^ 32) found) w) _ (c.entry_place.ensures.place) (λ n. refl) (λ n w learned. (r.picked n c.args.s.now.seat.me.0 w).1 learned)
          (loads_link _ _ _ c.args.s.now.seat.me c.args.space c.args.word r.loaded.0 r.caller.1 r.loaded.1 r.some r.inside.0 r.inside.1),
    )

pub invariant_of-s : goal.invariant_of-s
invariant_of-s g c =
    let r = c.requires in
    let t : Loaded c.args.s.now.seat.me.0 (link_facts c.args.space (c.args.word % 2 ^ 32) c.load.result) c.load.new.seat.me.0 = (r.picked _ c.args.s.now.seat.me.0 _).0 c.load.ensures.2.0 in
    record {
      bare = c.load.ensures.2.1 ∙ c.args.s.now.bare;
      tied = tied_stays c.args.s.now.seat.me.0 _ _ (t.same).opening (t.same).number (t.same).numbers (t.own.vars) (t.own.pending) c.args.s.now.tied;
    }

pub returns-clause-caller : goal.returns-clause-caller
returns-clause-caller g c =
    let r = c.requires in
    let t : Loaded c.args.s.now.seat.me.0 (link_facts c.args.space (c.args.word % 2 ^ 32) c.load.result) c.load.new.seat.me.0 = (r.picked _ c.args.s.now.seat.me.0 _).0 c.load.ensures.2.0 in
    (c.load.ensures.0 ∙ r.caller.0, caller_same _ c.args.s.now.seat.me.0 _ r.caller.1 (t.same) (t.looks.lawful) (t.own.vars) (t.own.pending) (t.hands))
