use Rattle.std.proofs.Common.{◌^◌, ◌∙◌, refl, arith, bit_or}
use Rattle.entry_base.proofs.Steps.{learned_at}
use Rattle.entry_base.proofs.OneByOne.{caller_same}
use Rattle.entry_base.proofs.TiedParts.{tied_stays}
use Rattle.entry_rule.specs.Entries.{Aborts}
use Rattle.entry_rule.proofs.Aborts.{aborts}
use Rattle.entry_rule.proofs.entries.abort_step_as.Goals as goal

pub fetch_or-requires : goal.fetch_or-requires
fetch_or-requires g c =
    let r = c.requires in
    let sized = c.args.shared.now.sized in
    let limits = c.args.shared.now.limits in
    let made = c.args.shared.now.made in (
      r.caller.0,
      omega arith,
      learned_at _ _ _ c.args.s.now.seat.me _ _ (λ x. bit_or x (2 ^ 32)) _ (λ found w. Aborts c.args.s.now.seat.me.0 w) _ (refl) (λ n. refl) (λ n w learned. (r.picked n c.args.s.now.seat.me.0 w).1 learned)
          (aborts _ _ _ c.args.s.now.seat.me c.args.start r.full.0 r.caller.1 r.area r.full.1 r.full.2),
    )

pub invariant_of-s : goal.invariant_of-s
invariant_of-s g c =
    let r = c.requires in
    let t : Aborts c.args.s.now.seat.me.0 c.fetch_or.new.seat.me.0 = (r.picked _ c.args.s.now.seat.me.0 _).0 c.fetch_or.ensures.2.0 in
    record {
      bare = c.fetch_or.ensures.2.1 ∙ c.args.s.now.bare;
      tied = tied_stays c.args.s.now.seat.me.0 _ _ (t.same).opening (t.same).number (t.same).numbers (t.own.vars) (t.own.pending) c.args.s.now.tied;
    }

pub returns-clause-caller : goal.returns-clause-caller
returns-clause-caller g c =
    let r = c.requires in
    let t : Aborts c.args.s.now.seat.me.0 c.fetch_or.new.seat.me.0 = (r.picked _ c.args.s.now.seat.me.0 _).0 c.fetch_or.ensures.2.0 in
    (c.fetch_or.ensures.0 ∙ r.caller.0, caller_same _ c.args.s.now.seat.me.0 _ r.caller.1 (t.same) (t.extends.lawful) (t.own.vars) (t.own.pending) (t.hands))
