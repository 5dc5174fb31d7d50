use Rattle.std.proofs.Common.{◌∙◌, ◌+◌, ◌*◌, ◌^◌, arith}
use Rattle.entry_base.proofs.Steps.{learned_at}
use Rattle.entry_base.proofs.OneByOne.{caller_same}
use Rattle.entry_base.proofs.TiedParts.{tied_stays}
use Rattle.entry_rule.specs.Looks.{stored_word, Exchanged}
use Rattle.entry_rule.proofs.EntryStores.{exchanges}
use Rattle.entry_rule.proofs.looks.exchange_step_as.Goals as goal

pub swap-requires : goal.swap-requires
swap-requires g c =
    let r = c.requires in
    let sized = c.args.shared.now.sized in
    let limits = c.args.shared.now.limits in
    let made = c.args.shared.now.made in (
      r.caller.0,
      c.entry_place.ensures.inside,
      learned_at _ _ _ c.args.s.now.seat.me _ _ (λ x. stored_word c.args.tag c.args.value) (λ x. 2 ^ 62 + c.args.tag * 2 ^ 48 + c.args.value) (λ found w. Exchanged c.args.s.now.seat.me.0 c.args.word c.args.first c.args.last c.args.value found w) _ (c.entry_place.ensures.place) (λ n. omega arith) (λ n w learned. (r.picked n c.args.s.now.seat.me.0 w).1 learned)
          (exchanges _ _ _ c.args.s.now.seat.me c.args.word c.args.first c.args.last c.args.tag c.args.value r.caller.1 r.cell r.asked r.tagged.0 r.tagged.1 r.inside),
    )

pub invariant_of-s : goal.invariant_of-s
invariant_of-s g c =
    let r = c.requires in
    let t : Exchanged c.args.s.now.seat.me.0 c.args.word c.args.first c.args.last c.args.value c.swap.result c.swap.new.seat.me.0 = (r.picked _ c.args.s.now.seat.me.0 _).0 c.swap.ensures.2.0 in
    record {
      bare = c.swap.ensures.2.1 ∙ c.args.s.now.bare;
      tied = tied_stays c.args.s.now.seat.me.0 _ _ (t.same).opening (t.same).number (t.same).numbers (t.own.vars) (t.own.pending) c.args.s.now.tied;
    }

pub returns-clause-caller : goal.returns-clause-caller
returns-clause-caller g c =
    let r = c.requires in
    let t : Exchanged c.args.s.now.seat.me.0 c.args.word c.args.first c.args.last c.args.value c.swap.result c.swap.new.seat.me.0 = (r.picked _ c.args.s.now.seat.me.0 _).0 c.swap.ensures.2.0 in
    (c.swap.ensures.0 ∙ r.caller.0, caller_same _ c.args.s.now.seat.me.0 _ r.caller.1 (t.same) (t.extends.lawful) (t.own.vars) (t.own.pending) (t.hands))
