use Rattle.std.proofs.Common.{◌+◌, ◌^◌, ◌==◌, ◌∙◌, ap, arith}
use prog.Atomic.{either}
use Rattle.plain_table.specs.Words.{free_word, no_access_word}
use Rattle.entry_base.proofs.Steps.{learned_at}
use Rattle.entry_base.proofs.OneByOne.{caller_same}
use Rattle.entry_base.proofs.TiedParts.{tied_stays}
use Rattle.freelist_rule.specs.Segments.{LinkedEntry}
use Rattle.freelist_rule.proofs.EntryLinks.{links_entry}
use Rattle.freelist_rule.proofs.segments.link_entry_as.Goals as goal

pub compare_exchange-requires : goal.compare_exchange-requires
compare_exchange-requires g c =
    let r = c.requires in
    let sized = c.args.shared.now.sized in
    let limits = c.args.shared.now.limits in
    let made = c.args.shared.now.made in (
      r.caller.0,
      c.entry_place.ensures.inside,
      learned_at _ _ _ c.args.s.now.seat.me _ _ (λ n. either (n == no_access_word) (free_word (c.args.index + 1)) n) _ (λ found w. LinkedEntry c.args.s.now.seat.me.0 c.args.space c.args.index w) _ (c.entry_place.ensures.place) (λ n. ap (λ x. either (n == no_access_word) x n) {x = 2 ^ 56 + c.args.index + 1} {y = free_word (c.args.index + 1)} (omega arith)) (λ n w learned. (r.picked n c.args.s.now.seat.me.0 w).1 learned)
          (links_entry _ _ _ c.args.s.now.seat.me c.args.space c.args.index r.caller.1 r.inside),
    )

pub invariant_of-s : goal.invariant_of-s
invariant_of-s g c =
    let r = c.requires in
    let t : LinkedEntry c.args.s.now.seat.me.0 c.args.space c.args.index c.compare_exchange.new.seat.me.0 = (r.picked _ c.args.s.now.seat.me.0 _).0 c.compare_exchange.ensures.2.0 in
    record {
      bare = c.compare_exchange.ensures.2.1 ∙ c.args.s.now.bare;
      tied = tied_stays c.args.s.now.seat.me.0 _ _ (t.same).opening (t.same).number (t.same).numbers (t.own.vars) (t.own.pending) c.args.s.now.tied;
    }

pub returns-clause-caller : goal.returns-clause-caller
returns-clause-caller g c =
    let r = c.requires in
    let t : LinkedEntry c.args.s.now.seat.me.0 c.args.space c.args.index c.compare_exchange.new.seat.me.0 = (r.picked _ c.args.s.now.seat.me.0 _).0 c.compare_exchange.ensures.2.0 in
    (c.compare_exchange.ensures.0 ∙ r.caller.0, caller_same _ c.args.s.now.seat.me.0 _ r.caller.1 (t.same) (t.looks.lawful) (t.own.vars) (t.own.pending) (t.hands))
