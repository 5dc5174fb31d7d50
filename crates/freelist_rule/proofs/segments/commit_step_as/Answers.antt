use Rattle.std.proofs.Common.{◌+◌, ◌*◌, ◌^◌, ◌==◌, ◌∙◌, ap, arith}
use prog.Atomic.{either}
use Rattle.plain_table.specs.Words.{freelist_word}
use Rattle.entry_base.specs.Openings.{sizes_in}
use Rattle.entry_base.proofs.Steps.{learned_at}
use Rattle.entry_base.proofs.OneByOne.{caller_same}
use Rattle.entry_base.proofs.TiedParts.{tied_stays}
use Rattle.freelist_rule.specs.Segments.{Committed}
use Rattle.freelist_rule.proofs.SegmentCommits.{commits_segment}
use Rattle.freelist_rule.proofs.segments.commit_step_as.Goals as goal

pub compare_exchange-requires : goal.compare_exchange-requires
compare_exchange-requires g c =
    let r = c.requires in
    let sized = c.args.shared.now.sized in
    let limits = c.args.shared.now.limits in
    let made = c.args.shared.now.made in (
      r.caller.0,
      (let low = c.freelist_place.ensures.low in omega arith),
      learned_at _ _ _ c.args.s.now.seat.me _ _ (λ n. either (n == c.args.head) (freelist_word c.args.head (sizes_in c.args.s.now.seat.me.0.opening).seg) n) _ (λ found w. Committed c.args.s.now.seat.me.0 c.args.space c.args.head found w) _ (c.freelist_place.ensures.place) (λ n. ap (λ x. either (n == c.args.head) x n) {x = c.args.head + 2 ^ 32 * c.args.shared.now.seg} {y = freelist_word c.args.head (sizes_in c.args.s.now.seat.me.0.opening).seg} (let same = ap (λ k. (sizes_in k).seg) r.caller.1.opened in omega arith)) (λ n w learned. (r.picked n c.args.s.now.seat.me.0 w).1 learned)
          (commits_segment _ _ _ c.args.s.now.seat.me c.args.space c.args.head r.loaded.0 r.caller.1 r.loaded.1 r.below r.linked),
    )

pub invariant_of-s : goal.invariant_of-s
invariant_of-s g c =
    let r = c.requires in
    let t : Committed c.args.s.now.seat.me.0 c.args.space c.args.head c.compare_exchange.result c.compare_exchange.new.seat.me.0 = (r.picked _ c.args.s.now.seat.me.0 _).0 c.compare_exchange.ensures.2.0 in
    record {
      bare = c.compare_exchange.ensures.2.1 ∙ c.args.s.now.bare;
      tied = tied_stays c.args.s.now.seat.me.0 _ _ (t.same).opening (t.same).number (t.same).numbers (t.own.vars) (t.own.pending) c.args.s.now.tied;
    }

pub returns-clause-caller : goal.returns-clause-caller
returns-clause-caller g c =
    let r = c.requires in
    let t : Committed c.args.s.now.seat.me.0 c.args.space c.args.head c.compare_exchange.result c.compare_exchange.new.seat.me.0 = (r.picked _ c.args.s.now.seat.me.0 _).0 c.compare_exchange.ensures.2.0 in
    (c.compare_exchange.ensures.0 ∙ r.caller.0, caller_same _ c.args.s.now.seat.me.0 _ r.caller.1 (t.same) (t.looks.lawful) (t.own.vars) (t.own.pending) (t.hands))
