use Rattle.std.proofs.Common.{◌≡◌, ◌+◌, ◌-◌, ◌*◌, ◌/◌, ◌^◌, ◌==◌, ◌∙◌, ap, arith}
use prog.Atomic.{either}
use Rattle.plain_table.specs.declared.events.Act.TheVariants as act
use Rattle.plain_table.specs.declared.events.Space.TheVariants.{External}
use Rattle.plain_table.specs.Words.{freelist_word}
use Rattle.entry_base.proofs.Steps.{learned_at}
use Rattle.freelist_rule.specs.Freelists.{Took}
use Rattle.freelist_rule.proofs.HeadTakes.{takes_below, took_calls, took_tied}
use Rattle.freelist_rule.proofs.freelists.exchange_head_below_as.Goals as goal

pub compare_exchange-requires : goal.compare_exchange-requires
compare_exchange-requires g c =
    let r = c.requires in
    let sized = c.args.shared.now.sized in
    let limits = c.args.shared.now.limits in
    let made = c.args.shared.now.made in (
      r.caller.0,
      (let low = c.freelist_place.ensures.low in omega arith),
      learned_at _ _ _ c.args.s.now.seat.me _ _ (λ n. either (n == c.args.word) (freelist_word c.args.next (c.args.word / 2 ^ 32 - 1)) n) _ (λ found w. Took c.args.s.now.seat.me.0 External (act.Below c.args.start) c.args.word found w) _ (c.freelist_place.ensures.place) (λ n. ap (λ x. either (n == c.args.word) x n) (let same : c.args.next + 4294967296 * (c.args.word / 4294967296 - 1) ≡ freelist_word c.args.next (c.args.word / 2 ^ 32 - 1) = omega arith in same)) (λ n w learned. (r.picked n c.args.s.now.seat.me.0 w).1 learned)
          (takes_below _ _ _ c.args.s.now.seat.me c.args.start c.args.word r.loaded.0 c.args.next (c.args.word / 2 ^ 32 - 1) r.caller.1 r.area r.below r.loaded.1 (omega (arith, r.some)) r.linked (omega arith)),
    )

pub invariant_of-s : goal.invariant_of-s
invariant_of-s g c =
    let r = c.requires in
    let t : Took c.args.s.now.seat.me.0 External (act.Below c.args.start) c.args.word c.compare_exchange.result c.compare_exchange.new.seat.me.0 = (r.picked _ c.args.s.now.seat.me.0 _).0 c.compare_exchange.ensures.2.0 in
    record {
      bare = c.compare_exchange.ensures.2.1 ∙ c.args.s.now.bare;
      tied = took_tied _ _ _ _ _ _ _ c.args.s.now.tied t;
    }

pub returns-clause-caller : goal.returns-clause-caller
returns-clause-caller g c =
    let r = c.requires in
    let t : Took c.args.s.now.seat.me.0 External (act.Below c.args.start) c.args.word c.compare_exchange.result c.compare_exchange.new.seat.me.0 = (r.picked _ c.args.s.now.seat.me.0 _).0 c.compare_exchange.ensures.2.0 in
    (c.compare_exchange.ensures.0 ∙ r.caller.0, took_calls _ _ _ _ _ _ _ r.caller.1 t)
