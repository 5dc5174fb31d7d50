use Rattle.std.proofs.Common.{◌∙◌, ◌+◌, ◌*◌, ◌^◌, sym, subst, arith, set, None}
use Rattle.entry_base.proofs.Steps.{learned_at}
use Rattle.entry_base.specs.Tied.{IsTied}
use Rattle.entry_base.proofs.TiedParts.{tied_ticket}
use Rattle.entry_rule.specs.Looks.{stored_word, Published}
use Rattle.entry_rule.proofs.Publishes.{published_calls, publishes}
use Rattle.entry_rule.proofs.looks.publish_step_as.Goals as goal

pub swap-found-requires : goal.swap-found-requires
swap-found-requires g c =
    let r = c.requires in
    let sized = c.args.shared.now.sized in
    let limits = c.args.shared.now.limits in
    let made = c.args.shared.now.made in (
      r.caller.0,
      c.entry_place.ensures.inside,
      learned_at _ _ _ c.args.s.now.seat.me _ _ (λ x. stored_word c.args.tag c.args.value) (λ x. 2 ^ 62 + c.args.tag * 2 ^ 48 + c.args.value) (λ found w. Published c.args.s.now.seat.me.0 c.args.index w) _ (c.entry_place.ensures.place) (λ n. omega arith) (λ n w learned. (r.picked n c.args.s.now.seat.me.0 w).1 learned)
          (publishes _ _ _ c.args.s.now.seat.me c.args.index c.args.tag c.args.value r.caller.1 r.mutator r.ticket r.inside),
    )

pub invariant_of-s : goal.invariant_of-s
invariant_of-s g c =
    let r = c.requires in
    let t : Published c.args.s.now.seat.me.0 c.args.index c.swap-found.new.seat.me.0 = (r.picked _ c.args.s.now.seat.me.0 _).0 c.swap-found.ensures.2.0 in
    record {
      bare = c.swap-found.ensures.2.1 ∙ c.args.s.now.bare;
      tied = (let number = c.args.s.now.tied.number in subst (λ n. IsTied (record { number = c.args.s.now.number; numbers = c.args.s.now.numbers; vars = c.args.s.now.vars; pending = set c.args.s.now.pending n None; in_cycle = c.args.s.now.in_cycle; area = c.args.s.now.area }) c.swap-found.new.seat.me.0) (sym number) (tied_ticket c.args.s.now.seat.me.0 c.swap-found.new.seat.me.0 _ c.args.s.now.seat.me.0.number None t.same.opening t.same.number t.same.numbers t.rest.0 t.pending c.args.s.now.tied));
    }

pub returns-clause-caller : goal.returns-clause-caller
returns-clause-caller g c =
    let r = c.requires in
    let t : Published c.args.s.now.seat.me.0 c.args.index c.swap-found.new.seat.me.0 = (r.picked _ c.args.s.now.seat.me.0 _).0 c.swap-found.ensures.2.0 in
    (c.swap-found.ensures.0 ∙ r.caller.0, published_calls _ c.args.s.now.seat.me.0 c.args.index _ r.caller.1 t)
