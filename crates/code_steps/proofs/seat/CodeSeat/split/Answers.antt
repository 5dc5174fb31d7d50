use Rattle.std.proofs.Common.{◌∙◌, sym, ap, subst, arith}
use Rattle.code_steps.specs.Views.{known_at}
use Rattle.code_steps.specs.Seats.{HasPlace}
use Rattle.code_steps.proofs.SplitKeeps.{splits, giver_place, newcomer_place, newcomer_known}
use Rattle.code_steps.proofs.seat.CodeSeat.split.Goals as goal

pub split_seat-requires : goal.split_seat-requires
split_seat-requires c =
    let r = c.requires in
    let sized = r.caller.0.1.sized in
    let low = r.caller.0.1.at in
    (r.caller.0.0, omega arith, splits _ c.args.self.now.seat.me.0 r.parts r.caller.1)

pub returns-clause-callers : goal.returns-clause-callers
returns-clause-callers c =
    let r = c.requires in
    let e = c.split_seat.ensures in
    let p = r.caller.0.1 in (
      ((e.0 ∙ r.caller.0.0, subst (HasPlace _) (sym (ap (λ m. m.0) e.2)) (giver_place _ c.args.self.now.seat.me.0 p r.parts)), ap (λ m. m.0.holds) e.2 ∙ r.caller.1),
      ((e.3 ∙ r.caller.0.0, subst (HasPlace _) (sym (ap (λ m. m.0) e.4)) (newcomer_place _ c.args.self.now.seat.me.0 p)), ap (λ m. m.0.holds) e.4 ∙ r.caller.1),
    )

pub returns-clause-known : goal.returns-clause-known
returns-clause-known c = λ i.
    let p = c.requires.caller.0.1 in
    let e = c.split_seat.ensures in
    (ap (λ m. known_at m.0 i) e.2, ap (λ m. known_at m.0 i) e.4 ∙ newcomer_known _ c.args.self.now.seat.me.0 i p)
