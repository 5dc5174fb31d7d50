use Rattle.std.proofs.Common.{◌∙◌, refl, arith}
use Rattle.code_steps.proofs.ClaimKeeps.{claims}
use Rattle.code_steps.proofs.Places.{place_claimed}
use Rattle.code_steps.proofs.seat.CodeSeat.claim.Goals as goal

pub compare_exchange-requires : goal.compare_exchange-requires
compare_exchange-requires c =
    let r = c.requires in
    let sized = r.caller.0.1.sized in
    let low = r.at.0 in
    (r.caller.0.0, omega arith, claims _ _ c.args.self.now.seat.me c.args.at c.args.expected r.caller.0.1.some r.caller.1 r.at.0 r.at.1 r.even.0)

pub returns-clause-seat : goal.returns-clause-seat
returns-clause-seat c =
    let r = c.requires in
    let e = c.compare_exchange.ensures in
    (e.0 ∙ r.caller.0.0, place_claimed _ _ _ c.args.at c.args.expected _ r.caller.0.1 (e.2.0 c.args.at refl))
