use Rattle.std.proofs.Common.{arith}
use Rattle.code_steps.proofs.NumberKeeps.{stores_code}
use Rattle.code_steps.proofs.seat.CodeSeat.store_code.Goals as goal

pub swap-requires : goal.swap-requires
swap-requires c =
    let r = c.requires in
    let sized = r.seat.1.sized in
    let low = r.seat.1.at in
    let here = r.holds.0 in
    (r.seat.0, omega arith, stores_code _ _ c.args.self.now.seat.me c.args.at c.args.code r.seat.1.some r.holds.1 r.holds.0)
