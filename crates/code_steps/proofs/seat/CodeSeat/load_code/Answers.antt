use Rattle.std.proofs.Common.{arith}
use Rattle.code_steps.proofs.LoadKeeps.{loads_code}
use Rattle.code_steps.proofs.seat.CodeSeat.load_code.Goals as goal

pub load-requires : goal.load-requires
load-requires c =
    let r = c.requires in
    let sized = r.caller.0.1.sized in
    let low = r.at.0 in
    (r.caller.0.0, omega arith, loads_code _ _ c.args.self.now.seat.me c.args.at r.caller.0.1.some r.caller.1 r.at.1)
