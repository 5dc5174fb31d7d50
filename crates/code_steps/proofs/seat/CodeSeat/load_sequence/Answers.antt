use Rattle.std.proofs.Common.{◌∙◌, refl, arith}
use Rattle.code_steps.proofs.LoadKeeps.{loads_sequence}
use Rattle.code_steps.proofs.Places.{place_loaded}
use Rattle.code_steps.proofs.seat.CodeSeat.load_sequence.Goals as goal

pub load-requires : goal.load-requires
load-requires c =
    let r = c.requires in
    let sized = r.caller.0.1.sized in
    let low = r.at in
    (r.caller.0.0, omega arith, loads_sequence _ _ c.args.self.now.seat.me c.args.at r.caller.0.1.some r.caller.1 r.at)

pub returns-clause-caller : goal.returns-clause-caller
returns-clause-caller c =
    let r = c.requires in
    let e = c.load.ensures in
    let l = e.2.0 c.args.at refl in
    ((e.0 ∙ r.caller.0.0, place_loaded _ _ _ c.args.at _ r.caller.0.1 r.at l), l.free)
