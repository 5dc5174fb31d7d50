use Rattle.std.proofs.Common.{◌∙◌, refl, arith}
use Rattle.code_steps.proofs.ReleaseKeeps.{releases}
use Rattle.code_steps.proofs.Places.{place_released}
use Rattle.code_steps.proofs.seat.CodeSeat.release.Goals as goal

pub swap-requires : goal.swap-requires
swap-requires c =
    let r = c.requires in
    let sized = r.seat.1.sized in
    let low = r.seat.1.at in
    let here = r.holds.0 in
    (r.seat.0, omega arith, releases _ _ c.args.self.now.seat.me c.args.at c.args.seq r.seat.1.some r.holds.1 r.holds.0 r.seq)

pub returns-clause-caller : goal.returns-clause-caller
returns-clause-caller c =
    let r = c.requires in
    let e = c.swap.ensures in
    let l = e.2.0 c.args.at refl in
    ((e.0 ∙ r.seat.0, place_released _ _ _ c.args.at c.args.seq r.seat.1 l), l.free)
