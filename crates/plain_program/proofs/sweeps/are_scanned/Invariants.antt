use Rattle.std.proofs.Common.{◌≡◌, true}
use Rattle.std.specs.Prelude.{◌||◌}
use Rattle.std.specs.List.{All}
use Rattle.plain_program.specs.Kept.{shown_cycle}
use Rattle.plain_program.proofs.sweeps.are_scanned.Given as goal

abbrev pub invariant-loop-object : goal.invariant-loop-object
invariant-loop-object l =
    let c = shown_cycle l.cycle in
    All (λ o. (c.scans o || c.born o) ≡ true) l.object-iterator → All (λ o. (c.scans o || c.born o) ≡ true) l.reached.keys
