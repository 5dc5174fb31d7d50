-- An outcome of a valid script leaves no more cells than were put, and says a sum of 48 bits.
use Rattle.std.proofs.Common.{arith}
use Rattle.phase_run.proofs.ValidRuns.{range_of}
use Rattle.table_run.proofs.LiveCells.{live-within_puts, sum-small}
use Rattle.table_run.proofs.soak.summary.Goals as goal

pub soak_text-requires-clause-live : goal.soak_text-requires-clause-live
soak_text-requires-clause-live c =
    let script = c.args.script.now in
    let few = live-within_puts script c.requires.answers.0 c.args.outcome.now (range_of script.limits c.requires.valid.limits) c.requires.answers.1 in
    omega (arith, few)

pub soak_text-requires-clause-sum : goal.soak_text-requires-clause-sum
soak_text-requires-clause-sum c = let small = sum-small c.args.script.now c.requires.answers.0 c.args.outcome.now c.requires.answers.1 in omega (arith, small)
