use Rattle.std.proofs.Common.{arith}
use Rattle.code_run.proofs.tests.watch.Goals as goal

pub loop-preserved : goal.loop-preserved
loop-preserved c =
    let e = c.read.ensures in
    let a = e.caller.0.1.sized in
    let b = c.loop.invariant.caller.0.1.sized in
    let d = c.loop.invariant.entries in
    record { caller = e.caller; entries = omega arith }
