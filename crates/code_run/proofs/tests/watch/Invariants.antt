use Rattle.std.proofs.Common.{◌<◌, length}
use Rattle.code_steps.specs.Seats.{view, IsOf}
use Rattle.code_run.proofs.tests.watch.Given as goal

abbrev pub invariant-loop : goal.invariant-loop
invariant-loop l = record {
  caller : IsOf l.table l.seat;
  entries : 0 < length (view l.seat).seen;
}
