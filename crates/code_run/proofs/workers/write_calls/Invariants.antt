use Rattle.std.proofs.Common.{◌≡◌, length}
use Rattle.code_steps.specs.Seats.{view, IsOf}
use Rattle.code_run.specs.Workers.{WroteCalls}
use Rattle.code_run.proofs.workers.write_calls.Given as goal

abbrev pub invariant-loop-r : goal.invariant-loop-r
invariant-loop-r l = record {
  caller : IsOf l.table l.seat;
  entries : length (view l.seat).seen ≡ 4;
  wrote : WroteCalls (view l.fn.seat) l.writer l.r (view l.seat) l.counts;
}
