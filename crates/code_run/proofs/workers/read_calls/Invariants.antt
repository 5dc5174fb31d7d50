use Rattle.std.proofs.Common.{◌≡◌, length}
use Rattle.code_steps.specs.Seats.{view, IsOf}
use Rattle.code_run.specs.Workers.{ReadCalls}
use Rattle.code_run.proofs.workers.read_calls.Given as goal

abbrev pub invariant-loop-r : goal.invariant-loop-r
invariant-loop-r l = record {
  caller : IsOf l.table l.seat;
  entries : length (view l.seat).seen ≡ 4;
  read : ReadCalls (view l.fn.seat) l.r (view l.seat) l.counts;
}
