-- The numbers below this turn's are given out, each with room for its replies.
use Rattle.std.proofs.Common.{◌≡◌, ◌≤◌, ◌<◌, ℕ, [], length, slice_index_or, vec_capacity}
use Rattle.entry_base.specs.Sessions.{view, IsOf}
use Rattle.phases.specs.declared.mutators.Worker.{Worker}
use Rattle.phases.specs.Sessions.{GaveOut, IsGiven}
use Rattle.phases.specs.Workers.{MayCall}
use Rattle.phases.proofs.mutators.split_workers.Given as goal

abbrev pub invariant-loop-number : goal.invariant-loop-number
invariant-loop-number l = record {
  caller : IsOf l.shared l.first;
  gave : GaveOut (view l.initial.first) 0 l.number (view l.first);
  long : length l.workers.items ≡ l.number;
  room : length l.calls ≤ vec_capacity l.workers;
  may : (i : ℕ) (d : Worker) → i < l.number → MayCall l.shared (slice_index_or l.calls i []) (slice_index_or l.workers.items i d);
  given : (i : ℕ) (d : Worker) → i < l.number → IsGiven (view l.initial.first) i (view (slice_index_or l.workers.items i d).session);
}
