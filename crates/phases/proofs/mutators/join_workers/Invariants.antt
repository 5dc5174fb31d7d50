-- The workers before this turn's are taken in, and their replies listed.
use Rattle.std.proofs.Common.{◌≡◌, ◌++◌, ◌≤◌, length, map, vec_capacity}
use Rattle.entry_base.specs.Sessions.{view, IsOf}
use Rattle.phases.specs.declared.mutators.Worker.{Worker}
use Rattle.phases.specs.Sessions.{TookIn}
use Rattle.phases.proofs.mutators.join_workers.Given as goal

abbrev pub invariant-loop-worker : goal.invariant-loop-worker
invariant-loop-worker l = record {
  all : l.yielded ++ l.worker-iterator.rest.items ≡ l.fn.workers.items;
  caller : IsOf l.shared l.first;
  took : TookIn (view l.initial.first) (map (λ (w : Worker). view w.session) l.yielded) (view l.first);
  replied : l.replies.items ≡ map (λ (w : Worker). w.replies.items) l.yielded;
  room : length l.fn.workers.items ≤ vec_capacity l.replies;
}
