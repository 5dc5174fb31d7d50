use Rattle.mutator_calls.specs.Calls.{IsReady}
use Rattle.worked_pools.proofs.chunks.image_with_roots.Given as goal

abbrev pub invariant-loop-var : goal.invariant-loop-var
invariant-loop-var g l = IsReady l.mutator
