use Rattle.std.proofs.Common.{◌≡◌, Some, map}
use Rattle.chunk_pool.proofs.pool.slots_of.Given as goal

abbrev pub invariant-loop-chunk : goal.invariant-loop-chunk
invariant-loop-chunk l = record {
  slots : l.slots.items ≡ map Some l.yielded;
}
