use Rattle.std.proofs.Common.{◌≡◌, ◌-◌, length}
use Rattle.chunk_pool.specs.Thieves.{claims_of, IsThiefOf}
use Rattle.worked_pools.proofs.thieves.drain.Given as goal

abbrev pub invariant-loop-chunk : goal.invariant-loop-chunk
invariant-loop-chunk l = record {
  thief : IsThiefOf l.pool l.thief;
  joined : (claims_of l.thief).joined ≡ (claims_of l.fn.thief).joined;
  thieves : (claims_of l.thief).thieves ≡ (claims_of l.fn.thief).thieves;
}

abbrev pub decreases-loop-chunk : goal.decreases-loop-chunk
decreases-loop-chunk l = length (claims_of l.thief).given - (claims_of l.thief).next
