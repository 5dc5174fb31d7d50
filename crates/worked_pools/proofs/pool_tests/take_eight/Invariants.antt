use Rattle.std.proofs.Common.{◌≡◌}
use Rattle.chunk_pool.specs.Thieves.{claims_of, IsThiefOf}
use Rattle.worked_pools.proofs.pool_tests.take_eight.Given as goal

abbrev pub invariant-loop-number : goal.invariant-loop-number
invariant-loop-number g l = record {
  thief : IsThiefOf l.pool l.thief;
  joined : (claims_of l.thief).joined ≡ (claims_of l.fn.thief).joined;
  thieves : (claims_of l.thief).thieves ≡ (claims_of l.fn.thief).thieves;
}
