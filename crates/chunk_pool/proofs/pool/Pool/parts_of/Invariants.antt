use Rattle.std.proofs.Common.{◌≡◌, ◌+◌, ◌-◌, All, length}
use Rattle.chunk_pool.specs.Claims.{fresh_claims}
use Rattle.chunk_pool.specs.Thieves.{claims_of, IsThiefOf}
use Rattle.chunk_pool.proofs.pool.Pool.parts_of.Given as goal

-- what the first thief is, it has not parted with
abbrev pub invariant-loop : goal.invariant-loop
invariant-loop l = record {
  thief : IsThiefOf l.self l.first;
  first : claims_of l.first ≡ record (fresh_claims (claims_of l.fn.first).given l.fn.thieves) { joined = l.fn.thieves - length l.parts.items };
  parted : length l.parts.items + 1 ≡ l.counter;
  fresh : All (λ t. IsThiefOf l.self t × (claims_of t ≡ fresh_claims (claims_of l.fn.first).given l.fn.thieves)) l.parts.items;
}
