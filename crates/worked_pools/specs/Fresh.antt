-- A thief of a pool of two that has claimed nothing.
use Rattle.std.specs.Prelude.{◌≡◌}
use Rattle.chunk_pool.specs.declared.pool.Pool.{Pool}
use Rattle.chunk_pool.specs.declared.pool.Thief.{Thief}
use Rattle.chunk_pool.specs.Thieves.{claims_of, IsThiefOf}

pub record IsFresh (p : Pool) (t : Thief) : Type 0 where
  pub thief : IsThiefOf p t
  pub one : (claims_of t).joined ≡ 1
  pub two : (claims_of t).thieves ≡ 2
