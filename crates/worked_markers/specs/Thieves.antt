-- A thief of a pool of eight chunks of a table and two thieves.
use Rattle.std.specs.Prelude.{◌≡◌, All, length}
use Rattle.entry_base.specs.declared.table.Shared.{Shared}
use Rattle.entry_base.specs.Sessions.{IsChunkOf}
use Rattle.chunk_pool.specs.declared.pool.Pool.{Pool}
use Rattle.chunk_pool.specs.declared.pool.Thief.{Thief}
use Rattle.chunk_pool.specs.Thieves.{claims_of, IsThiefOf}

pub record IsOneOfTwo (shared : Shared) (p : Pool) (t : Thief) : Type 0 where
  pub thief : IsThiefOf p t
  pub one : (claims_of t).joined ≡ 1
  pub two : (claims_of t).thieves ≡ 2
  pub chunks : All (IsChunkOf shared) (claims_of t).given
  pub eight : length (claims_of t).given ≡ 8
