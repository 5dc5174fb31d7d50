-- What a clause says of a thief and its pool.
use Rattle.std.specs.Prelude.{◌≡◌, ℕ, ◌<◌, ◌≤◌, ◌⊎◌, List, [], ◌∷◌, length, Option, None}
use Rattle.entry_base.specs.Lists.{count_in}
use Rattle.entry_base.specs.declared.chunks.Chunk.{Chunk}
use Rattle.chunk_pool.specs.declared.claims.Claims.{Claims}
use Rattle.chunk_pool.specs.declared.pool.Pool.{Pool}
use Rattle.chunk_pool.specs.declared.pool.Thief.{Thief}

-- what a thief has claimed
abbrev pub claims_of : Thief → Claims
claims_of t = t.seat.me.0

-- the slots that are out with a thief: none, or the emptied slot of a chunk that it took
abbrev pub AreEmptied : Claims → List (ℕ × Option Chunk) → Type 0
AreEmptied v out = (out ≡ []) ⊎ ((k : ℕ) × (out ≡ (k, None) ∷ []) × (0 < count_in k v.taken))

-- a thief of this pool
pub record IsThiefOf (p : Pool) (t : Thief) : Type 0 where
  pub table : t.seat.table_id ≡ p.table.shared.table_id
  pub slots : p.table.shared.table_id.slots ≡ length (claims_of t).given
  pub few : length (claims_of t).given ≤ 512
  pub live : 0 < (claims_of t).joined
  pub out : AreEmptied (claims_of t) t.seat.me.1
