-- What a thief that takes chunks stays.
use Rattle.std.proofs.Common.{◌≡◌, ℕ, List, [], ◌∷◌, ap, ◌∙◌}
use Rattle.entry_base.specs.declared.chunks.Chunk.{Chunk}
use Rattle.chunk_pool.specs.declared.claims.Claims.{Claims}
use Rattle.chunk_pool.specs.Claims.{with_number}
use Rattle.marker.specs.Steals.{TookAll}

pub TookAll-same : (A : Type 0) (f : Claims → A) → ((k : ℕ) (t : Claims) → f (with_number k t) ≡ f t) → (t : Claims) (chunks : List Chunk) (u : Claims) → TookAll t chunks u → f u ≡ f t
TookAll-same A f keeps t [] u is = ap f is
TookAll-same A f keeps t (chunk ∷ chunks) u (mid, took, rest) = TookAll-same A f keeps mid chunks u rest ∙ ap f took.after ∙ keeps took.number t
