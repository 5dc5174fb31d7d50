-- The chunks that were given with numbers.
use Rattle.std.proofs.Common.{ℕ, zero, suc, ◌<◌, List, [], ◌∷◌, length, All, refl, sym, subst, arith}
use mathlib.Core.Option.{some-injective, some-ne-none}
use Rattle.entry_base.specs.declared.chunks.Chunk.{Chunk}
use Rattle.chunk_pool.specs.Claims.{IsGiven}

-- each number below the number of chunks has its chunk, and no other number has one
pub given_there : (xs : List Chunk) (j : ℕ) → j < length xs → (c : Chunk) × IsGiven xs j c
given_there [] j l = absurd (omega arith)
given_there (x ∷ xs) zero l = (x, refl)
given_there (x ∷ xs) (suc j) l = given_there xs j (omega arith)

pub given_within : (xs : List Chunk) (j : ℕ) (c : Chunk) → IsGiven xs j c → j < length xs
given_within [] j c e = absurd (some-ne-none c (sym e))
given_within (x ∷ xs) zero c e = omega arith
given_within (x ∷ xs) (suc j) c e = let r = given_within xs j c e in omega arith

-- what holds of all chunks holds of the one that was given with a number
pub given_all : (P : Chunk → Type 0) (xs : List Chunk) (j : ℕ) (c : Chunk) → All P xs → IsGiven xs j c → P c
given_all P [] j c all e = absurd (some-ne-none c (sym e))
given_all P (x ∷ xs) zero c all e = subst P (some-injective x c e) (all 0 c (omega arith))
given_all P (x ∷ xs) (suc j) c all e = given_all P xs j c (λ k d l. all (suc k) d (omega arith)) e
