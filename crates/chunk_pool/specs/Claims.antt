-- What thieves have claimed, and how claims change.
use Rattle.std.specs.Prelude.{◌≡◌, ℕ, ◌+◌, ◌-◌, ◌<◌, ◌≤◌, ◌||◌, true, false, List, [], ◌∷◌, ◌++◌, length}
use mathlib.Core.Option.{some}
use lib.ListN.{get_elem?}
use Rattle.entry_base.specs.Lists.{count_in}
use Rattle.entry_base.specs.declared.chunks.Chunk.{Chunk}
use Rattle.chunk_pool.specs.declared.claims.Claims.{Claims}

-- a thief that is one of the thieves, and has claimed nothing
abbrev pub fresh_claims : List Chunk → ℕ → Claims
fresh_claims given thieves = record { given = given; thieves = thieves; joined = 1; taken = []; next = 0; ended = false }

-- one that is all of them
abbrev pub first_claims : List Chunk → ℕ → Claims
first_claims given thieves = record { given = given; thieves = thieves; joined = thieves; taken = []; next = 0; ended = false }

-- a claim below the end, and one that sees the end
abbrev pub with_number : ℕ → Claims → Claims
with_number k v = record v { taken = v.taken ++ k ∷ []; next = k + 1 }

abbrev pub with_end : Claims → Claims
with_end v = record v { ended = true }

-- a thief parts with one of those that it is
abbrev pub giver : Claims → Claims
giver v = record v { joined = v.joined - 1 }

abbrev pub newcomer : Claims → Claims
newcomer v = record v { joined = 1; taken = [] }

-- one thief takes in another, which is none from then on
abbrev pub both : Claims → Claims → Claims
both v u = record v { joined = v.joined + u.joined; taken = v.taken ++ u.taken; ended = v.ended || u.ended }

abbrev pub spent : Claims
spent = record { given = []; thieves = 0; joined = 0; taken = []; next = 0; ended = false }

-- the chunk is the one that was given with the number
abbrev pub IsGiven : List Chunk → ℕ → Chunk → Type 0
IsGiven given k chunk = get_elem? given k ≡ some chunk

-- a claim took the very chunk that was given with the number claimed
pub record Took (v : Claims) (chunk : Chunk) (w : Claims) : Type 0 where
  pub before : v.ended ≡ false
  pub number : ℕ
  pub later : v.next ≤ number
  pub within : number < length v.given
  pub given : IsGiven v.given number chunk
  pub after : w ≡ with_number number v

-- each given chunk was taken once, and nothing else
pub record TookEachOnce (v : Claims) : Type 0 where
  pub each : (k : ℕ) → k < length v.given → count_in k v.taken ≡ 1
  pub others : (k : ℕ) → length v.given ≤ k → count_in k v.taken ≡ 0

-- all thieves of the pool were joined into this one, and it has seen the end
pub record IsWhole (v : Claims) : Type 0 where
  pub all : v.joined ≡ v.thieves
  pub ended : v.ended ≡ true
