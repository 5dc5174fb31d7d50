-- The rule of a pool: a chunk that no one claimed lies in its slot, and each number that was claimed is one thief's.
use Rattle.std.specs.Prelude.{◌≡◌, ℕ, ◌+◌, ◌<◌, ◌≤◌, ◌⊎◌, if◌then◌else◌, true, List, [], ◌∷◌, length, slice_index, Option, Some}
use mathlib.Core.Option.{some}
use lib.ListN.{get_elem?}
use Rattle.atomic_table.specs.Table.{State, Step, Me}
use Rattle.entry_base.specs.Lists.{total, count_in}
use Rattle.entry_base.specs.declared.chunks.Chunk.{Chunk}
use Rattle.chunk_pool.specs.declared.claims.Claims.{Claims}
use Rattle.chunk_pool.specs.Claims.{spent, with_number, with_end, IsGiven, IsWhole, TookEachOnce}

-- how often a thief took the chunk of a number
abbrev pub times : ℕ → Claims → ℕ
times k v = count_in k v.taken

-- how many of the thieves a thief is, and how many of them have seen the end
abbrev pub parts : Claims → ℕ
parts v = v.joined

abbrev pub ends : Claims → ℕ
ends v = if v.ended then v.joined else 0

-- what a thief's claims say, in a pool of these chunks and of `made` thieves, after `claims` claims of all of them
pub record Holds (chunks : List Chunk) (made : ℕ) (claims : ℕ) (v : Claims) : Type 0 where
  pub given : v.given ≡ chunks
  pub thieves : v.thieves ≡ made
  pub end : v.ended ≡ true → length chunks ≤ claims
  pub next : v.next ≤ claims

-- the rule of a pool of these chunks and of `made` thieves; its word is the number of claims
pub record Kept (chunks : List Chunk) (made : ℕ) (t : State (Option Chunk) Claims) : Type 0 where
  pub few : length chunks ≤ 512
  pub few_thieves : made ≤ 4
  pub one_word : length t.words ≡ 1
  -- a chunk that no one claimed lies in its slot
  pub home : (k : ℕ) (chunk : Chunk) → slice_index t.words 0 ≤ k → IsGiven chunks k chunk → get_elem? t.homes k ≡ some (some (Some chunk))
  -- each number that was claimed is one thief's, and no other number is any thief's
  pub once : (k : ℕ) → k < length chunks → k < slice_index t.words 0 → total (times k) t.views ≡ 1
  pub none : (k : ℕ) → slice_index t.words 0 ≤ k ⊎ length chunks ≤ k → total (times k) t.views ≡ 0
  -- each claim past the end is that of a thief that saw the end by it, so there are no more claims than chunks and thieves
  pub bound : slice_index t.words 0 ≤ length chunks + total ends t.views
  pub all : total parts t.views ≡ made
  -- what each seat's claims say; one that was joined into another claims nothing
  pub idle : (seat : ℕ) (v : Claims) → get_elem? t.views seat ≡ some v → v.joined ≡ 0 → v ≡ spent
  pub known : (seat : ℕ) (v : Claims) → get_elem? t.views seat ≡ some v → 0 < v.joined → Holds chunks made (slice_index t.words 0) v

-- a claim that found a number below the end, and one past it
pub record Won (m : Me (Option Chunk) Claims) (found : ℕ) (n : Me (Option Chunk) Claims) : Type 0 where
  pub later : m.0.next ≤ found
  pub chunk : Chunk
  pub given : IsGiven m.0.given found chunk
  pub after : n ≡ (with_number found m.0, (found, Some chunk) ∷ [])

pub record Lost (m n : Me (Option Chunk) Claims) : Type 0 where
  pub after : n ≡ (with_end m.0, [])
  pub whole : IsWhole n.0 → TookEachOnce n.0

-- what a thief learns by a claim, by giving a slot back and by a load
abbrev pub claimed : Step (Option Chunk) → Me (Option Chunk) Claims → ℕ → Me (Option Chunk) Claims → Type 0
claimed s m found n = (found < length m.0.given → Won m found n) × (length m.0.given ≤ found → Lost m n)

abbrev pub gave_back : Step (Option Chunk) → Me (Option Chunk) Claims → ℕ → Me (Option Chunk) Claims → Type 0
gave_back s m found n = n ≡ (m.0, [])

abbrev pub learned : Step (Option Chunk) → Me (Option Chunk) Claims → ℕ → Me (Option Chunk) Claims → Type 0
learned s m found n = (n ≡ m) × (IsWhole m.0 → TookEachOnce m.0)
