-- The rank of a freelist word. While mutators run a freelist only moves forward: an index is taken from it, or a segment
-- is committed to an empty one. Each move raises the rank, so that no word comes twice.
use Rattle.std.specs.Prelude.{◌≡◌, ◌≢◌, ◌⊎◌, ℕ, ◌+◌, ◌*◌, ◌/◌, ◌%◌, ◌^◌, ◌==◌, ◌<◌, ◌≤◌, if◌then◌else◌, List, length, slice_index, IsTrue}
use Rattle.plain_table.specs.declared.events.Space.{Space}
use Rattle.plain_table.specs.Table.{Table, limit_of}
use Rattle.plain_table.specs.Words.{free_word, freelist_word}
use Rattle.plain_table.specs.Shows.{SpaceShows}

-- twice the head, and 1 more where the list is not empty
abbrev pub rank : ℕ → ℕ
rank word = 2 * (word % 2 ^ 32) + (if word / 2 ^ 32 == 0 then 0 else 1)

-- an index is taken: the list is one shorter, and its head is a greater index
pub record IsTaken (old new : ℕ) : Type 0 where
  pub shorter : old / 2 ^ 32 ≡ new / 2 ^ 32 + 1
  pub greater : old % 2 ^ 32 < new % 2 ^ 32

-- a segment is committed: the list was empty, and begins where it ended
pub record IsCommitted (old new : ℕ) : Type 0 where
  pub empty : old / 2 ^ 32 ≡ 0
  pub filled : 1 ≤ new / 2 ^ 32
  pub same : new % 2 ^ 32 ≡ old % 2 ^ 32

-- a take raises the rank, and a commit raises it by 1
abbrev pub RanksRise : Type 0
RanksRise = (old new : ℕ) → (IsTaken old new → rank old < rank new) × (IsCommitted old new → rank new ≡ rank old + 1)

-- words that come one after another, each by a move
abbrev pub AreMoves : List ℕ → Type 0
AreMoves words =
    (i : ℕ) → i + 1 < length words →
    IsTaken (slice_index words i) (slice_index words (i + 1)) ⊎ IsCommitted (slice_index words i) (slice_index words (i + 1))

-- no word comes twice among them
abbrev pub WordsComeOnce : Type 0
WordsComeOnce = (words : List ℕ) (i j : ℕ) → AreMoves words → i < j → j < length words → slice_index words i ≢ slice_index words j

-- where words show a table, the freelist with the index that its head links as its new head is a take
abbrev pub HeadsAreTaken : Type 0
HeadsAreTaken =
    (s : Table) (p : Space) (entry : ℕ → ℕ) (freelist committed next len : ℕ) → SpaceShows s p entry freelist committed →
    IsTrue (s.used p 0) → limit_of s p < 2 ^ 32 → freelist / 2 ^ 32 ≡ len + 1 → entry (freelist % 2 ^ 32) ≡ free_word next →
    IsTaken freelist (freelist_word next len)
