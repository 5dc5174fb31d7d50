-- Words near those that show a table, while a segment is being committed: an entry of a segment that is not committed may
-- be linked already, as a free one that links the next index, in place of the word of no access. The other words are the
-- same.
use Rattle.std.specs.Prelude.{◌≡◌, ◌⊎◌, ℕ, ◌+◌, ◌<◌, List, length, slice_index}
use Rattle.plain_table.specs.declared.events.Space.{Space}
use Rattle.plain_table.specs.Table.{Sizes, limit_in}
use Rattle.plain_table.specs.Words.{header_place, entry_place, free_word, no_access_word}

-- the word of an entry was linked where the other one has no access
abbrev pub IsLinkedEntry : ℕ → ℕ → ℕ → Type 0
IsLinkedEntry i word shown = (shown ≡ no_access_word) × (word ≡ free_word (i + 1))

pub record IsNear (sizes : Sizes) (words shown : List ℕ) : Type 0 where
  pub whole : length words ≡ length shown
  pub low : (i : ℕ) → i < header_place sizes.objects → slice_index words i ≡ slice_index shown i
  pub entries : (p : Space) (i : ℕ) → i < limit_in sizes p →
      (slice_index words (entry_place sizes p i) ≡ slice_index shown (entry_place sizes p i))
      ⊎ IsLinkedEntry i (slice_index words (entry_place sizes p i)) (slice_index shown (entry_place sizes p i))
