-- The kinds of entry words that a sweep tells apart, by the ranges that the words stand in: a cell's, an evacuation entry's,
-- and a marked one; and that they tell what stands at an index in a cycle.
use Rattle.std.specs.Prelude.{◌≡◌, ℕ, ◌^◌, ◌<◌, nat_le, nat_lt, Bool, ◌&&◌, ◌||◌, List, slice_index, Some, is_some}
use Rattle.plain_table.specs.declared.events.Space.{Space}
use Rattle.plain_table.specs.Cycle.{Cycle}
use Rattle.plain_table.specs.Table.{Table, limit_of}
use Rattle.plain_table.specs.Sound.{IsSound}
use Rattle.plain_table.specs.Words.{entry_place}
use Rattle.plain_table.specs.Shows.{Shows, entry_at}
use Rattle.word_laws.specs.Small.{AreSmall}

abbrev pub is_marked_word : ℕ → Bool
is_marked_word word = nat_le (2 ^ 62) word

abbrev pub is_evacuation_word : ℕ → Bool
is_evacuation_word word = nat_le (2 ^ 58) word && nat_lt word (2 ^ 59)

abbrev pub is_cell_word : ℕ → Bool
is_cell_word word = (nat_le (2 ^ 48) word && nat_lt word (2 ^ 56)) || nat_le (2 ^ 59) word

-- what the word of a kind tells
pub record IsKind (word : ℕ) (cell evacuation marked : Bool) : Type 0 where
  pub is_cell : is_cell_word word ≡ cell
  pub is_evacuation : is_evacuation_word word ≡ evacuation
  pub is_marked : is_marked_word word ≡ marked

-- in a cycle: whether a cell stands at the index, an evacuation entry does, and the cell is marked
abbrev pub EntryKindsTell : Type 0
EntryKindsTell =
    (words : List ℕ) (s : Table) (c : Cycle) (p : Space) (i : ℕ) → IsSound s → AreSmall s.sizes → Shows words s → s.cycle ≡ Some c →
    i < limit_of s p → IsKind (slice_index words (entry_place s.sizes p i)) (is_some (s.cells p i)) (is_some (entry_at s p i)) (c.marks p i)
