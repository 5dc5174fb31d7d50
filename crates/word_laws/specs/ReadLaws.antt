-- What is read in words: the cell that stands at an index, by the bits of its entry word, and what a look at it answers;
-- the start of the evacuation area and the abort, by the area word; and whether a free index is left below the area, by
-- the freelist word. The entry words may be those that are near the ones that show the table.
use Rattle.std.specs.Prelude.{◌≡◌, ◌≢◌, ◌⊎◌, ℕ, ◌/◌, ◌%◌, ◌^◌, ◌<◌, ◌≤◌, ◌==◌, nat_le, Bool, ◌&&◌, ◌||◌, if◌then◌else◌, List, slice_index, Option, Some, None, IsSome, IfSome}
use Rattle.plain_table.specs.declared.events.Cell.{Cell}
use Rattle.plain_table.specs.declared.events.Space.{Space}
use Rattle.plain_table.specs.declared.events.Space.TheVariants.{External}
use Rattle.plain_table.specs.declared.reports.Reply.{Reply}
use Rattle.plain_table.specs.declared.reports.Reply.TheVariants as reply
use Rattle.plain_table.specs.Index.{index_of}
use Rattle.plain_table.specs.Cycle.{Cycle, start_in, moves_from}
use Rattle.plain_table.specs.Table.{Table, Sizes, limit_in, limit_of}
use Rattle.plain_table.specs.Rows.{is_asked, look, free_below}
use Rattle.plain_table.specs.Sound.{IsSound}
use Rattle.plain_table.specs.Words.{area_place, freelist_place, entry_place, cell_word}
use Rattle.plain_table.specs.Near.{IsNear}
use Rattle.plain_table.specs.Shows.{Shows}
use Rattle.word_laws.specs.Small.{AreSmall}

-- an entry word has the tag in bits 48 to 55 and the value below; bit 59 tells that the cell can't be seen, and bit 62
-- that it is marked
abbrev pub tag_bits : ℕ → ℕ
tag_bits word = word / 2 ^ 48 % 256

abbrev pub value_bits : ℕ → ℕ
value_bits word = word % 2 ^ 48

abbrev pub has_shown : ℕ → Bool
has_shown word = word / 2 ^ 59 % 2 == 0

abbrev pub has_mark : ℕ → Bool
has_mark word = word / 2 ^ 62 % 2 == 1

-- the word is that of the cell at an index, and its bits are the cell's parts
pub record IsWordOf (cycle : Option Cycle) (p : Space) (i : ℕ) (cell : Cell) (word : ℕ) : Type 0 where
  pub tag : tag_bits word ≡ cell.tag
  pub value : value_bits word ≡ cell.value
  pub shown : has_shown word ≡ cell.shown
  pub mark : IfSome cycle (λ c. has_mark word ≡ c.marks p i)
  pub whole : word ≡ cell_word cell (has_mark word)

-- a cell stands just where the tag bits are not 0
pub record EntryTells (s : Table) (p : Space) (i word : ℕ) : Type 0 where
  pub cell : (found : Cell) → s.cells p i ≡ Some found → IsWordOf s.cycle p i found word
  pub none : s.cells p i ≡ None → tag_bits word ≡ 0
  pub some : IsSome (s.cells p i) → tag_bits word ≢ 0

abbrev pub EntryWordsTell : Type 0
EntryWordsTell =
    (words shown : List ℕ) (s : Table) (p : Space) (i : ℕ) → IsSound s → AreSmall s.sizes → Shows shown s → IsNear s.sizes words shown →
    i < limit_of s p → EntryTells s p i (slice_index words (entry_place s.sizes p i))

-- what a look answers by the entry word at the index: the value bits, where the cell is shown and its tag is asked
abbrev pub seen_by : ℕ → ℕ → ℕ → Reply
seen_by found first last =
    if has_shown found && is_asked first last (tag_bits found) then reply.Value (value_bits found) else reply.Fault

-- and by all words: null for index 0, and a fault past the limit of the space
abbrev pub look_by : List ℕ → Sizes → Space → ℕ → ℕ → ℕ → Reply
look_by words sizes p word first last =
    if index_of word == 0 then reply.Null
    else (if nat_le (limit_in sizes p) (index_of word) then reply.Fault
    else seen_by (slice_index words (entry_place sizes p (index_of word))) first last)

-- tag 0 is not asked
abbrev pub LooksRead : Type 0
LooksRead =
    (words shown : List ℕ) (s : Table) (p : Space) (word first last : ℕ) → IsSound s → AreSmall s.sizes → Shows shown s →
    IsNear s.sizes words shown → 1 ≤ first → look s p word first last ≡ look_by words s.sizes p word first last

-- the area word has the start in its lower 32 bits, 0 where there is none, and bit 32 where the compaction is aborted; the
-- area begins at an index of the external space other than 0
pub record AreaTells (s : Table) (word : ℕ) : Type 0 where
  pub start : start_in s.cycle ≡ (if word % 2 ^ 32 == 0 then None else Some (word % 2 ^ 32))
  pub aborted : IfSome s.cycle (λ c. c.aborted ≡ (word / 2 ^ 32 == 1))
  pub idle : s.cycle ≡ None → word ≡ 0
  -- cells move from the start, where there is one and the compaction is not aborted
  pub moves : IfSome s.cycle (λ c. moves_from c ≡ (if (word == 0) || nat_le (2 ^ 32) word then None else Some word))
  pub within : (first : ℕ) → start_in s.cycle ≡ Some first → (1 ≤ first) × (first < limit_of s External)

abbrev pub AreaWordsTell : Type 0
AreaWordsTell =
    (words : List ℕ) (s : Table) → IsSound s → AreSmall s.sizes → Shows words s → AreaTells s (slice_index words area_place)

-- by the head and the length of the external freelist, the least free index below a start: none, where the list is empty
-- or its head is not below the start, and else the head
pub record FreeBelowTells (s : Table) (start head len : ℕ) : Type 0 where
  pub none : (len ≡ 0) ⊎ (start ≤ head) → free_below s start ≡ None
  pub some : len ≢ 0 → head < start → free_below s start ≡ Some head

abbrev pub FreeBelowRead : Type 0
FreeBelowRead =
    (words : List ℕ) (s : Table) (start : ℕ) → IsSound s → AreSmall s.sizes → Shows words s → start_in s.cycle ≡ Some start →
    FreeBelowTells s start (slice_index words (freelist_place External) % 2 ^ 32) (slice_index words (freelist_place External) / 2 ^ 32)
