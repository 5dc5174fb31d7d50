-- What the visit of an external field at a pause writes: the mark of the cell that its word names, and where that cell
-- stands in the area, an evacuation entry at the head of the freelist, or the abort of the compaction.
use Rattle.std.specs.Prelude.{ℕ, ◌+◌, ◌-◌, ◌/◌, ◌%◌, ◌^◌, nat_lt, nat_le, ◌&&◌, if◌then◌else◌, List, slice_index, slice_set, Option, Some, None}
use Rattle.plain_table.specs.declared.events.Field.TheVariants as field
use Rattle.plain_table.specs.Index.{index_of}
use Rattle.plain_table.specs.Words.{evacuation_word, freelist_word, field_place}
use Rattle.word_laws.specs.Kinds.{is_cell_word}
use Rattle.word_laws.specs.Runs.{marked_after}
use Rattle.sweeper.specs.Whole.{moving_of}

abbrev pub entry_taken : List ℕ → (base head number : ℕ) → List ℕ
entry_taken words base head number =
    slice_set (slice_set words 0 (freelist_word (slice_index words (base + head) % 2 ^ 32) (slice_index words 0 / 2 ^ 32 - 1))) (base + head) (evacuation_word number)

abbrev pub entered : List ℕ → (base start number : ℕ) → List ℕ
entered words base start number =
    if nat_lt 0 (slice_index words 0 / 2 ^ 32) && nat_lt (slice_index words 0 % 2 ^ 32) start
    then entry_taken words base (slice_index words 0 % 2 ^ 32) number
    else slice_set words 1 (start + 2 ^ 32)

abbrev pub moved_by : Option ℕ → List ℕ → (base limit number i : ℕ) → List ℕ
moved_by None words base limit number i = words
moved_by (Some start) words base limit number i =
    if nat_le start i && nat_lt i limit && is_cell_word (slice_index words (base + i)) then entered words base start number else words

abbrev pub moved_out : List ℕ → (base limit number i : ℕ) → List ℕ
moved_out words base limit number i = moved_by (moving_of (slice_index words 1)) words base limit number i

abbrev pub visited : List ℕ → (base limit number : ℕ) → List ℕ
visited words base limit number =
    moved_out (marked_after words base limit (index_of (slice_index words (field_place (field.External number))))) base limit number
    (index_of (slice_index words (field_place (field.External number))))
