-- Runs of events by the meeting, and the words after one that marks the cell at an index.
use Rattle.std.specs.Prelude.{◌≡◌, ℕ, ◌+◌, ◌*◌, ◌^◌, nat_lt, ◌&&◌, if◌then◌else◌, List, slice_index, slice_set}
use Rattle.std.specs.List.{All}
use Rattle.plain_table.specs.declared.events.Event.{Event}
use Rattle.plain_table.specs.declared.events.Space.{Space}
use Rattle.plain_table.specs.declared.events.Space.TheVariants.{External, Trusted}
use Rattle.plain_table.specs.Table.{Table, limit_of}
use Rattle.plain_table.specs.History.{IsLegalHistory, after}
use Rattle.plain_table.specs.Scans.{Scanner, Scans, IsReadAtMeet}
use Rattle.plain_table.specs.Shows.{Shows}
use Rattle.plain_table.specs.Sweeps.{meeting, MayScanAtMeet}
use Rattle.word_laws.specs.Kinds.{is_marked_word, is_cell_word}

-- a run of events by the meeting, from one point of its scans to another: it is legal, and the words after it show the
-- table after it
pub record IsRun (linked : List ℕ) (at to : Scanner) (now : List ℕ) (s : Table) (es : List Event) : Type 0 where
  pub legal : IsLegalHistory s es
  pub own : All (λ (e : Event). e.by ≡ meeting) es
  pub shows : Shows now (after s es)
  pub scans : Scans (MayScanAtMeet linked) IsReadAtMeet meeting at s es to

-- where the entries of a space stand
abbrev pub base_of : Table → Space → ℕ
base_of s External = 32 + 8 * s.sizes.objects
base_of s Trusted = 32 + 8 * s.sizes.objects + limit_of s External

-- a cell's word with the marking bit
abbrev pub with_bit : ℕ → ℕ
with_bit word = if is_marked_word word then word else word + 2 ^ 62

-- the words after the mark of an index: its cell, where it has one, is marked
abbrev pub marked_after : List ℕ → (base limit i : ℕ) → List ℕ
marked_after words base limit i =
    if nat_lt i limit && is_cell_word (slice_index words (base + i)) then slice_set words (base + i) (with_bit (slice_index words (base + i))) else words
