-- One layout: the numbers by which the model and the tags speak of words are those of the entries.
use Rattle.std.specs.Prelude.{◌≡◌, ℕ, Bool, if◌then◌else◌}
use Rattle.plain_table.specs.declared.events.Cell.{Cell}
use Rattle.plain_table.specs.Words.{cell_word, free_word, evacuation_word, no_access_word}
use Rattle.tag_set.specs.Strip.{regular_word}
use Rattle.entry_word.specs.declared.Entry.{Entry}
use Rattle.entry_word.specs.declared.Entry.TheVariants.{NoAccess, Free, Evac, Regular, Unshown}
use Rattle.entry_word.specs.Entry.{entry_word}

-- the entry of a cell
abbrev pub entry_of : Cell → Bool → Entry
entry_of cell marked = if cell.shown then Regular cell.tag cell.value marked else Unshown cell.tag cell.value marked

pub record IsOneLayout : Type 0 where
  pub no_access : entry_word NoAccess ≡ no_access_word
  pub free : (next : ℕ) → entry_word (Free next) ≡ free_word next
  pub evacuation : (number : ℕ) → entry_word (Evac number) ≡ evacuation_word number
  pub cells : (cell : Cell) (marked : Bool) → entry_word (entry_of cell marked) ≡ cell_word cell marked
  pub regular : (tag value : ℕ) (marked : Bool) → entry_word (Regular tag value marked) ≡ regular_word tag value marked
