-- Exchanges of values: the words after one, and what one is at the level of tables.
use Rattle.std.specs.Prelude.{◌≡◌, ◌⊎◌, ℕ, ◌+◌, ◌*◌, ◌^◌, List, slice_index, slice_set}
use Rattle.plain_table.specs.declared.events.Space.TheVariants.{External}
use Rattle.plain_table.specs.declared.reports.Reply.{Reply}
use Rattle.plain_table.specs.declared.reports.Reply.TheVariants as reply
use Rattle.plain_table.specs.Index.{index_of}
use Rattle.plain_table.specs.Table.{Table}
use Rattle.plain_table.specs.Rows.{HasCell, look, value_at, with_value}
use Rattle.plain_table.specs.Shapes.{IsMiss}
use Rattle.word_laws.specs.ReadLaws.{tag_bits}
use Rattle.entry_word.specs.Image.{image_of}
use Rattle.mutator_calls.specs.declared.heap.Mutator.{Mutator}
use Rattle.mutator_calls.specs.Calls.{HandsOver, Sees}

-- the word of a marked cell that has the tag of an entry's word, and another value
abbrev pub valued_word : ℕ → ℕ → ℕ
valued_word word value = value + 2 ^ 48 * tag_bits word + 2 ^ 62

-- where a look found a value, the word at the place gets another one
abbrev pub exchanged : List ℕ → ℕ → ℕ → Reply → List ℕ
exchanged words place value (reply.Value old) = slice_set words place (valued_word (slice_index words place) value)
exchanged words place value _ = words

-- what a store answers, by what its look found
abbrev pub stored : Reply → Reply
stored (reply.Value old) = reply.Ok
stored found = found

-- the image of the new mutator shows the table t, and the cycle of the table s has what it handed over
pub record Follows (old new : Mutator) (s t : Table) : Type 0 where
  pub sees : Sees (image_of new.image) t
  pub handed : (linked : List ℕ) → HandsOver old linked s → HandsOver new linked t

-- the value of a cell was found, and another one written
pub record Writes (old new : Mutator) (s : Table) (word first last value found : ℕ) : Type 0 where
  pub cell : HasCell s word first last
  pub was : found ≡ value_at (s.cells External (index_of word))
  pub follows : Follows old new s (with_value s (index_of word) value)

-- an exchange at the entry that a word names: what a look answers, and where that is a value, a write
pub record Exchanges (old new : Mutator) (s : Table) (word first last value : ℕ) (found : Reply) : Type 0 where
  pub looks : found ≡ look s External word first last
  pub outcome : (IsMiss found × Follows old new s s) ⊎ ((v : ℕ) × (found ≡ reply.Value v) × Writes old new s word first last value v)
