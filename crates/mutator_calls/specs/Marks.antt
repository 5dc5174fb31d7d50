-- The marking bit in a word, and what a mark before a bind leaves of the words.
use Rattle.std.specs.Prelude.{ℕ, ◌+◌, ◌^◌, ◌==◌, if◌then◌else◌, List, slice_index, slice_set}
use Rattle.plain_table.specs.Words.{phase_place}
use Rattle.word_laws.specs.Kinds.{is_marked_word}

-- a word with its marking bit
abbrev pub with_mark : ℕ → ℕ
with_mark word = if is_marked_word word then word else word + 2 ^ 62

-- in a cycle the word at the place has it
abbrev pub marked_in_cycle : List ℕ → ℕ → List ℕ
marked_in_cycle words place = if slice_index words phase_place == 1 then slice_set words place (with_mark (slice_index words place)) else words
