-- What the private functions of an init leave of a table's words: an abort, a put and a bind.
use Rattle.std.specs.Prelude.{◌≡◌, ◌⊎◌, ℕ, ◌+◌, ◌%◌, ◌^◌, ◌==◌, nat_le, Bool, true, not, ◌&&◌, if◌then◌else◌, List, slice_index, slice_set, Some, None}
use Rattle.plain_table.specs.declared.events.Space.{Space}
use Rattle.plain_table.specs.declared.events.Space.TheVariants.{External}
use Rattle.plain_table.specs.declared.reports.Reply.{Reply}
use Rattle.plain_table.specs.declared.reports.Reply.TheVariants as reply
use Rattle.plain_table.specs.Index.{word_of}
use Rattle.plain_table.specs.Places.{same_space}
use Rattle.plain_table.specs.Table.{Sizes}
use Rattle.plain_table.specs.Rows.{IsTag}
use Rattle.plain_table.specs.Words.{area_place, cell_word, entry_place}
use Rattle.mutator_calls.specs.Words.{TakesIndex}

-- the area word tells that the index lies in the evacuation area
abbrev pub is_above : ℕ → ℕ → Bool
is_above area i = not (area % 2 ^ 32 == 0) && nat_le (area % 2 ^ 32) i

-- the words after an abort where the index lies in the area
abbrev pub aborted_by : ℕ → List ℕ → List ℕ
aborted_by i words =
    if is_above (slice_index words area_place) i then slice_set words area_place (slice_index words area_place % 2 ^ 32 + 2 ^ 32) else words

-- the marked word of a new cell, which can be seen in the external space alone
abbrev pub new_word : Space → ℕ → ℕ → ℕ
new_word p tag value = cell_word (record { id = 0; tag = tag; value = value; shown = same_space p External }) true

-- the words after a put
abbrev pub filled_by : Sizes → Space → ℕ → ℕ → ℕ → List ℕ → List ℕ
filled_by sizes p i tag value words = slice_set words (entry_place sizes p i) (new_word p tag value)

-- the words after a bind, and what it says, by the word that it found in the field
abbrev pub bound_by : ℕ → ℕ → List ℕ → List ℕ
bound_by place w words = if slice_index words place == 0 then slice_set words place w else words

abbrev pub bound_said : ℕ → Reply
bound_said found = if found == 0 then reply.Ok else reply.Taken found

-- an index is taken and filled, and the field at a place is bound to it; or none is free
pub record FillsTaken (old now : List ℕ) (sizes : Sizes) (place tag value : ℕ) (said : Reply) : Type 0 where
  pub index : ℕ
  pub taken : List ℕ
  pub takes : TakesIndex old taken sizes External (Some index)
  pub words : now ≡ bound_by place (word_of index) (filled_by sizes External index tag value (aborted_by index taken))
  pub reply : said ≡ bound_said (slice_index old place)
  pub is_tag : IsTag tag

abbrev pub Fills : List ℕ → List ℕ → Sizes → ℕ → ℕ → ℕ → Reply → Type 0
Fills old now sizes place tag value said =
    (TakesIndex old now sizes External None × (said ≡ reply.Full)) ⊎ FillsTaken old now sizes place tag value said
