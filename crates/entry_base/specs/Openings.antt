-- The image that a phase was opened with, as a view keeps it, and the tables that the phase may have begun in: each sound
-- one that the image shows and is covered in. What the rule says, it says of each of them, since no word tells which it was.
use Rattle.std.specs.Prelude.{ℕ, zero, suc, ◌%◌, ◌^◌, ◌==◌, if◌then◌else◌, List, [], ◌∷◌, ◌++◌, map, slice_index, Option, Some, None}
use Rattle.std.specs.Option.{option_map}
use Rattle.plain_table.specs.Table.{Table, Sizes}
use Rattle.plain_table.specs.Sound.{IsSound}
use Rattle.plain_table.specs.Words.{area_place, phase_place, header_place}
use Rattle.plain_table.specs.Shows.{PendingCell, ImageShows, IsCovered}
use Rattle.plain_table.specs.Shows.{Image as ShownImage}
use Rattle.word_laws.specs.Small.{AreSmall}
use Rattle.entry_word.specs.Image.{sizes_of, pending_of}
use Rattle.entry_word.specs.declared.image.Image.{Image}
use Rattle.entry_word.specs.declared.image.Pending.{Pending}
use Rattle.entry_base.specs.declared.view.Opening.{Opening}

abbrev pub opening_of : Image → Opening
opening_of i = record { shape = i.shape; words = i.words.items; vars = i.vars.items; pending = i.pending.items }

abbrev pub sizes_in : Opening → Sizes
sizes_in o = sizes_of o.shape

abbrev pub pending_cell : Option Pending → Option PendingCell
pending_cell found = option_map pending_of found

abbrev pub shown_image : Opening → ShownImage
shown_image o = record { sizes = sizes_in o; words = o.words; variables = o.vars; pending = map pending_cell o.pending }

-- 1 where the words are those of a cycle, and the start of its evacuation area, where it has one
abbrev pub phase_of : Opening → ℕ
phase_of o = slice_index o.words phase_place

abbrev pub start_of : Opening → Option ℕ
start_of o = if slice_index o.words area_place % 2 ^ 32 == 0 then None else Some (slice_index o.words area_place % 2 ^ 32)

-- the objects below n that are shaded and not scanned
abbrev pub greys : List ℕ → ℕ → List ℕ
greys words zero = []
greys words (suc n) = greys words n ++ (if slice_index words (header_place n) == 1 then n ∷ [] else [])

-- a table that the phase may have begun in
pub record IsBase (key : Opening) (b : Table) : Type 0 where
  pub sound : IsSound b
  pub shows : ImageShows (shown_image key) b
  pub covered : IsCovered key.words b

-- an image that a phase can be opened with: there is such a table, and its sizes are in range
pub record IsOpenable (key : Opening) : Type 0 where
  pub base : Table
  pub is_base : IsBase key base
  pub small : AreSmall (sizes_in key)
