-- Which table machine words show, with the variables and the pending cells of an image; when the words of a cycle are
-- covered (no scanned object refers to a white one), and when an image is lawful; and what a fresh image holds. The
-- places and numbers of the words are those of `Words.antt`.
use Rattle.std.specs.Prelude.{◌≡◌, ◌≢◌, ℕ, ◌+◌, ◌-◌, ◌*◌, ◌/◌, ◌%◌, ◌^◌, ◌<◌, ◌≤◌, nat_le, Bool, false, not, ◌||◌, List, length, slice_index, slice_index_or, Option, Some, None, IsTrue, IsSomeAnd, IfSome}
use Rattle.plain_table.specs.declared.events.Cell.{Cell}
use Rattle.plain_table.specs.declared.events.Space.{Space}
use Rattle.plain_table.specs.declared.events.Space.TheVariants.{External, Trusted}
use Rattle.plain_table.specs.declared.events.Field.{Field}
use Rattle.plain_table.specs.Places.{object_of}
use Rattle.plain_table.specs.Area.{count_below}
use Rattle.plain_table.specs.Cycle.{Cycle, IsOld}
use Rattle.plain_table.specs.Table.{Table, Sizes, limit_of}
use Rattle.plain_table.specs.Sound.{IsSound, entries_in}
use Rattle.plain_table.specs.Words.{area_place, count_place, phase_place, freelist_place, global_place, header_place, reference_place, field_place, entry_place, words_in_all, object_word, cell_word, free_word, evacuation_word, no_access_word, freelist_word, next_free, area_word, phase_word, header_word}

-- the evacuation entry at an index of a space; the trusted space has none
abbrev pub entry_at : Table → Space → ℕ → Option ℕ
entry_at s External i = entries_in s.cycle i
entry_at s Trusted i = None

-- a used index with neither a cell nor an evacuation entry: a number took it and has not filled it
pub record IsEmptyIndex (s : Table) (p : Space) (i : ℕ) : Type 0 where
  pub used : IsTrue (s.used p i)
  pub later : 1 ≤ i
  pub no_cell : s.cells p i ≡ None
  pub no_entry : entry_at s p i ≡ None

-- the entry words and the freelist word of a space whose first indexes, up to `committed`, stand in committed segments
pub record SpaceShows (s : Table) (p : Space) (entry : ℕ → ℕ) (freelist committed : ℕ) : Type 0 where
  pub segments : (n : ℕ) × (committed ≡ n * s.sizes.seg)
  pub within : committed ≤ limit_of s p
  pub used : (i : ℕ) → IsTrue (s.used p i) → i < committed
  pub null : entry 0 ≡ 0
  -- a cell's word; in a cycle it has the marking bit just where the cell is marked
  pub cells : (i : ℕ) (cell : Cell) → s.cells p i ≡ Some cell →
      (marked : Bool) × (entry i ≡ cell_word cell marked) × IfSome s.cycle (λ c. marked ≡ c.marks p i)
  pub evacuated : (i number : ℕ) → entry_at s p i ≡ Some number → entry i ≡ evacuation_word number
  -- each free entry links the next one, and the last one the end of the committed segments
  pub free : (i : ℕ) → 1 ≤ i → i < committed → s.used p i ≡ false → entry i ≡ free_word (next_free (s.used p) (i + 1) committed)
  pub empty : (i : ℕ) → IsEmptyIndex s p i → (next : ℕ) × (next < 2 ^ 32) × (entry i ≡ free_word next)
  pub closed : (i : ℕ) → committed ≤ i → i < limit_of s p → entry i ≡ no_access_word
  pub list : freelist ≡ freelist_word (next_free (s.used p) 1 committed) (count_below (λ i. not (s.used p i)) committed)

-- an object counts as scanned in a cycle where it was scanned or born in it, or is not made yet
abbrev pub is_black : Table → Cycle → ℕ → Bool
is_black s c o = c.scans o || c.born o || nat_le s.count o

-- a header in a cycle has the scanned bit just for these, and the shaded bit wherever it has the scanned bit
abbrev pub IsHeaderIn : Table → Cycle → ℕ → ℕ → Type 0
IsHeaderIn s c o word =
    (shaded : Bool) × (word ≡ header_word shaded (is_black s c o)) × (IsTrue (is_black s c o) → IsTrue shaded)

abbrev pub IsHeader : Table → Option Cycle → ℕ → ℕ → Type 0
IsHeader s None o word = word ≡ 0
IsHeader s (Some c) o word = IsHeaderIn s c o word

-- the words of a space in the list
abbrev pub SpaceShownBy : List ℕ → Table → Space → Type 0
SpaceShownBy words s p =
    (committed : ℕ) × SpaceShows s p (λ i. slice_index words (entry_place s.sizes p i)) (slice_index words (freelist_place p)) committed

pub record Shows (words : List ℕ) (s : Table) : Type 0 where
  pub whole : length words ≡ words_in_all s.sizes
  pub area : slice_index words area_place ≡ area_word s.cycle
  pub count : slice_index words count_place ≡ s.count
  pub phase : slice_index words phase_place ≡ phase_word s.cycle
  pub spare : (i : ℕ) → 5 ≤ i → i < 16 → slice_index words i ≡ 0
  pub globals : (g : ℕ) → g < 16 → slice_index words (global_place g) ≡ object_word (s.globals g)
  pub headers : (o : ℕ) → o < s.sizes.objects → IsHeader s s.cycle o (slice_index words (header_place o))
  pub references : (o k : ℕ) → o < s.sizes.objects → k < 4 → slice_index words (reference_place o k) ≡ object_word (s.refs o k)
  pub fields : (f : Field) → object_of f < s.sizes.objects → slice_index words (field_place f) ≡ s.words f
  pub external : SpaceShownBy words s External
  pub trusted : SpaceShownBy words s Trusted

-- a cell that waits to be published: its index, tag and value
pub record PendingCell : Type 0 where
  pub index : ℕ
  pub tag : ℕ
  pub value : ℕ

-- an image: the sizes and the words of a table between two phases, the variables of its mutators (16 each, 0 where one
-- holds nothing and else the object's number plus 1), and the cell that each may publish
pub record Image : Type 0 where
  pub sizes : Sizes
  pub words : List ℕ
  pub variables : List ℕ
  pub pending : List (Option PendingCell)

abbrev pub IsPending : Table → Option ℕ → Option PendingCell → Type 0
IsPending s None pending = pending ≡ None
IsPending s (Some i) pending =
    IsSomeAnd (s.cells Trusted i) (λ cell. pending ≡ Some (record { index = i; tag = cell.tag; value = cell.value }))

pub record ImageShows (image : Image) (s : Table) : Type 0 where
  pub sizes : s.sizes ≡ image.sizes
  pub words : Shows image.words s
  pub variables : (length image.variables ≡ 128)
      × ((b v : ℕ) → b < 8 → v < 16 → slice_index image.variables (16 * b + v) ≡ object_word (s.vars b v))
  pub pending : (length image.pending ≡ 8)
      × ((b : ℕ) (d : Option PendingCell) → b < 8 → IsPending s (s.ticket b) (slice_index_or image.pending b d))

-- the colours of an object by its header word
abbrev pub IsShaded : List ℕ → ℕ → Type 0
IsShaded words o = slice_index words (header_place o) % 2 ≡ 1

abbrev pub IsScanned : List ℕ → ℕ → Type 0
IsScanned words o = slice_index words (header_place o) / 2 % 2 ≡ 1

-- the marking invariant: a reference of a scanned object is nothing or shaded, and a shaded object that is not scanned
-- is old
pub record IsCoveredIn (words : List ℕ) (s : Table) (c : Cycle) : Type 0 where
  pub references : (o k q : ℕ) → o < s.sizes.objects → IsScanned words o → s.refs o k ≡ Some q → IsShaded words q
  pub owed : (o : ℕ) → o < s.sizes.objects → IsShaded words o → (IsScanned words o → ⊥) → IsOld c o

abbrev pub IsCovered : List ℕ → Table → Type 0
IsCovered words s = IfSome s.cycle (IsCoveredIn words s)

-- a lawful image shows a sound table, and is covered in it
abbrev pub IsLawful : Image → Type 0
IsLawful image = (s : Table) × IsSound s × ImageShows image s × IsCovered image.words s

-- a fresh space: one committed segment of free entries after entry 0
pub record IsFreshSpace (sizes : Sizes) (p : Space) (limit : ℕ) (words : List ℕ) : Type 0 where
  pub freelist : slice_index words (freelist_place p) ≡ freelist_word 1 (sizes.seg - 1)
  pub null : slice_index words (entry_place sizes p 0) ≡ 0
  pub free : (i : ℕ) → 1 ≤ i → i < sizes.seg → slice_index words (entry_place sizes p i) ≡ free_word (i + 1)
  pub closed : (i : ℕ) → sizes.seg ≤ i → i < limit → slice_index words (entry_place sizes p i) ≡ no_access_word

-- a fresh image: no object, no cell, and one committed segment in each space
pub record IsFreshImage (image : Image) : Type 0 where
  pub whole : length image.words ≡ words_in_all image.sizes
  pub zeros : (i : ℕ) → i < header_place image.sizes.objects → i ≢ freelist_place External → i ≢ freelist_place Trusted → slice_index image.words i ≡ 0
  pub external : IsFreshSpace image.sizes External (image.sizes.seg * image.sizes.ext) image.words
  pub trusted : IsFreshSpace image.sizes Trusted (image.sizes.seg * image.sizes.tru) image.words
  pub variables : (length image.variables ≡ 128) × ((i : ℕ) → slice_index image.variables i ≡ 0)
  pub pending : (length image.pending ≡ 8) × ((i : ℕ) (d : Option PendingCell) → i < 8 → slice_index_or image.pending i d ≡ None)
