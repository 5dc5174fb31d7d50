-- The machine words of a table, as numbers: the place of each, and the number that stands there for a cell, a free entry,
-- an evacuation entry, an object, a header, a freelist or the area. `docs/MODEL.md` has the layout in one table. Which
-- table a list of such words shows is said in `Shows.antt`.
use Rattle.std.specs.Prelude.{ℕ, ◌+◌, ◌-◌, ◌*◌, ◌/◌, ◌%◌, ◌^◌, Bool, if◌then◌else◌, Option, Some, None, unwrap_or}
use Rattle.plain_table.specs.declared.events.Cell.{Cell}
use Rattle.plain_table.specs.declared.events.Space.{Space}
use Rattle.plain_table.specs.declared.events.Space.TheVariants.{External, Trusted}
use Rattle.plain_table.specs.declared.events.Field.{Field}
use Rattle.plain_table.specs.declared.events.Field.TheVariants as field
use Rattle.plain_table.specs.Cycle.{Cycle}
use Rattle.plain_table.specs.Table.{Sizes, least_from}

-- word 1 is the area, word 3 the object count, word 4 the phase; the freelist words of the spaces are 0 and 2
abbrev pub area_place : ℕ
area_place = 1

abbrev pub count_place : ℕ
count_place = 3

abbrev pub phase_place : ℕ
phase_place = 4

abbrev pub freelist_place : Space → ℕ
freelist_place External = 0
freelist_place Trusted = 2

-- 16 globals, then eight words an object: its header, four references, two external fields and its trusted field
abbrev pub global_place : ℕ → ℕ
global_place g = 16 + g

abbrev pub header_place : ℕ → ℕ
header_place o = 32 + 8 * o

abbrev pub reference_place : ℕ → ℕ → ℕ
reference_place o k = 33 + 8 * o + k

abbrev pub field_place : Field → ℕ
field_place (field.External number) = 37 + 8 * (number / 2) + number % 2
field_place (field.Trusted number) = 39 + 8 * number

-- then the entries of the external and of the trusted space
abbrev pub entry_place : Sizes → Space → ℕ → ℕ
entry_place sizes External i = 32 + 8 * sizes.objects + i
entry_place sizes Trusted i = 32 + 8 * sizes.objects + sizes.seg * sizes.ext + i

abbrev pub words_in_all : Sizes → ℕ
words_in_all sizes = 32 + 8 * sizes.objects + sizes.seg * sizes.ext + sizes.seg * sizes.tru

-- nothing is 0, and an object is its number plus 1
abbrev pub object_word : Option ℕ → ℕ
object_word None = 0
object_word (Some o) = o + 1

-- a cell has its value in bits 0 to 47 and its tag above, bit 59 where it can't be seen, and bit 62 where it is marked
abbrev pub cell_word : Cell → Bool → ℕ
cell_word cell marked =
    (if cell.shown then 0 else 2 ^ 59) + (cell.value + 2 ^ 48 * cell.tag + (if marked then 2 ^ 62 else 0))

-- a free entry has bit 56 and the next free index, an evacuation entry bit 58 and the field, and an entry of a segment
-- that is not committed bit 57 alone
abbrev pub free_word : ℕ → ℕ
free_word next = 2 ^ 56 + next

abbrev pub evacuation_word : ℕ → ℕ
evacuation_word number = 2 ^ 58 + number

abbrev pub no_access_word : ℕ
no_access_word = 2 ^ 57

-- a freelist word has its head in bits 0 to 31 and its length above
abbrev pub freelist_word : ℕ → ℕ → ℕ
freelist_word head len = head + 2 ^ 32 * len

-- the least index from i on below the end that is not used, and else the end
abbrev pub next_free : (ℕ → Bool) → ℕ → ℕ → ℕ
next_free used i end = unwrap_or (least_from used i (end - i)) end

-- the area word has the start, 0 where there is none, and bit 32 where the compaction is aborted
abbrev pub area_word : Option Cycle → ℕ
area_word None = 0
area_word (Some c) = unwrap_or c.start 0 + (if c.aborted then 2 ^ 32 else 0)

abbrev pub phase_word : Option Cycle → ℕ
phase_word None = 0
phase_word (Some c) = 1

-- a header has bit 0 where its object is shaded, and bit 1 where it is scanned
abbrev pub header_word : Bool → Bool → ℕ
header_word shaded scanned = (if shaded then 1 else 0) + (if scanned then 2 else 0)
