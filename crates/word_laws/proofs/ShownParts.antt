-- What words show of a table, stated over the parts of the table, so that an event that leaves a part alone keeps what
-- is shown of it; and that a table is shown just where its parts are.
use Rattle.std.specs.Prelude.{◌≡◌, ◌+◌, ◌*◌, ◌^◌, ◌<◌, ◌≤◌, ℕ, Bool, false, not, List, length, slice_index, Option, Some, None, IsTrue, IfSome}
use Rattle.plain_table.specs.declared.events.Cell.{Cell}
use Rattle.plain_table.specs.declared.events.Space.{Space}
use Rattle.plain_table.specs.declared.events.Space.TheVariants.{External, Trusted}
use Rattle.plain_table.specs.declared.events.Field.{Field}
use Rattle.plain_table.specs.Places.{object_of}
use Rattle.plain_table.specs.Area.{count_below}
use Rattle.plain_table.specs.Cycle.{Cycle}
use Rattle.plain_table.specs.Table.{Table, Sizes, limit_of, limit_in}
use Rattle.plain_table.specs.Words.{area_place, count_place, phase_place, freelist_place, global_place, header_place, reference_place, field_place, entry_place, words_in_all, object_word, cell_word, free_word, evacuation_word, no_access_word, freelist_word, next_free, area_word, phase_word}
use Rattle.plain_table.specs.Shows.{entry_at, SpaceShows, IsHeader, Shows}

-- a mark bit that a word may have at an index: any where no cycle is under way, and else just what its marks tell
abbrev pub IsMarkIn : Option Cycle → Space → ℕ → Bool → Type 0
IsMarkIn cycle p i marked = IfSome cycle (λ c. marked ≡ c.marks p i)

-- a space
pub record IsEmptyIn (used : ℕ → Bool) (cells : ℕ → Option Cell) (evac : ℕ → Option ℕ) (i : ℕ) : Type 0 where
  pub taken : IsTrue (used i)
  pub later : 1 ≤ i
  pub no_cell : cells i ≡ None
  pub no_entry : evac i ≡ None

pub record SpaceIs (seg limit : ℕ) (used : ℕ → Bool) (cells : ℕ → Option Cell) (evac : ℕ → Option ℕ) (IsMark : ℕ → Bool → Type 0) (entry : ℕ → ℕ) (freelist committed : ℕ) : Type 0 where
  pub segments : (n : ℕ) × (committed ≡ n * seg)
  pub within : committed ≤ limit
  pub taken : (i : ℕ) → IsTrue (used i) → i < committed
  pub null : entry 0 ≡ 0
  pub filled : (i : ℕ) (cell : Cell) → cells i ≡ Some cell → (marked : Bool) × (entry i ≡ cell_word cell marked) × IsMark i marked
  pub evacuated : (i number : ℕ) → evac i ≡ Some number → entry i ≡ evacuation_word number
  pub free : (i : ℕ) → 1 ≤ i → i < committed → used i ≡ false → entry i ≡ free_word (next_free used (i + 1) committed)
  pub empty : (i : ℕ) → IsEmptyIn used cells evac i → (next : ℕ) × (next < 2 ^ 32) × (entry i ≡ free_word next)
  pub closed : (i : ℕ) → committed ≤ i → i < limit → entry i ≡ no_access_word
  pub list : freelist ≡ freelist_word (next_free used 1 committed) (count_below (λ i. not (used i)) committed)

abbrev pub SpaceIn : List ℕ → Sizes → Space → (ℕ → Bool) → (ℕ → Option Cell) → (ℕ → Option ℕ) → (ℕ → Bool → Type 0) → ℕ → Type 0
SpaceIn words sizes p used cells evac IsMark committed =
    SpaceIs sizes.seg (limit_in sizes p) used cells evac IsMark (λ i. slice_index words (entry_place sizes p i)) (slice_index words (freelist_place p)) committed

-- the words before those of objects, those of objects, and those of both spaces
pub record LowShown (words : List ℕ) (count area phase : ℕ) (globals : ℕ → Option ℕ) : Type 0 where
  pub at_area : slice_index words area_place ≡ area
  pub at_count : slice_index words count_place ≡ count
  pub at_phase : slice_index words phase_place ≡ phase
  pub spare : (i : ℕ) → 5 ≤ i → i < 16 → slice_index words i ≡ 0
  pub at_globals : (g : ℕ) → g < 16 → slice_index words (global_place g) ≡ object_word (globals g)

pub record HeapShown (words : List ℕ) (objects : ℕ) (IsHead : ℕ → ℕ → Type 0) (refs : ℕ → ℕ → Option ℕ) (names : Field → ℕ) : Type 0 where
  pub headers : (o : ℕ) → o < objects → IsHead o (slice_index words (header_place o))
  pub references : (o k : ℕ) → o < objects → k < 4 → slice_index words (reference_place o k) ≡ object_word (refs o k)
  pub fields : (f : Field) → object_of f < objects → slice_index words (field_place f) ≡ names f

pub record SpacesShown (words : List ℕ) (sizes : Sizes) (used : Space → ℕ → Bool) (cells : Space → ℕ → Option Cell) (evac : Space → ℕ → Option ℕ) (IsMark : Space → ℕ → Bool → Type 0) : Type 0 where
  pub spaces : (p : Space) → (committed : ℕ) × SpaceIn words sizes p (used p) (cells p) (evac p) (IsMark p) committed

pub record Shown (words : List ℕ) (sizes : Sizes) (count area phase : ℕ) (globals : ℕ → Option ℕ) (IsHead : ℕ → ℕ → Type 0) (refs : ℕ → ℕ → Option ℕ) (names : Field → ℕ) (used : Space → ℕ → Bool) (cells : Space → ℕ → Option Cell) (evac : Space → ℕ → Option ℕ) (IsMark : Space → ℕ → Bool → Type 0) : Type 0 where
  pub whole : length words ≡ words_in_all sizes
  pub low : LowShown words count area phase globals
  pub heap : HeapShown words sizes.objects IsHead refs names
  pub entries : SpacesShown words sizes used cells evac IsMark

-- a table by its parts
abbrev pub ShownParts : List ℕ → Table → Type 0
ShownParts words s =
    Shown words s.sizes s.count (area_word s.cycle) (phase_word s.cycle) s.globals (IsHeader s s.cycle) s.refs s.words s.used s.cells (entry_at s) (IsMarkIn s.cycle)

module _ (s : Table) (p : Space) (entry : ℕ → ℕ) (freelist committed : ℕ) where
  pub SpaceIs-SpaceShows : SpaceShows s p entry freelist committed →
      SpaceIs s.sizes.seg (limit_of s p) (s.used p) (s.cells p) (entry_at s p) (IsMarkIn s.cycle p) entry freelist committed
  SpaceIs-SpaceShows h = record {
    segments = h.segments;
    within = h.within;
    taken = h.used;
    null = h.null;
    filled = h.cells;
    evacuated = h.evacuated;
    free = h.free;
    empty = λ i is. h.empty i (record { used = is.taken; later = is.later; no_cell = is.no_cell; no_entry = is.no_entry });
    closed = h.closed;
    list = h.list;
  }

  pub SpaceShows-SpaceIs : SpaceIs s.sizes.seg (limit_of s p) (s.used p) (s.cells p) (entry_at s p) (IsMarkIn s.cycle p) entry freelist committed →
      SpaceShows s p entry freelist committed
  SpaceShows-SpaceIs h = record {
    segments = h.segments;
    within = h.within;
    used = h.taken;
    null = h.null;
    cells = h.filled;
    evacuated = h.evacuated;
    free = h.free;
    empty = λ i is. h.empty i (record { taken = is.used; later = is.later; no_cell = is.no_cell; no_entry = is.no_entry });
    closed = h.closed;
    list = h.list;
  }

module _ (words : List ℕ) (s : Table) where
  pub ShownParts-Shows : Shows words s → ShownParts words s
  ShownParts-Shows h = record {
    whole = h.whole;
    low = record { at_area = h.area; at_count = h.count; at_phase = h.phase; spare = h.spare; at_globals = h.globals };
    heap = record { headers = h.headers; references = h.references; fields = h.fields };
    entries = record { spaces = spaces };
  }
    where
      spaces : (p : Space) → (committed : ℕ) × SpaceIn words s.sizes p (s.used p) (s.cells p) (entry_at s p) (IsMarkIn s.cycle p) committed
      spaces External = (h.external.0, SpaceIs-SpaceShows s External _ _ h.external.0 h.external.1)
      spaces Trusted = (h.trusted.0, SpaceIs-SpaceShows s Trusted _ _ h.trusted.0 h.trusted.1)

  pub Shows-ShownParts : ShownParts words s → Shows words s
  Shows-ShownParts h = record {
    whole = h.whole;
    area = h.low.at_area;
    count = h.low.at_count;
    phase = h.low.at_phase;
    spare = h.low.spare;
    globals = h.low.at_globals;
    headers = h.heap.headers;
    references = h.heap.references;
    fields = h.heap.fields;
    external = ((h.entries.spaces External).0, SpaceShows-SpaceIs s External _ _ (h.entries.spaces External).0 (h.entries.spaces External).1);
    trusted = ((h.entries.spaces Trusted).0, SpaceShows-SpaceIs s Trusted _ _ (h.entries.spaces Trusted).0 (h.entries.spaces Trusted).1);
  }
