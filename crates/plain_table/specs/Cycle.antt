-- A collection cycle under way: its evacuation area, its marks and evacuation entries, the objects born and scanned
-- since its start, and the words that stood in fields since. What was reachable at its start is known from a copy of
-- the references, globals, variables and words of that moment.
use Rattle.std.specs.Prelude.{◌≡◌, ◌≢◌, ◌⊎◌, ℕ, Bool, true, false, nat_le, if◌then◌else◌, Option, Some, None, IsTrue}
use Rattle.std.specs.Option.{option_map}
use Rattle.plain_table.specs.declared.events.Space.{Space}
use Rattle.plain_table.specs.declared.events.Field.{Field}
use Rattle.plain_table.specs.Places.{object_of, put_at, put_entry, put_field}
use Rattle.plain_table.specs.Reachable.{Reaches}

pub record Cycle : Type 0 where
  -- the first index of the evacuation area, where there is one, and whether the compaction was aborted
  pub start : Option ℕ
  pub aborted : Bool
  pub marks : Space → ℕ → Bool
  -- the evacuation entries: the external field whose cell is to move to an index; and the fields that have got one
  pub evac : ℕ → Option ℕ
  pub visited : ℕ → Bool
  pub born : ℕ → Bool
  pub scans : ℕ → Bool
  -- the words that came into fields since the start
  pub came : Field → ℕ → Bool
  -- the references, globals, variables and words at the start
  pub refs : ℕ → ℕ → Option ℕ
  pub globals : ℕ → Option ℕ
  pub vars : ℕ → ℕ → Option ℕ
  pub words : Field → ℕ

-- an object that was reachable at the start
abbrev pub IsOld : Cycle → ℕ → Type 0
IsOld c o = Reaches c.refs c.globals c.vars o

-- a word that stood in the field at the start, if its object was reachable then, or that came into it since
abbrev pub IsTouched : Cycle → Field → ℕ → Type 0
IsTouched c f w = (IsOld c (object_of f) × (c.words f ≡ w) × (w ≢ 0)) ⊎ IsTrue (c.came f w)

-- a word that stood in the field in this cycle, 0 included: the one of its start, or one that came into it since
abbrev pub HasStood : Cycle → Field → ℕ → Type 0
HasStood c f w = (c.words f ≡ w) ⊎ IsTrue (c.came f w)

-- the index is at or above a start
abbrev pub is_from : Option ℕ → ℕ → Bool
is_from None i = false
is_from (Some start) i = nat_le start i

-- the start of the evacuation area, where a cycle with one is under way, and whether the index lies in it
abbrev pub start_in : Option Cycle → Option ℕ
start_in None = None
start_in (Some c) = c.start

abbrev pub is_in_area : Option Cycle → ℕ → Bool
is_in_area cycle i = is_from (start_in cycle) i

-- where the cells that move stand: from the start of the area on, unless the compaction was aborted
abbrev pub moves_from : Cycle → Option ℕ
moves_from c = if c.aborted then None else c.start

-- what an event changes in a cycle: an index marked, an object born or scanned, a word come into a field, an evacuation
-- entry of a field, and the compaction aborted
abbrev pub with_mark : Space → ℕ → Cycle → Cycle
with_mark p i c = record c { marks = put_entry c.marks p i true }

abbrev pub with_birth : ℕ → Cycle → Cycle
with_birth o c = record c { born = put_at c.born o true }

abbrev pub with_scan : ℕ → Cycle → Cycle
with_scan o c = record c { scans = put_at c.scans o true }

abbrev pub with_word : Field → ℕ → Cycle → Cycle
with_word f w c = record c { came = put_field c.came f (put_at (c.came f) w true) }

abbrev pub with_entry : ℕ → ℕ → Cycle → Cycle
with_entry i number c = record c { evac = put_at c.evac i (Some number); visited = put_at c.visited number true }

abbrev pub with_abort : Cycle → Cycle
with_abort c = record c { aborted = true }

-- each change, where a cycle is under way
abbrev pub marked_in : Option Cycle → Space → ℕ → Option Cycle
marked_in cycle p i = option_map (with_mark p i) cycle

abbrev pub born_in : Option Cycle → ℕ → Option Cycle
born_in cycle o = option_map (with_birth o) cycle

abbrev pub scanned_in : Option Cycle → ℕ → Option Cycle
scanned_in cycle o = option_map (with_scan o) cycle

abbrev pub touched_in : Option Cycle → Field → ℕ → Option Cycle
touched_in cycle f w = option_map (with_word f w) cycle

abbrev pub evacuated_in : Option Cycle → ℕ → ℕ → Option Cycle
evacuated_in cycle i number = option_map (with_entry i number) cycle

abbrev pub aborted_in : Option Cycle → Option Cycle
aborted_in cycle = option_map with_abort cycle
