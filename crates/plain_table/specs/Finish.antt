-- The start and the finish of a cycle: what a start leaves, where each cell of a finish goes, when a cycle may finish,
-- and what it leaves. A cell stays, moves to the greatest evacuation entry whose field names it, or is freed; a field
-- with an evacuation entry follows the cell that it names.
use Rattle.std.specs.Prelude.{◌≡◌, ℕ, ◌==◌, nat_lt, Bool, false, ◌&&◌, ◌||◌, if◌then◌else◌, Option, Some, None, is_some, unwrap_or, IsTrue, IsSome}
use Rattle.std.specs.Option.{option_map, option_map_or, option_and_then}
use Rattle.plain_table.specs.declared.scripts.Policy.{Policy}
use Rattle.plain_table.specs.declared.events.Cell.{Cell}
use Rattle.plain_table.specs.declared.events.Space.{Space}
use Rattle.plain_table.specs.declared.events.Space.TheVariants.{External, Trusted}
use Rattle.plain_table.specs.declared.events.Field.{Field}
use Rattle.plain_table.specs.declared.events.Field.TheVariants as field
use Rattle.plain_table.specs.Index.{index_of, word_of}
use Rattle.plain_table.specs.Places.{space_of, object_of}
use Rattle.plain_table.specs.Reachable.{Reaches}
use Rattle.plain_table.specs.Area.{count_below, greatest_below, segments_in_use, area_start}
use Rattle.plain_table.specs.Cycle.{Cycle, is_from, moves_from}
use Rattle.plain_table.specs.Table.{Table, limit_of}

-- an object that can be reached now
abbrev pub IsReachable : Table → ℕ → Type 0
IsReachable s o = Reaches s.refs s.globals s.vars o

-- the area that a start decides on
abbrev pub area_of : Table → Policy → Option ℕ
area_of s policy =
    area_start policy (segments_in_use (s.used External) (limit_of s External) s.sizes.seg)
    (count_below (s.used External) (limit_of s External)) s.sizes.seg

-- after a start nothing is marked, moved, born or scanned, and the words that stand in fields are touched; no call is
-- under way at a meet, so nothing is fresh
abbrev pub started : Table → Policy → Table
started s policy = record s {
  fresh = λ b p i. false;
  cycle = Some (record {
    start = area_of s policy;
    aborted = false;
    marks = λ p i. false;
    evac = λ i. None;
    visited = λ number. false;
    born = λ o. false;
    scans = λ o. false;
    came = λ f w. false;
    refs = s.refs;
    globals = s.globals;
    vars = s.vars;
    words = s.words;
  });
}

-- the evacuation entry at e is that of a field whose word names the index i
abbrev pub is_entry_for : (ℕ → Option ℕ) → (Field → ℕ) → ℕ → ℕ → Bool
is_entry_for evac words i e = option_map_or (λ number. index_of (words (field.External number)) == i) (evac e) false

-- where the marked cell at an index of the area moves: to the greatest evacuation entry for it
abbrev pub target : Cycle → (Field → ℕ) → ℕ → Option ℕ
target c words i =
    if is_from (moves_from c) i && c.marks External i
    then greatest_below (is_entry_for c.evac words i) (unwrap_or (moves_from c) 0) else None

-- where the cell at an index goes: marked cells stay, those of the area go to their target, and all others are freed
abbrev pub place : Cycle → (Field → ℕ) → Space → ℕ → Option ℕ
place c words External i =
    if is_from (moves_from c) i then target c words i else (if c.marks External i then Some i else None)
place c words Trusted i = if c.marks Trusted i then Some i else None

abbrev pub IsKept : Cycle → (Field → ℕ) → Space → ℕ → Type 0
IsKept c words p i = IsSome (place c words p i)

abbrev pub is_at : Option ℕ → ℕ → Bool
is_at None e = false
is_at (Some i) e = i == e

-- the index that a field's word names, where its cell moves to e
abbrev pub evacuee_of : Cycle → (Field → ℕ) → ℕ → ℕ → Option ℕ
evacuee_of c words e number =
    if is_at (target c words (index_of (words (field.External number)))) e
    then Some (index_of (words (field.External number))) else None

-- the index whose cell moves to the evacuation entry at e, where there is one
abbrev pub evacuee : Cycle → (Field → ℕ) → ℕ → Option ℕ
evacuee c words e = option_and_then (evacuee_of c words e) (c.evac e)

-- the index whose cell comes to stand at e: e itself, or the one that moves there
abbrev pub source : Cycle → (Field → ℕ) → Space → ℕ → Option ℕ
source c words External e = if is_at (place c words External e) e then Some e else evacuee c words e
source c words Trusted e = if is_at (place c words Trusted e) e then Some e else None

-- the cells after a finish
abbrev pub swept : Table → Cycle → Space → ℕ → Option Cell
swept s c p e = if nat_lt e (limit_of s p) then option_and_then (s.cells p) (source c s.words p e) else None

-- the words after a finish: a field that has an evacuation entry follows the cell that it names, where that one moves
abbrev pub rewritten : Cycle → (Field → ℕ) → Field → ℕ
rewritten c words (field.External number) =
    if c.visited number
    then option_map_or word_of (target c words (index_of (words (field.External number)))) (words (field.External number))
    else words (field.External number)
rewritten c words (field.Trusted number) = words (field.Trusted number)

-- a ticket whose cell is freed is gone
abbrev pub ticket_kept : Table → Cycle → Option ℕ → Option ℕ
ticket_kept s c None = None
ticket_kept s c (Some i) = if is_some (swept s c Trusted i) then Some i else None

abbrev pub finished : Table → Cycle → Table
finished s c = record s {
  cells = swept s c;
  used = λ p i. i == 0 || is_some (swept s c p i);
  owed = λ b p i. false;
  fresh = λ b p i. false;
  words = rewritten c s.words;
  ticket = λ b. ticket_kept s c (s.ticket b);
  cycle = None;
}

-- the numbers of the puts of the cells
abbrev pub id_at : Table → Space → ℕ → Option ℕ
id_at s p i = option_map (λ (cell : Cell). cell.id) (s.cells p i)

-- the cell that a bound field names as its own stands at its word's index
abbrev pub IsOwn : Table → Field → ℕ → Type 0
IsOwn s f id = id_at s (space_of f) (index_of (s.words f)) ≡ Some id

-- a cycle may finish where each reachable object was scanned or is born since the start, and each bound field of one
-- has its own cell at its word's index, and that cell is kept
pub record CanFinish (s : Table) (c : Cycle) : Type 0 where
  pub scanned : (o : ℕ) → IsReachable s o → IsTrue (c.scans o || c.born o)
  pub kept : (f : Field) (id : ℕ) → s.bound f ≡ Some id → IsReachable s (object_of f) →
      IsOwn s f id × IsKept c s.words (space_of f) (index_of (s.words f))
