-- A sound table: what holds of every table after a legal history, and what each legal event keeps. It is stated in
-- groups, each over the parts of the table that it speaks of, so that an event that leaves these alone keeps the group.
-- The last five groups speak of a cycle.
use Rattle.std.specs.Prelude.{◌≡◌, ◌≢◌, ◌⊎◌, ℕ, ◌*◌, ◌^◌, ◌<◌, ◌≤◌, Bool, false, Option, Some, None, unwrap_or, IsTrue, IsSome, IsSomeAnd, IfSome}
use Rattle.std.specs.Option.{ForSome}
use Rattle.plain_table.specs.declared.events.Cell.{Cell}
use Rattle.plain_table.specs.declared.events.Space.{Space}
use Rattle.plain_table.specs.declared.events.Space.TheVariants.{External, Trusted}
use Rattle.plain_table.specs.declared.events.Field.{Field}
use Rattle.plain_table.specs.declared.events.Field.TheVariants as field
use Rattle.plain_table.specs.Index.{index_of}
use Rattle.plain_table.specs.Places.{space_of, object_of}
use Rattle.plain_table.specs.Reachable.{Reaches}
use Rattle.plain_table.specs.Area.{greatest_below}
use Rattle.plain_table.specs.Cycle.{Cycle, HasStood, IsOld, IsTouched, is_from}
use Rattle.plain_table.specs.Table.{Table, limit_of}
use Rattle.plain_table.specs.Finish.{id_at}
use Rattle.plain_table.specs.Rows.{IsTag, IsPlaced}

-- used indexes: each space has 0 and only indexes below its limit; each cell, claim and evacuation entry stands at a
-- used index other than 0, and no two of them at one
pub record UsedSound (limit : Space → ℕ) (used : Space → ℕ → Bool) (ids : Space → ℕ → Option ℕ) (owed : ℕ → Space → ℕ → Bool) (evac : ℕ → Option ℕ) : Type 0 where
  pub first : (p : Space) → IsTrue (used p 0)
  pub below : (p : Space) (i : ℕ) → IsTrue (used p i) → i < limit p
  pub cells : (p : Space) (i : ℕ) → IsSome (ids p i) → IsTrue (used p i) × (i ≢ 0)
  pub claims : (b : ℕ) (p : Space) (i : ℕ) → IsTrue (owed b p i) → IsTrue (used p i) × (i ≢ 0) × (ids p i ≡ None)
  pub entries : (i : ℕ) → IsSome (evac i) → IsTrue (used External i) × (i ≢ 0) × (ids External i ≡ None)
  pub one_claim : (b c : ℕ) (p : Space) (i : ℕ) → IsTrue (owed b p i) → IsTrue (owed c p i) → b ≡ c
  pub claim_or_entry : (b i : ℕ) → IsTrue (owed b External i) → evac i ≡ None

-- fresh cells: each stands at its index, and no two numbers are about to bind one
pub record FreshSound (ids : Space → ℕ → Option ℕ) (fresh : ℕ → Space → ℕ → Bool) : Type 0 where
  pub cells : (b : ℕ) (p : Space) (i : ℕ) → IsTrue (fresh b p i) → IsSome (ids p i)
  pub one_fresh : (b c : ℕ) (p : Space) (i : ℕ) → IsTrue (fresh b p i) → IsTrue (fresh c p i) → b ≡ c

-- the ids of all cells differ, and are those of puts
pub record IdsSound (ids : Space → ℕ → Option ℕ) (next : ℕ) : Type 0 where
  pub differ : (p q : Space) (i j n : ℕ) → ids p i ≡ Some n → ids q j ≡ Some n → (p ≡ q) × (i ≡ j)
  pub below : (p : Space) (i n : ℕ) → ids p i ≡ Some n → n < next

-- each cell has a tag and a value of 48 bits, and each external one can be seen
pub record CellsSound (cells : Space → ℕ → Option Cell) : Type 0 where
  pub tags : (p : Space) (i : ℕ) → ForSome (cells p i) (λ c. IsTag c.tag × (c.value < 2 ^ 48))
  pub seen : (i : ℕ) → ForSome (cells External i) (λ c. IsTrue c.shown)

-- only objects that are made are held or hold something, in the places that there are; words have 32 bits
pub record ObjectsSound (most count : ℕ) (refs : ℕ → ℕ → Option ℕ) (globals : ℕ → Option ℕ) (vars : ℕ → ℕ → Option ℕ) (words : Field → ℕ) (bound : Field → Option ℕ) : Type 0 where
  pub few : count ≤ most
  pub roots : (g o : ℕ) → globals g ≡ Some o → (g < 16) × (o < count)
  pub variables : (b v o : ℕ) → vars b v ≡ Some o → (b < 8) × (v < 16) × (o < count)
  pub references : (o k q : ℕ) → refs o k ≡ Some q → (o < count) × (k < 4) × (q < count)
  pub contents : (f : Field) → words f ≢ 0 → (object_of f < count) × (words f < 2 ^ 32)
  pub bindings : (f : Field) → IsSome (bound f) → object_of f < count

-- the fields of reachable objects: a bound one has its own cell at its word's index, and a trusted one that is not 0 is
-- bound, and nobody is about to bind its cell
pub record FieldsSound (ids : Space → ℕ → Option ℕ) (fresh : ℕ → Space → ℕ → Bool) (words : Field → ℕ) (bound : Field → Option ℕ) (reaches : ℕ → Type 0) : Type 0 where
  pub own : (f : Field) (n : ℕ) → reaches (object_of f) → bound f ≡ Some n → ids (space_of f) (index_of (words f)) ≡ Some n
  pub trusted : (o : ℕ) → reaches o → words (field.Trusted o) ≢ 0 → IsSome (bound (field.Trusted o))
  pub settled : (o b : ℕ) → reaches o → words (field.Trusted o) ≢ 0 → fresh b Trusted (index_of (words (field.Trusted o))) ≡ false

-- a trusted cell that cannot be seen yet
abbrev pub IsHidden : Option Cell → Type 0
IsHidden found = IsSomeAnd found (λ c. c.shown ≡ false)

-- tickets: each is a mutator's, for a hidden trusted cell that nobody is about to bind, and no two mutators have the same
pub record TicketsSound (trusted : ℕ → Option Cell) (fresh : ℕ → Space → ℕ → Bool) (ticket : ℕ → Option ℕ) : Type 0 where
  pub fresh_hidden : (b i : ℕ) → IsTrue (fresh b Trusted i) → IsHidden (trusted i)
  pub hidden : (b i : ℕ) → ticket b ≡ Some i → IsHidden (trusted i)
  pub settled : (b c i : ℕ) → ticket b ≡ Some i → fresh c Trusted i ≡ false
  pub one_ticket : (b c i : ℕ) → ticket b ≡ Some i → ticket c ≡ Some i → b ≡ c
  pub mutators : (b i : ℕ) → ticket b ≡ Some i → b < 8

-- the area of a cycle: it begins at a segment from the second one on that is in use, and only a cycle with an area is
-- aborted; each evacuation entry stands below it, for a field of an old object, which then counts as visited
pub record AreaSound (seg greatest : ℕ) (start : Option ℕ) (aborted : Bool) (evac : ℕ → Option ℕ) (visited : ℕ → Bool) (old : ℕ → Type 0) : Type 0 where
  pub segment : (i : ℕ) → start ≡ Some i → ((n : ℕ) × (i ≡ n * seg)) × (seg ≤ i) × (i ≤ greatest)
  pub aborts : IsTrue aborted → IsSome start
  pub entries : (i number : ℕ) → evac i ≡ Some number →
      IsSomeAnd start (λ first. i < first) × old (object_of (field.External number)) × IsTrue (visited number)
  pub visits : (number : ℕ) → IsTrue (visited number) → (i : ℕ) × (evac i ≡ Some number)

-- marks: only cells are marked, and fresh ones are; an external fresh one stands in the area only after an abort
pub record MarksSound (ids : Space → ℕ → Option ℕ) (fresh : ℕ → Space → ℕ → Bool) (marks : Space → ℕ → Bool) (start : Option ℕ) (aborted : Bool) : Type 0 where
  pub cells : (p : Space) (i : ℕ) → IsTrue (marks p i) → IsSome (ids p i)
  pub filled : (b : ℕ) (p : Space) (i : ℕ) → IsTrue (fresh b p i) → IsTrue (marks p i)
  pub outside : (b i : ℕ) → IsTrue (fresh b External i) → IsTrue (is_from start i) → IsTrue aborted

-- objects: none is both old and born, all are made, only old ones are scanned, and what a variable, a global or a
-- reference of one of them holds is one of them
pub record TracedSound (count : ℕ) (old : ℕ → Type 0) (born scans : ℕ → Bool) (refs : ℕ → ℕ → Option ℕ) (globals : ℕ → Option ℕ) (vars : ℕ → ℕ → Option ℕ) : Type 0 where
  pub apart : (o : ℕ) → old o → born o ≡ false
  pub made : (o : ℕ) → old o ⊎ IsTrue (born o) → o < count
  pub scanned : (o : ℕ) → IsTrue (scans o) → old o
  pub roots : (g o : ℕ) → globals g ≡ Some o → old o ⊎ IsTrue (born o)
  pub variables : (b v o : ℕ) → vars b v ≡ Some o → old o ⊎ IsTrue (born o)
  pub references : (o k q : ℕ) → old o ⊎ IsTrue (born o) → refs o k ≡ Some q → old q ⊎ IsTrue (born q)

-- the word of each field, 0 included, is that of the start or came into it since; and where it isn't 0, and the object
-- is old or born, it is touched
pub record TouchedSound (c : Cycle) (words : Field → ℕ) : Type 0 where
  pub stood : (f : Field) → HasStood c f (words f)
  pub touched : (f : Field) → IsOld c (object_of f) ⊎ IsTrue (c.born (object_of f)) → words f ≢ 0 → IsTouched c f (words f)

-- their bound fields have their own cells, and are safe once the object is scanned or born
pub record BoundSound (c : Cycle) (ids : Space → ℕ → Option ℕ) (words : Field → ℕ) (bound : Field → Option ℕ) : Type 0 where
  pub own : (f : Field) (n : ℕ) → IsOld c (object_of f) ⊎ IsTrue (c.born (object_of f)) → bound f ≡ Some n →
      ids (space_of f) (index_of (words f)) ≡ Some n
  pub safe : (f : Field) → IsTrue (c.scans (object_of f)) ⊎ IsTrue (c.born (object_of f)) → IsSome (bound f) →
      IsTrue (c.marks (space_of f) (index_of (words f))) × IsPlaced c f (index_of (words f))

-- the cycle, where one is under way
pub record CycleSound (s : Table) (c : Cycle) : Type 0 where
  pub area : AreaSound s.sizes.seg (unwrap_or (greatest_below (s.used External) (limit_of s External)) 0) c.start c.aborted c.evac c.visited (IsOld c)
  pub marks : MarksSound (id_at s) s.fresh c.marks c.start c.aborted
  pub traced : TracedSound s.count (IsOld c) c.born c.scans s.refs s.globals s.vars
  pub touched : TouchedSound c s.words
  pub bound : BoundSound c (id_at s) s.words s.bound

-- the evacuation entries of the cycle, where one is under way
abbrev pub entries_in : Option Cycle → ℕ → Option ℕ
entries_in None i = None
entries_in (Some c) i = c.evac i

pub record IsSound (s : Table) : Type 0 where
  pub used : UsedSound (limit_of s) s.used (id_at s) s.owed (entries_in s.cycle)
  pub fresh : FreshSound (id_at s) s.fresh
  pub ids : IdsSound (id_at s) s.next
  pub cells : CellsSound s.cells
  pub objects : ObjectsSound s.sizes.objects s.count s.refs s.globals s.vars s.words s.bound
  pub fields : FieldsSound (id_at s) s.fresh s.words s.bound (Reaches s.refs s.globals s.vars)
  pub tickets : TicketsSound (s.cells Trusted) s.fresh s.ticket
  pub cycle : IfSome s.cycle (CycleSound s)
