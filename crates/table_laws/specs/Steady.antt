-- Steadiness: what an event that neither starts nor finishes a cycle leaves as it was, or lets only grow. It is what one
-- number may rely on while others make their events: its cells and marks stay, nobody else touches what it owes or may
-- publish, and a safe field stays safe.
use Rattle.std.specs.Prelude.{◌≡◌, ◌≢◌, ◌⊎◌, ℕ, ◌≤◌, Option, Some, None, IsTrue, IsSome, IsSomeAnd, IfSome}
use Rattle.plain_table.specs.declared.events.Act.{Act}
use Rattle.plain_table.specs.declared.events.Act.TheVariants.{Link, Put, Bind, Publish, Start, Finish}
use Rattle.plain_table.specs.declared.events.Cell.{Cell}
use Rattle.plain_table.specs.declared.events.Event.{Event}
use Rattle.plain_table.specs.declared.events.Space.{Space}
use Rattle.plain_table.specs.declared.events.Space.TheVariants.{Trusted}
use Rattle.plain_table.specs.declared.events.Field.{Field}
use Rattle.plain_table.specs.declared.events.Spot.TheVariants.{Ref}
use Rattle.plain_table.specs.declared.reports.Reply.TheVariants as reply
use Rattle.plain_table.specs.Cycle.{Cycle}
use Rattle.plain_table.specs.Table.{Table}
use Rattle.plain_table.specs.Rows.{InCycle, IsSafe, object_in}

-- an event concurrent with others: neither the start nor the finish of a cycle
abbrev pub IsDuringPhase : Act → Type 0
IsDuringPhase (Start policy) = ⊥
IsDuringPhase Finish = ⊥
IsDuringPhase _ = Unit {0}

-- cells: each stays at its index with its id and tag, a trusted one with its value; only a put makes one, only a publish
-- shows one, and in a cycle one that changes or is made is marked
pub record CellsSteady (s : Table) (e : Event) (t : Table) : Type 0 where
  pub stay : (p : Space) (i : ℕ) (c : Cell) → s.cells p i ≡ Some c → IsSomeAnd (t.cells p i) (λ d. (d.id ≡ c.id) × (d.tag ≡ c.tag))
  pub values : (i : ℕ) (c : Cell) → s.cells Trusted i ≡ Some c → IsSomeAnd (t.cells Trusted i) (λ d. d.value ≡ c.value)
  pub made : (p : Space) (i : ℕ) → s.cells p i ≡ None → IsSome (t.cells p i) →
      (tag : ℕ) × (value : ℕ) × (e.act ≡ Put p i tag value)
  pub shown : (p : Space) (i : ℕ) (c : Cell) → s.cells p i ≡ Some c →
      IsSomeAnd (t.cells p i) (λ d. d.shown ≡ c.shown) ⊎ ((p ≡ Trusted) × (e.act ≡ Publish i))
  pub marked : (p : Space) (i : ℕ) (c : Cell) → s.cells p i ≡ Some c →
      (t.cells p i ≡ Some c) ⊎ (t.cycle ≡ None) ⊎ InCycle t (λ d. IsTrue (d.marks p i))
  pub made_marked : (p : Space) (i : ℕ) → s.cells p i ≡ None → IsSome (t.cells p i) → IfSome t.cycle (λ d. IsTrue (d.marks p i))

-- what a number holds, may publish, owes and has filled changes only by its own events
pub record OthersSteady (s : Table) (e : Event) (t : Table) : Type 0 where
  pub variables : (b v : ℕ) → b ≢ e.by → t.vars b v ≡ s.vars b v
  pub tickets : (b : ℕ) → b ≢ e.by → t.ticket b ≡ s.ticket b
  pub owed : (b : ℕ) (p : Space) (i : ℕ) → b ≢ e.by → t.owed b p i ≡ s.owed b p i
  pub fresh : (b : ℕ) (p : Space) (i : ℕ) → b ≢ e.by → t.fresh b p i ≡ s.fresh b p i

-- the cycle under way: its start and what was old stay, and marks, entries, births, scans, touched words and an abort too
pub record CycleSteady (c d : Cycle) : Type 0 where
  pub start : d.start ≡ c.start
  pub refs : d.refs ≡ c.refs
  pub globals : d.globals ≡ c.globals
  pub vars : d.vars ≡ c.vars
  pub words : d.words ≡ c.words
  pub aborted : IsTrue c.aborted → IsTrue d.aborted
  pub marks : (p : Space) (i : ℕ) → IsTrue (c.marks p i) → IsTrue (d.marks p i)
  pub evac : (i number : ℕ) → c.evac i ≡ Some number → d.evac i ≡ Some number
  pub visited : (number : ℕ) → IsTrue (c.visited number) → IsTrue (d.visited number)
  pub born : (o : ℕ) → IsTrue (c.born o) → IsTrue (d.born o)
  pub scans : (o : ℕ) → IsTrue (c.scans o) → IsTrue (d.scans o)
  pub came : (f : Field) (w : ℕ) → IsTrue (c.came f w) → IsTrue (d.came f w)

-- no cycle begins or ends
abbrev pub CyclesSteady : Option Cycle → Option Cycle → Type 0
CyclesSteady None None = Unit {0}
CyclesSteady (Some c) (Some d) = CycleSteady c d
CyclesSteady _ _ = ⊥

-- in a cycle a field that was safe and is still bound is safe, and so is one that a bind has just bound
abbrev pub SafeSteady : Table → Event → Table → Type 0
SafeSteady s e t =
    (c d : Cycle) → s.cycle ≡ Some c → t.cycle ≡ Some d → (f : Field) (id : ℕ) → t.bound f ≡ Some id →
    IsSafe s c f id ⊎ ((w : ℕ) × (e.act ≡ Bind f w) × (e.said ≡ reply.Ok)) → IsSafe t d f id

-- a field keeps its word and its binding, or is not bound, or was just bound
abbrev pub FieldsSteady : Table → Event → Table → Type 0
FieldsSteady s e t =
    (f : Field) → ((t.words f ≡ s.words f) × (t.bound f ≡ s.bound f)) ⊎ (t.bound f ≡ None)
    ⊎ ((w : ℕ) × (e.act ≡ Bind f w) × (e.said ≡ reply.Ok))

-- a reference keeps what it holds, or was just linked
abbrev pub ReferencesSteady : Table → Event → Table → Type 0
ReferencesSteady s e t =
    (o k : ℕ) → (t.refs o k ≡ s.refs o k)
    ⊎ ((var : Option ℕ) × (e.act ≡ Link (Ref o k) var) × (t.refs o k ≡ object_in s e.by var))

pub record IsSteady (s : Table) (e : Event) (t : Table) : Type 0 where
  pub sizes : t.sizes ≡ s.sizes
  pub cells : CellsSteady s e t
  pub others : OthersSteady s e t
  pub cycle : CyclesSteady s.cycle t.cycle
  pub safe : SafeSteady s e t
  pub used : (p : Space) (i : ℕ) → IsTrue (s.used p i) → IsTrue (t.used p i)
  -- an index becomes fresh only by a put into an empty one
  pub fresh : (b : ℕ) (p : Space) (i : ℕ) → IsTrue (t.fresh b p i) → IsTrue (s.fresh b p i) ⊎ (s.cells p i ≡ None)
  -- a bound field keeps its id and its word as long as it stays bound
  pub bound : (f : Field) (id : ℕ) → s.bound f ≡ Some id → IsSome (t.bound f) →
      (t.bound f ≡ Some id) × (t.words f ≡ s.words f)
  pub fields : FieldsSteady s e t
  pub references : ReferencesSteady s e t
  pub count : s.count ≤ t.count
  pub next : s.next ≤ t.next
