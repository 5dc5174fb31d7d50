-- The scans of a number: of each object that it scans it visits the three fields with an index word, in some order, and
-- then says that the object is scanned. A visit marks the cell that the field's word names, if one stands there, and
-- gives an external field whose cell lies in the evacuation area an entry below it, or aborts. Between these events
-- others may make theirs, and each question is asked of the table at its point.
use Rattle.std.specs.Prelude.{◌≡◌, ◌≢◌, ◌⊎◌, ℕ, false, List, [], ◌∷◌, length, None, IsTrue, IsSome}
use Rattle.std.specs.List.{Contains}
use Rattle.plain_table.specs.declared.events.Act.TheVariants.{Below, Abort, Mark, Evac, Scan}
use Rattle.plain_table.specs.declared.events.Event.{Event}
use Rattle.plain_table.specs.declared.events.Space.TheVariants.{External}
use Rattle.plain_table.specs.declared.events.Field.{Field}
use Rattle.plain_table.specs.declared.events.Field.TheVariants as field
use Rattle.plain_table.specs.declared.reports.Reply.TheVariants as reply
use Rattle.plain_table.specs.Index.{index_of}
use Rattle.plain_table.specs.Places.{space_of, object_of}
use Rattle.plain_table.specs.Cycle.{HasStood, is_in_area}
use Rattle.plain_table.specs.Table.{Table}
use Rattle.plain_table.specs.Rows.{InCycle}
use Rattle.plain_table.specs.History.{next}
use Rattle.plain_table.specs.Shapes.{event}

-- the three fields of an object, in some order
abbrev pub AreFieldsOf : ℕ → List Field → Type 0
AreFieldsOf o fields = (length fields ≡ 3) × ((f : Field) → object_of f ≡ o → Contains fields f)

-- a word that a marker reads, concurrently with mutators: one that stood in the field in this cycle
abbrev pub IsReadConcurrently : Table → Field → ℕ → Type 0
IsReadConcurrently s f w = InCycle s (λ c. HasStood c f w)

-- at a meet the word that stands in the field is read
abbrev pub IsReadAtMeet : Table → Field → ℕ → Type 0
IsReadAtMeet s f w = w ≡ s.words f

-- the cell at the word's index need not move: it is outside the area, or none, or the compaction is aborted
abbrev pub NeedNotMove : Table → ℕ → Type 0
NeedNotMove s w =
    (is_in_area s.cycle (index_of w) ≡ false) ⊎ (s.cells External (index_of w) ≡ None) ⊎ InCycle s (λ c. IsTrue c.aborted)

-- the cell at the word's index stands in the area
abbrev pub IsInArea : Table → ℕ → Type 0
IsInArea s w = IsTrue (is_in_area s.cycle (index_of w)) × IsSome (s.cells External (index_of w))

-- what a number that scans is at
pub data Scanner : Type 0 where
  -- it scans no object
  Rest : Scanner
  -- these fields of the object are still to be visited
  Visit : (o : ℕ) → List Field → Scanner
  -- the external field with this number had this word, whose cell may have to move
  Move : (o : ℕ) → List Field → (number w : ℕ) → Scanner
  -- an index is taken for the evacuation entry of that field
  Fill : (o : ℕ) → List Field → (number i : ℕ) → Scanner
  -- no index was free
  GiveUp : (o : ℕ) → List Field → Scanner

-- after the mark of a field's word
abbrev pub marked_at : ℕ → List Field → Field → ℕ → Scanner
marked_at o fields (field.External number) w = Move o fields number w
marked_at o fields (field.Trusted number) w = Visit o fields

-- what a number that scans does with no event, at a table: it begins with an object that it may scan, passes over a word
-- that it may read and that names no cell, and leaves a cell that need not move
pub data Turns (MayScan : Table → ℕ → Type 0) (IsRead : Table → Field → ℕ → Type 0) (s : Table) : Scanner → Scanner → Type 0 where
  Begins : (o : ℕ) (fields : List Field) → MayScan s o → AreFieldsOf o fields →
      Turns MayScan IsRead s Rest (Visit o fields)
  Passes : (o : ℕ) (f : Field) (w : ℕ) (fields : List Field) → IsRead s f w → s.cells (space_of f) (index_of w) ≡ None →
      Turns MayScan IsRead s (Visit o (f ∷ fields)) (marked_at o fields f w)
  Stays : (o number w : ℕ) (fields : List Field) → NeedNotMove s w →
      Turns MayScan IsRead s (Move o fields number w) (Visit o fields)

-- what number b does by an event, at the table before it
pub data Makes (IsRead : Table → Field → ℕ → Type 0) (b : ℕ) (s : Table) : Event → Scanner → Scanner → Type 0 where
  Marks : (o : ℕ) (f : Field) (w : ℕ) (fields : List Field) → IsRead s f w →
      Makes IsRead b s (event b (Mark (space_of f) (index_of w)) reply.Ok) (Visit o (f ∷ fields)) (marked_at o fields f w)
  Takes : (o number w start i : ℕ) (fields : List Field) → IsInArea s w →
      Makes IsRead b s (event b (Below start) (reply.Index i)) (Move o fields number w) (Fill o fields number i)
  Fills : (o number i : ℕ) (fields : List Field) →
      Makes IsRead b s (event b (Evac i number) reply.Ok) (Fill o fields number i) (Visit o fields)
  Fails : (o number w start : ℕ) (fields : List Field) → IsInArea s w →
      Makes IsRead b s (event b (Below start) reply.NoRoom) (Move o fields number w) (GiveUp o fields)
  Aborts : (o : ℕ) (fields : List Field) →
      Makes IsRead b s (event b Abort reply.Ok) (GiveUp o fields) (Visit o fields)
  Says : (o : ℕ) → Makes IsRead b s (event b (Scan o) reply.Ok) (Visit o []) Rest

-- from one place of its work, at a table, the events of number b in the list bring it to another place, by objects that it
-- may scan and words that it may read; events of others stand between
pub data Scans (MayScan : Table → ℕ → Type 0) (IsRead : Table → Field → ℕ → Type 0) (b : ℕ) : Scanner → Table → List Event → Scanner → Type 0 where
  Ends : (at : Scanner) (s : Table) → Scans MayScan IsRead b at s [] at
  Others : (at : Scanner) (s : Table) (e : Event) (es : List Event) (to : Scanner) → e.by ≢ b →
      Scans MayScan IsRead b at (next s e) es to → Scans MayScan IsRead b at s (e ∷ es) to
  Turn : (at mid : Scanner) (s : Table) (es : List Event) (to : Scanner) → Turns MayScan IsRead s at mid →
      Scans MayScan IsRead b mid s es to → Scans MayScan IsRead b at s es to
  Make : (at mid : Scanner) (s : Table) (e : Event) (es : List Event) (to : Scanner) → e.by ≡ b → Makes IsRead b s e at mid →
      Scans MayScan IsRead b mid (next s e) es to → Scans MayScan IsRead b at s (e ∷ es) to
