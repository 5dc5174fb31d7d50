-- What it is for an outcome to belong to a script by a history: the history is legal from the opening and has one part
-- a phase, in which the events of each mutator are the shapes of its calls, each once and in its order, with the
-- replies of the outcome, those of each marker are scans, and those of the meet come last; and the totals of the
-- outcome are those of the table after it.
use Rattle.std.specs.Prelude.{◌≡◌, ◌≢◌, ◌⊎◌, ℕ, zero, suc, ◌+◌, ◌^◌, ◌%◌, ◌<◌, ◌≤◌, ◌==◌, Bool, true, false, List, [], ◌∷◌, ◌++◌, length, Option, slice_index_or, IsTrue}
use Rattle.std.specs.List.{All, Any, filter, count_by}
use Rattle.plain_table.specs.declared.scripts.Limits.{Limits}
use Rattle.plain_table.specs.declared.scripts.Meet.{Meet}
use Rattle.plain_table.specs.declared.scripts.Meet.TheVariants.{Start}
use Rattle.plain_table.specs.declared.scripts.Phase.{Phase}
use Rattle.plain_table.specs.declared.scripts.Script.{Script}
use Rattle.plain_table.specs.declared.reports.PhaseReport.{PhaseReport}
use Rattle.plain_table.specs.declared.reports.Outcome.{Outcome}
use Rattle.plain_table.specs.declared.events.Act.{Act}
use Rattle.plain_table.specs.declared.events.Act.TheVariants.{Link, Put, Scan}
use Rattle.plain_table.specs.declared.events.Cell.{Cell}
use Rattle.plain_table.specs.declared.events.Event.{Event}
use Rattle.plain_table.specs.declared.events.Space.TheVariants.{External, Trusted}
use Rattle.plain_table.specs.declared.events.Spot.TheVariants.{Ref}
use Rattle.plain_table.specs.Reachable.{IsRoot}
use Rattle.plain_table.specs.Table.{Table, opening, limit_of}
use Rattle.plain_table.specs.Finish.{IsReachable}
use Rattle.plain_table.specs.Rows.{value_at}
use Rattle.plain_table.specs.History.{IsLegalHistory, after}
use Rattle.plain_table.specs.Shapes.{MakesCalls, with_ticket}
use Rattle.plain_table.specs.Scans.{Scans, Rest, IsReadConcurrently}
use Rattle.plain_table.specs.Sweeps.{MeetBelongs, cells_in, linked_after}

-- the part of a history that is one phase: what happened concurrently, and then what happened at its meet
pub record Part : Type 0 where
  pub during : List Event
  pub meet : List Event

abbrev pub events_of : Part → List Event
events_of part = part.during ++ part.meet

-- the events of one number, in their order
abbrev pub events_by : ℕ → List Event → List Event
events_by b events = filter (λ e. e.by == b) events

-- the numbers of markers begin at 8
abbrev pub IsMarker : Limits → ℕ → Type 0
IsMarker limits b = (8 ≤ b) × (b < 8 + limits.markers)

-- some marker scanned the object
abbrev pub IsScannedIn : Limits → List Event → ℕ → Type 0
IsScannedIn limits events o = Any (λ (e : Event). IsMarker limits e.by × (e.act ≡ Scan o)) events

-- the events link no object, and not nothing either, to a reference
abbrev pub LinkNoReference : List Event → Type 0
LinkNoReference events = All (λ (e : Event). (o k : ℕ) (var : Option ℕ) → e.act ≢ Link (Ref o k) var) events

-- a part of the history and a report are those of a phase that begins at the table s. `begins` tells that its meet
-- before was the start of a cycle, and `linked` what was linked since the last one
pub record PhaseBelongs (limits : Limits) (begins : Bool) (linked : List ℕ) (s : Table) (phase : Phase) (part : Part) (report : PhaseReport) : Type 0 where
  -- the events of each mutator are its calls, with the replies that are reported
  pub calls : (b : ℕ) → b < limits.mutators →
      MakesCalls b s.cycle (s.vars b) (with_ticket (s.ticket b)) (slice_index_or phase.calls b []) (slice_index_or report.replies b [])
      (events_by b part.during)
  -- the events of each marker are scans, of any objects
  pub scans : (b : ℕ) → IsMarker limits b → Scans (λ t o. Unit {0}) IsReadConcurrently b Rest s part.during Rest
  -- no other number makes an event concurrently with them
  pub numbers : All (λ (e : Event). (e.by < limits.mutators) ⊎ IsMarker limits e.by) part.during
  -- in the first phase of a cycle markers scan each root
  pub roots : IsTrue begins → 1 ≤ limits.markers → (o : ℕ) → IsRoot s.globals s.vars o → IsScannedIn limits part.during o
  -- and each object that is reachable at its start, where nothing is linked to a reference concurrently
  pub old : IsTrue begins → 1 ≤ limits.markers → LinkNoReference part.during → (o : ℕ) → IsReachable s o →
      IsScannedIn limits part.during o
  pub lists : length report.replies ≡ limits.mutators
  pub meet : MeetBelongs (linked_after s linked part.during) (after s part.during) phase.meet part.meet report.meet

abbrev pub is_start : Meet → Bool
is_start (Start policy) = true
is_start _ = false

-- the same of each phase in turn, the next one beginning where the last part ended
abbrev pub PhasesBelong : Limits → Bool → List ℕ → Table → List Phase → List Part → List PhaseReport → Type 0
PhasesBelong limits begins linked s [] [] [] = Unit {0}
PhasesBelong limits begins linked s (phase ∷ phases) (part ∷ parts) (report ∷ reports) =
    PhaseBelongs limits begins linked s phase part report
    × PhasesBelong limits (is_start phase.meet) (linked_after s linked (events_of part)) (after s (events_of part)) phases parts reports
PhasesBelong limits begins linked s _ _ _ = ⊥

-- the parts, one after the other
abbrev pub whole : List Part → List Event
whole [] = []
whole (part ∷ parts) = events_of part ++ whole parts

-- the sum of the values of cells below an index
abbrev pub values_below : (ℕ → Option Cell) → ℕ → ℕ
values_below cells zero = 0
values_below cells (suc n) = values_below cells n + value_at (cells n)

abbrev pub is_external_put : Act → Bool
is_external_put (Put External i tag value) = true
is_external_put _ = false

-- the totals of an outcome are those of the last table and of the whole history
pub record HasTotals (s : Table) (events : List Event) (outcome : Outcome) : Type 0 where
  pub live : outcome.live ≡ cells_in s External
  pub trusted : outcome.trusted ≡ cells_in s Trusted
  pub objects : outcome.objects ≡ s.count
  pub sum : outcome.sum ≡ values_below (s.cells External) (limit_of s External) % 2 ^ 48
  pub puts : outcome.puts ≡ count_by (λ (e : Event). is_external_put e.act) events

pub record Belongs (script : Script) (parts : List Part) (outcome : Outcome) : Type 0 where
  pub legal : IsLegalHistory (opening script.limits) (whole parts)
  pub phases : PhasesBelong script.limits false [] (opening script.limits) script.phases parts outcome.phases
  pub totals : HasTotals (after (opening script.limits) (whole parts)) (whole parts) outcome
