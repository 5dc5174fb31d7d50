-- What the workers of a phase need, and what they have done: the mutators one by one, and the whole phase as the session knows it
-- that took all of them in.
use Rattle.std.specs.Prelude.{◌≡◌, ◌⊎◌, ℕ, ◌<◌, ◌≤◌, List, [], ◌++◌, length, map, slice_index_or, vec_capacity}
use Rattle.std.specs.List.{All, Contains, count_by}
use Rattle.plain_table.specs.declared.scripts.Limits.{Limits}
use Rattle.plain_table.specs.declared.scripts.Op.{Op}
use Rattle.plain_table.specs.declared.events.Event.{Event}
use Rattle.plain_table.specs.declared.reports.Reply.{Reply}
use Rattle.plain_table.specs.Belongs.{IsMarker, IsScannedIn, events_by}
use Rattle.plain_table.specs.Scans.{IsReadConcurrently, Rest, Scans}
use Rattle.plain_table.specs.Shapes.{MakesCalls, with_ticket}
use Rattle.plain_table.specs.Sweeps.{linked_after}
use Rattle.plain_table.specs.Table.{Table}
use Rattle.script_reader.specs.Lines.{most_operations}
use Rattle.script_reader.specs.Valid.{IsValidOp}
use Rattle.entry_base.specs.declared.table.Shared.{Shared}
use Rattle.entry_base.specs.declared.view.Fact.TheVariants as fact
use Rattle.entry_base.specs.declared.view.Opening.{Opening}
use Rattle.entry_base.specs.declared.view.View.{View}
use Rattle.entry_base.specs.declared.chunks.Chunk.{Chunk}
use Rattle.entry_base.specs.Lists.{Has, total}
use Rattle.entry_base.specs.Numbers.{HasNumber}
use Rattle.entry_base.specs.Openings.{IsBase, phase_of}
use Rattle.entry_base.specs.Sessions.{IsOf, view}
use Rattle.call_base.specs.ScanParts.{any_object}
use Rattle.chunk_pool.specs.declared.pool.Pool.{Pool}
use Rattle.phase_calls.specs.Calls.{MakesInTurn}
use Rattle.phases.specs.declared.markers.Marking.{Marking}
use Rattle.phases.specs.declared.mutators.Worker.{Worker}
use Rattle.phases.specs.Markings.{EachOnce, HasMarked, HaveEnded}
use Rattle.phases.specs.Phases.{is_scan}
use Rattle.phases.specs.Sessions.{TookIn}

-- a mutator that may make these calls, with room for their replies
pub record MayCall (t : Shared) (calls : List Op) (w : Worker) : Type 0 where
  pub caller : IsOf t w.session
  pub mutator : (view w.session).number < 8
  pub empty : w.replies.items ≡ []
  pub room : length calls ≤ vec_capacity w.replies
  pub valid : All (IsValidOp 2) calls
  pub few : length calls ≤ most_operations

-- and one that made them
pub record HasCalled (t : Shared) (calls : List Op) (before after : Worker) : Type 0 where
  pub caller : IsOf t after.session
  pub makes : MakesInTurn (view before.session) calls after.replies.items (view after.session)

-- all mutators, each with its list of calls
pub record MayAllCall (t : Shared) (calls : List (List Op)) (workers : List Worker) : Type 0 where
  pub lists : length workers ≡ length calls
  pub each : (i : ℕ) (d : Worker) → i < length workers → MayCall t (slice_index_or calls i []) (slice_index_or workers i d)

pub record HaveAllCalled (t : Shared) (calls : List (List Op)) (before after : List Worker) : Type 0 where
  pub lists : length after ≡ length before
  pub each : (i : ℕ) (d : Worker) → i < length before → HasCalled t (slice_index_or calls i []) (slice_index_or before i d) (slice_index_or after i d)

-- all mutators made their calls and were taken in
pub record CalledAll (t : Shared) (calls : List (List Op)) (before : List Worker) (replies : List (List Reply)) (after : List Worker) : Type 0 where
  pub called : HaveAllCalled t calls before after
  pub replied : replies ≡ map (λ (x : Worker). x.replies.items) after

-- and nobody else
pub record WorkedAlone (t : Shared) (calls : List (List Op)) (before : List Worker) (replies : List (List Reply)) (v w : View) : Type 0 where
  pub after : List Worker
  pub all : CalledAll t calls before replies after
  pub took : TookIn v (map (λ (x : Worker). view x.session) after) w

-- or the markers, which ran meanwhile
pub record WorkedMarking (t : Shared) (pool : Pool) (calls : List (List Op)) (before : List Worker) (marks : List Marking) (replies : List (List Reply)) (scans : ℕ) (v w : View) : Type 0 where
  pub after : List Worker
  pub all : CalledAll t calls before replies after
  pub marked : List Marking
  pub lists : length marked ≡ length marks
  pub each : (i : ℕ) (d : Marking) → i < length marks → HasMarked t pool (slice_index_or marks i d) (slice_index_or marked i d)
  pub once : (chunks : List Chunk) → HaveEnded chunks marked → EachOnce chunks marked
  pub counted : scans ≡ total (λ (m : Marking). m.dealt.scans) marked
  pub took : TookIn v (map (λ (x : Worker). view x.session) after ++ map (λ (m : Marking). view m.session) marked) w

-- the calls of all mutators were made, and the markers have scanned, in a phase that was opened with `key` and with these objects to
-- scan: what the session knows that took all workers in
pub record Worked (limits : Limits) (key : Opening) (calls : List (List Op)) (owed : List ℕ) (replies : List (List Reply)) (scans : ℕ) (w : View) : Type 0 where
  pub all : (n : ℕ) → n ≤ 12 → HasNumber w n
  pub lists : length replies ≡ limits.mutators
  pub calls_made : (s : Table) → IsBase key s → (b : ℕ) → b < limits.mutators →
      MakesCalls b s.cycle (s.vars b) (with_ticket (s.ticket b)) (slice_index_or calls b []) (slice_index_or replies b []) (events_by b w.seen)
  pub scans_made : (s : Table) → IsBase key s → (b : ℕ) → IsMarker limits b → Scans any_object IsReadConcurrently b Rest s w.seen Rest
  pub numbers : All (λ (e : Event). (e.by < limits.mutators) ⊎ IsMarker limits e.by) w.seen
  pub counted : scans ≡ count_by (λ (e : Event). is_scan e.act) w.seen
  pub marked : 1 ≤ limits.markers → (o : ℕ) → Has owed o → IsScannedIn limits w.seen o
  -- an object of the hands was linked in this phase, or was to scan before it where there is no marker, and all of these still are
  pub held : (s : Table) → IsBase key s → (o : ℕ) → Has w.hands o → Contains (linked_after s [] w.seen) o ⊎ ((limits.markers ≡ 0) × Has owed o)
  pub waits : limits.markers ≡ 0 → (o : ℕ) → Has owed o → Has w.hands o
  -- what was cut off in chunks was to scan, by markers
  pub cut : (o : ℕ) → Has w.cut o → (1 ≤ limits.markers) × Has owed o
  pub linked : (s : Table) → IsBase key s → phase_of key ≡ 1 → (o : ℕ) → Contains (linked_after s [] w.seen) o → Has w.facts (fact.Shaded o)
