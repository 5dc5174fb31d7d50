-- What happens at a meet, and its report: the start of a cycle, or the scans that are still owed and the finish. The
-- numbers of a sweep's report are those of the tables before and after the finish. A meet scans only what is due, and
-- reads the words that stand in fields then.
use Rattle.std.specs.Prelude.{◌≡◌, ℕ, ◌+◌, Bool, true, false, ◌||◌, List, [], ◌∷◌, ◌++◌, Option, Some, None, is_some, IsTrue}
use Rattle.std.specs.List.{All, Contains}
use Rattle.std.specs.Option.{option_to_list}
use Rattle.plain_table.specs.declared.scripts.Meet.{Meet}
use Rattle.plain_table.specs.declared.scripts.Meet.TheVariants as meet
use Rattle.plain_table.specs.declared.reports.Compaction.{Compaction}
use Rattle.plain_table.specs.declared.reports.Compaction.TheVariants.{NoArea, Done, Aborted}
use Rattle.plain_table.specs.declared.reports.SweepReport.{SweepReport}
use Rattle.plain_table.specs.declared.reports.MeetReport.{MeetReport}
use Rattle.plain_table.specs.declared.reports.MeetReport.TheVariants as report
use Rattle.plain_table.specs.declared.reports.Reply.TheVariants as reply
use Rattle.plain_table.specs.declared.events.Act.{Act}
use Rattle.plain_table.specs.declared.events.Act.TheVariants.{Link, Start, Finish}
use Rattle.plain_table.specs.declared.events.Event.{Event}
use Rattle.plain_table.specs.declared.events.Space.{Space}
use Rattle.plain_table.specs.declared.events.Space.TheVariants.{External, Trusted}
use Rattle.plain_table.specs.declared.events.Spot.TheVariants.{Ref}
use Rattle.plain_table.specs.Reachable.{IsRoot}
use Rattle.plain_table.specs.Area.{count_below, segments_in_use}
use Rattle.plain_table.specs.Cycle.{Cycle}
use Rattle.plain_table.specs.Table.{Table, limit_of}
use Rattle.plain_table.specs.Finish.{area_of, target, finished}
use Rattle.plain_table.specs.Rows.{InCycle, object_in}
use Rattle.plain_table.specs.History.{next, after}
use Rattle.plain_table.specs.Shapes.{event}
use Rattle.plain_table.specs.Scans.{Scans, Rest, IsReadAtMeet}

-- the number that makes the events of meets
abbrev pub meeting : ℕ
meeting = 12

-- the objects that were linked to references since the last start, after a history
abbrev pub linked_next : Table → ℕ → Act → List ℕ → List ℕ
linked_next s b (Start policy) linked = []
linked_next s b (Link (Ref object k) target) linked = option_to_list (object_in s b target) ++ linked
linked_next s b _ linked = linked

abbrev pub linked_after : Table → List ℕ → List Event → List ℕ
linked_after s linked [] = linked
linked_after s linked (e ∷ es) = linked_after (next s e) (linked_next s e.by e.act linked) es

-- what a meet may still have to scan: an object that was shaded in this cycle (a root at its start, or one that was
-- linked to a reference since), a root, and what references of these hold
pub data IsDue (s : Table) (c : Cycle) (linked : List ℕ) : ℕ → Type 0 where
  Was_root : (o : ℕ) → IsRoot c.globals c.vars o → IsDue s c linked o
  Was_linked : (o : ℕ) → Contains linked o → IsDue s c linked o
  Is_root : (o : ℕ) → IsRoot s.globals s.vars o → IsDue s c linked o
  Is_referred : (o k q : ℕ) → IsDue s c linked o → s.refs o k ≡ Some q → IsDue s c linked q

abbrev pub MayScanAtMeet : List ℕ → Table → ℕ → Type 0
MayScanAtMeet linked s o = InCycle s (λ c. IsDue s c linked o)

-- how a compaction ends, by the area of its cycle and by whether it was aborted
abbrev pub compaction_by : Option ℕ → Bool → Compaction
compaction_by None aborted = NoArea
compaction_by (Some start) true = Aborted
compaction_by (Some start) false = Done

-- the cells of a space
abbrev pub cells_in : Table → Space → ℕ
cells_in s p = count_below (λ i. is_some (s.cells p i)) (limit_of s p)

-- the report of the finish of cycle c in the table s, with the table t after it
pub record IsSweep (s : Table) (c : Cycle) (t : Table) (sweep : SweepReport) : Type 0 where
  pub kept : sweep.kept ≡ cells_in t External
  pub freed : sweep.kept + sweep.freed ≡ cells_in s External
  pub moved : sweep.moved ≡ count_below (λ i. is_some (target c s.words i)) (limit_of s External)
  pub segs : sweep.segs ≡ segments_in_use (t.used External) (limit_of t External) t.sizes.seg
  pub trusted : sweep.trusted ≡ cells_in t Trusted
  pub tfreed : sweep.trusted + sweep.tfreed ≡ cells_in s Trusted
  pub compaction : sweep.compaction ≡ compaction_by c.start c.aborted

-- the pause of a finish, at the table s: scans by the meeting's number, of due objects and by the words that stand in
-- fields, until each due object is scanned or born
pub record IsPause (linked : List ℕ) (s : Table) (events : List Event) : Type 0 where
  pub own : All (λ (e : Event). e.by ≡ meeting) events
  pub scans : Scans (MayScanAtMeet linked) IsReadAtMeet meeting Rest s events Rest
  pub complete : InCycle (after s events) (λ c. (o : ℕ) → IsDue (after s events) c linked o → IsTrue (c.scans o || c.born o))

-- the events of a meet at the table s and its report; `linked` are the objects that were linked in its cycle
abbrev pub MeetBelongs : List ℕ → Table → Meet → List Event → MeetReport → Type 0
MeetBelongs linked s meet.Plain events report.Plain = events ≡ []
MeetBelongs linked s (meet.Start policy) events (report.Started area) =
    (events ≡ event meeting (Start policy) reply.Ok ∷ []) × (area ≡ area_of s policy)
MeetBelongs linked s meet.Finish events (report.Swept sweep) =
    (scans : List Event) × (events ≡ scans ++ event meeting Finish reply.Ok ∷ [])
    × IsPause linked s scans
    × InCycle (after s scans) (λ c. IsSweep (after s scans) c (finished (after s scans) c) sweep)
MeetBelongs linked s meet.End events report.Ended = events ≡ []
MeetBelongs linked s _ events _ = ⊥
