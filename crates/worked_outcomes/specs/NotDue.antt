-- An object that is not due: at the start of a cycle a reference of the first object holds the second one, and no variable
-- does. The mutator then empties the reference. The second object is old, so a scan of it is legal; but it was no root at
-- the start, was linked to no reference since, and nothing refers to it now, so the pause of the finish may not scan it.
use Rattle.std.specs.Prelude.{List, [], ◌∷◌, ◌++◌, Some, None}
use Rattle.plain_table.specs.declared.scripts.Limits.{Limits}
use Rattle.plain_table.specs.declared.scripts.Op.TheVariants as op
use Rattle.plain_table.specs.declared.scripts.Meet.TheVariants as meet
use Rattle.plain_table.specs.declared.scripts.Phase.{Phase}
use Rattle.plain_table.specs.declared.scripts.Policy.TheVariants.{Never}
use Rattle.plain_table.specs.declared.scripts.Script.{Script}
use Rattle.plain_table.specs.declared.events.Act.TheVariants.{New, Drop, Link, Scan, Start, Finish}
use Rattle.plain_table.specs.declared.events.Event.{Event}
use Rattle.plain_table.specs.declared.events.Spot.TheVariants.{Ref}
use Rattle.plain_table.specs.declared.reports.Compaction.TheVariants.{NoArea}
use Rattle.plain_table.specs.declared.reports.MeetReport.TheVariants as report
use Rattle.plain_table.specs.declared.reports.Outcome.{Outcome}
use Rattle.plain_table.specs.declared.reports.Reply.TheVariants as reply
use Rattle.plain_table.specs.Shapes.{event}
use Rattle.plain_table.specs.Sweeps.{meeting}
use Rattle.plain_table.specs.Belongs.{Part}

abbrev pub limits : Limits
limits = record { seg = 4; ext = 1; tru = 1; objects = 2; mutators = 1; markers = 0 }

abbrev pub linking : Phase
linking = record {
  calls = (op.New 0 ∷ op.New 1 ∷ op.Link 0 0 (Some 1) ∷ op.Drop 1 ∷ []) ∷ [];
  meet = meet.Start Never;
}

abbrev pub emptying : Phase
emptying = record { calls = (op.Link 0 0 None ∷ []) ∷ []; meet = meet.Finish }

abbrev pub ending : Phase
ending = record { calls = [] ∷ []; meet = meet.End }

abbrev pub script : Script
script = record { version = 1; limits = limits; phases = linking ∷ emptying ∷ ending ∷ [] }

abbrev pub linked : List Event
linked =
    event 0 (New 0) (reply.Obj 0)
    ∷ event 0 (New 1) (reply.Obj 1)
    ∷ event 0 (Link (Ref 0 0) (Some 1)) reply.Ok
    ∷ event 0 (Drop 1) reply.Ok
    ∷ []

abbrev pub emptied : List Event
emptied = event 0 (Link (Ref 0 0) None) reply.Ok ∷ []

-- the pause scans what is due, or the second object too
abbrev pub due_scans : List Event
due_scans = event meeting (Scan 0) reply.Ok ∷ []

abbrev pub more_scans : List Event
more_scans = event meeting (Scan 0) reply.Ok ∷ event meeting (Scan 1) reply.Ok ∷ []

-- the history with these scans in the pause
abbrev pub parts_scanning : List Event → List Part
parts_scanning scans =
    record { during = linked; meet = event meeting (Start Never) reply.Ok ∷ [] }
    ∷ record { during = emptied; meet = scans ++ event meeting Finish reply.Ok ∷ [] }
    ∷ record { during = []; meet = [] }
    ∷ []

abbrev pub outcome : Outcome
outcome = record {
  phases =
      record { replies = (reply.Obj 0 ∷ reply.Obj 1 ∷ reply.Ok ∷ reply.Ok ∷ []) ∷ []; meet = report.Started None }
      ∷ record {
        replies = (reply.Ok ∷ []) ∷ [];
        meet = report.Swept (record { kept = 0; freed = 0; moved = 0; segs = 1; trusted = 0; tfreed = 0; compaction = NoArea });
      }
      ∷ record { replies = [] ∷ []; meet = report.Ended }
      ∷ [];
  live = 0;
  trusted = 0;
  objects = 2;
  sum = 0;
  puts = 0;
}
