-- Two compactions: one object has a cell below the evacuation area and one in it. At the first cycle no index below the
-- area is free, so the compaction is aborted, and two cells that nothing names are freed. At the second cycle the cell of
-- the area moves to the least of these indexes, and a load still answers its value.
use Rattle.std.specs.Prelude.{ℕ, List, [], ◌∷◌, ◌++◌, Some}
use Rattle.plain_table.specs.declared.scripts.Limits.{Limits}
use Rattle.plain_table.specs.declared.scripts.Op.TheVariants as op
use Rattle.plain_table.specs.declared.scripts.Meet.TheVariants as meet
use Rattle.plain_table.specs.declared.scripts.Policy.TheVariants.{Always}
use Rattle.plain_table.specs.declared.scripts.Script.{Script}
use Rattle.plain_table.specs.declared.events.Act.TheVariants.{New, Take, Below, Abort, Put, Bind, Name, Look, Mark, Evac, Scan, Start, Finish}
use Rattle.plain_table.specs.declared.events.Event.{Event}
use Rattle.plain_table.specs.declared.events.Space.TheVariants.{External}
use Rattle.plain_table.specs.declared.reports.Compaction.TheVariants.{Done, Aborted}
use Rattle.plain_table.specs.declared.reports.MeetReport.TheVariants as report
use Rattle.plain_table.specs.declared.reports.Outcome.{Outcome}
use Rattle.plain_table.specs.declared.reports.Reply.{Reply}
use Rattle.plain_table.specs.declared.reports.Reply.TheVariants as reply
use Rattle.plain_table.specs.Index.{word_of}
use Rattle.plain_table.specs.Shapes.{event, external_field}
use Rattle.plain_table.specs.Sweeps.{meeting}
use Rattle.plain_table.specs.Belongs.{Part}

abbrev pub limits : Limits
limits = record { seg = 4; ext = 2; tru = 1; objects = 1; mutators = 1; markers = 0 }

abbrev pub script : Script
script = record {
  version = 1;
  limits = limits;
  phases =
      record {
        calls = (op.New 0 ∷ op.Init 0 0 0x0f 5 ∷ op.Init 0 0 0x0f 6 ∷ op.Init 0 0 0x0f 7 ∷ op.Init 0 1 0x17 8 ∷ []) ∷ [];
        meet = meet.Start Always;
      }
      ∷ record { calls = [] ∷ []; meet = meet.Finish }
      ∷ record { calls = [] ∷ []; meet = meet.Start Always }
      ∷ record { calls = [] ∷ []; meet = meet.Finish }
      ∷ record { calls = (op.Load 0 1 0x17 0x17 ∷ []) ∷ []; meet = meet.End }
      ∷ [];
}

-- an init takes an index, puts a cell there and binds it to the field of object 0, which says so, or that it is taken
abbrev pub init : ℕ → ℕ → ℕ → ℕ → Reply → List Event
init f i tag value said =
    event 0 (Take External) (reply.Index i)
    ∷ event 0 (Put External i tag value) reply.Ok
    ∷ event 0 (Bind (external_field 0 f) (word_of i)) said
    ∷ []

abbrev pub filled : List Event
filled =
    event 0 (New 0) (reply.Obj 0)
    ∷ init 0 1 0x0f 5 reply.Ok
    ++ init 0 2 0x0f 6 (reply.Taken (word_of 1))
    ++ init 0 3 0x0f 7 (reply.Taken (word_of 1))
    ++ init 1 4 0x17 8 reply.Ok

abbrev pub started : List Event
started = event meeting (Start Always) reply.Ok ∷ []

-- the pause finds no free index below the area, which begins at 4
abbrev pub given_up : List Event
given_up =
    event meeting (Mark External 1) reply.Ok
    ∷ event meeting (Mark External 4) reply.Ok
    ∷ event meeting (Below 4) reply.NoRoom
    ∷ event meeting Abort reply.Ok
    ∷ event meeting (Scan 0) reply.Ok
    ∷ []

-- the pause gives field 1 an evacuation entry at index 2
abbrev pub evacuated : List Event
evacuated =
    event meeting (Mark External 1) reply.Ok
    ∷ event meeting (Mark External 4) reply.Ok
    ∷ event meeting (Below 4) (reply.Index 2)
    ∷ event meeting (Evac 2 1) reply.Ok
    ∷ event meeting (Scan 0) reply.Ok
    ∷ []

abbrev pub finish : Event
finish = event meeting Finish reply.Ok

abbrev pub loaded : List Event
loaded =
    event 0 (Name (external_field 0 1)) (reply.Word (word_of 2))
    ∷ event 0 (Look External (word_of 2) 0x17 0x17) (reply.Value 8)
    ∷ []

abbrev pub parts : List Part
parts =
    record { during = filled; meet = started }
    ∷ record { during = []; meet = given_up ++ finish ∷ [] }
    ∷ record { during = []; meet = started }
    ∷ record { during = []; meet = evacuated ++ finish ∷ [] }
    ∷ record { during = loaded; meet = [] }
    ∷ []

-- the outcome, where the second sweep says that so many cells were moved
abbrev pub outcome_moving : ℕ → Outcome
outcome_moving moved = record {
  phases =
      record {
        replies = (reply.Obj 0 ∷ reply.Ok ∷ reply.Taken (word_of 1) ∷ reply.Taken (word_of 1) ∷ reply.Ok ∷ []) ∷ [];
        meet = report.Started (Some 4);
      }
      ∷ record {
        replies = [] ∷ [];
        meet = report.Swept (record { kept = 2; freed = 2; moved = 0; segs = 2; trusted = 0; tfreed = 0; compaction = Aborted });
      }
      ∷ record { replies = [] ∷ []; meet = report.Started (Some 4) }
      ∷ record {
        replies = [] ∷ [];
        meet = report.Swept (record { kept = 2; freed = 0; moved = moved; segs = 1; trusted = 0; tfreed = 0; compaction = Done });
      }
      ∷ record { replies = (reply.Value 8 ∷ []) ∷ []; meet = report.Ended }
      ∷ [];
  live = 2;
  trusted = 0;
  objects = 1;
  sum = 13;
  puts = 4;
}
