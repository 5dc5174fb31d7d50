-- A marker concurrently with a mutator: while the marker scans the one object of the start, the mutator makes a second
-- object with a cell, and links it. Both cells are kept, and a load after the finish still answers its value.
use Rattle.std.specs.Prelude.{List, [], ◌∷◌, Some, None}
use Rattle.plain_table.specs.declared.scripts.Limits.{Limits}
use Rattle.plain_table.specs.declared.scripts.Op.TheVariants as op
use Rattle.plain_table.specs.declared.scripts.Meet.TheVariants as meet
use Rattle.plain_table.specs.declared.scripts.Policy.TheVariants.{Never}
use Rattle.plain_table.specs.declared.scripts.Script.{Script}
use Rattle.plain_table.specs.declared.events.Act.TheVariants.{New, Link, Take, Put, Bind, Name, Look, Mark, Scan, Start, Finish}
use Rattle.plain_table.specs.declared.events.Event.{Event}
use Rattle.plain_table.specs.declared.events.Space.TheVariants.{External}
use Rattle.plain_table.specs.declared.events.Spot.TheVariants.{Ref}
use Rattle.plain_table.specs.declared.reports.Compaction.TheVariants.{NoArea}
use Rattle.plain_table.specs.declared.reports.MeetReport.TheVariants as report
use Rattle.plain_table.specs.declared.reports.Outcome.{Outcome}
use Rattle.plain_table.specs.declared.reports.Reply.TheVariants as reply
use Rattle.plain_table.specs.Index.{word_of}
use Rattle.plain_table.specs.Shapes.{event, external_field}
use Rattle.plain_table.specs.Sweeps.{meeting}
use Rattle.plain_table.specs.Belongs.{Part}

abbrev pub limits : Limits
limits = record { seg = 4; ext = 1; tru = 1; objects = 2; mutators = 1; markers = 1 }

abbrev pub script : Script
script = record {
  version = 1;
  limits = limits;
  phases =
      record {
        calls = (op.New 0 ∷ op.Init 0 0 0x0f 5 ∷ []) ∷ [];
        meet = meet.Start Never;
      }
      ∷ record {
        calls = (op.New 1 ∷ op.Init 1 0 0x17 6 ∷ op.Link 0 0 (Some 1) ∷ []) ∷ [];
        meet = meet.Finish;
      }
      ∷ record {
        calls = (op.Load 0 0 0x0f 0x0f ∷ []) ∷ [];
        meet = meet.End;
      }
      ∷ [];
}

abbrev pub before : List Event
before =
    event 0 (New 0) (reply.Obj 0)
    ∷ event 0 (Take External) (reply.Index 1)
    ∷ event 0 (Put External 1 0x0f 5) reply.Ok
    ∷ event 0 (Bind (external_field 0 0) (word_of 1)) reply.Ok
    ∷ []

-- the marker has the number 8
abbrev pub concurrent : List Event
concurrent =
    event 0 (New 1) (reply.Obj 1)
    ∷ event 8 (Mark External 1) reply.Ok
    ∷ event 0 (Take External) (reply.Index 2)
    ∷ event 0 (Put External 2 0x17 6) reply.Ok
    ∷ event 8 (Scan 0) reply.Ok
    ∷ event 0 (Bind (external_field 1 0) (word_of 2)) reply.Ok
    ∷ event 0 (Link (Ref 0 0) (Some 1)) reply.Ok
    ∷ []

abbrev pub loaded : List Event
loaded =
    event 0 (Name (external_field 0 0)) (reply.Word (word_of 1))
    ∷ event 0 (Look External (word_of 1) 0x0f 0x0f) (reply.Value 5)
    ∷ []

abbrev pub parts : List Part
parts =
    record { during = before; meet = event meeting (Start Never) reply.Ok ∷ [] }
    ∷ record { during = concurrent; meet = event meeting Finish reply.Ok ∷ [] }
    ∷ record { during = loaded; meet = [] }
    ∷ []

abbrev pub outcome : Outcome
outcome = record {
  phases =
      record { replies = (reply.Obj 0 ∷ reply.Ok ∷ []) ∷ []; meet = report.Started None }
      ∷ record {
        replies = (reply.Obj 1 ∷ reply.Ok ∷ reply.Ok ∷ []) ∷ [];
        meet = report.Swept (record { kept = 2; freed = 0; moved = 0; segs = 1; trusted = 0; tfreed = 0; compaction = NoArea });
      }
      ∷ record { replies = (reply.Value 5 ∷ []) ∷ []; meet = report.Ended }
      ∷ [];
  live = 2;
  trusted = 0;
  objects = 2;
  sum = 11;
  puts = 2;
}
