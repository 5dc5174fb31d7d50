-- Trusted entries: one mutator makes an entry, which a load can't see. At the next phase it publishes the entry, and then
-- a load answers its value.
use Rattle.std.specs.Prelude.{List, [], ◌∷◌, ◌++◌}
use Rattle.plain_table.specs.declared.scripts.Limits.{Limits}
use Rattle.plain_table.specs.declared.scripts.Op.TheVariants as op
use Rattle.plain_table.specs.declared.scripts.Meet.TheVariants as meet
use Rattle.plain_table.specs.declared.scripts.Script.{Script}
use Rattle.plain_table.specs.declared.events.Act.TheVariants.{New, Take, Put, Bind, Name, Look, Publish}
use Rattle.plain_table.specs.declared.events.Event.{Event}
use Rattle.plain_table.specs.declared.events.Space.TheVariants.{Trusted}
use Rattle.plain_table.specs.declared.events.Field.TheVariants as field
use Rattle.plain_table.specs.declared.reports.MeetReport.TheVariants as report
use Rattle.plain_table.specs.declared.reports.Outcome.{Outcome}
use Rattle.plain_table.specs.declared.reports.Reply.TheVariants as reply
use Rattle.plain_table.specs.Index.{word_of}
use Rattle.plain_table.specs.Shapes.{event}
use Rattle.plain_table.specs.Belongs.{Part}

abbrev pub limits : Limits
limits = record { seg = 4; ext = 1; tru = 1; objects = 1; mutators = 1; markers = 0 }

abbrev pub script : Script
script = record {
  version = 1;
  limits = limits;
  phases =
      record {
        calls = (op.New 0 ∷ op.TNew 0 0x0f 5 ∷ op.TLoad 0 0x0f 0x0f ∷ []) ∷ [];
        meet = meet.Plain;
      }
      ∷ record {
        calls = (op.TPub 0 ∷ op.TLoad 0 0x0f 0x0f ∷ []) ∷ [];
        meet = meet.End;
      }
      ∷ [];
}

-- the object is made, and its trusted field gets a new entry
abbrev pub made : List Event
made =
    event 0 (New 0) (reply.Obj 0)
    ∷ event 0 (Take Trusted) (reply.Index 1)
    ∷ event 0 (Put Trusted 1 0x0f 5) reply.Ok
    ∷ event 0 (Bind (field.Trusted 0) (word_of 1)) reply.Ok
    ∷ event 0 (Name (field.Trusted 0)) (reply.Word (word_of 1))
    ∷ event 0 (Look Trusted (word_of 1) 0x0f 0x0f) reply.Fault
    ∷ []

abbrev pub published : List Event
published =
    event 0 (Name (field.Trusted 0)) (reply.Word (word_of 1))
    ∷ event 0 (Publish 1) reply.Ok
    ∷ event 0 (Name (field.Trusted 0)) (reply.Word (word_of 1))
    ∷ event 0 (Look Trusted (word_of 1) 0x0f 0x0f) (reply.Value 5)
    ∷ []

-- the history, where more events follow in its second part
abbrev pub parts_with : List Event → List Part
parts_with more = record { during = made; meet = [] } ∷ record { during = published ++ more; meet = [] } ∷ []

abbrev pub parts : List Part
parts = parts_with []

-- one look more, for which the script has no call
abbrev pub one_look : List Event
one_look = event 0 (Look Trusted (word_of 1) 0x0f 0x0f) (reply.Value 5) ∷ []

abbrev pub outcome : Outcome
outcome = record {
  phases =
      record { replies = (reply.Obj 0 ∷ reply.Ok ∷ reply.Fault ∷ []) ∷ []; meet = report.Plain }
      ∷ record { replies = (reply.Ok ∷ reply.Value 5 ∷ []) ∷ []; meet = report.Ended }
      ∷ [];
  live = 0;
  trusted = 1;
  objects = 1;
  sum = 0;
  puts = 0;
}
