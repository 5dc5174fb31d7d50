-- The report of a run, as it is printed: each reply on a line of its own after the mutator's number, and the line of
-- each meet; and the text of a refused script.
use Rattle.std.specs.Prelude.{ℕ, ◌+◌, ◌-◌, List, [], ◌∷◌, ◌++◌, Option, Some, None, codes}
use Rattle.std.specs.List.{concat, flat_map}
use Rattle.std.specs.Fmt.{decimal}
use Rattle.script_reader.specs.Canonical.{hex}
use Rattle.plain_table.specs.declared.reports.Reply.{Reply}
use Rattle.plain_table.specs.declared.reports.Reply.TheVariants as reply
use Rattle.plain_table.specs.declared.reports.Compaction.{Compaction}
use Rattle.plain_table.specs.declared.reports.Compaction.TheVariants.{NoArea, Done, Aborted}
use Rattle.plain_table.specs.declared.reports.SweepReport.{SweepReport}
use Rattle.plain_table.specs.declared.reports.MeetReport.{MeetReport}
use Rattle.plain_table.specs.declared.reports.MeetReport.TheVariants.{Plain, Started, Swept, Ended}
use Rattle.plain_table.specs.declared.reports.PhaseReport.{PhaseReport}
use Rattle.plain_table.specs.declared.reports.Outcome.{Outcome}
use Rattle.script_reader.specs.declared.refusals.ScriptErr.{ScriptErr}
use Rattle.script_reader.specs.declared.refusals.ScriptErr.TheVariants.{BadHeader, BadLine, BadTag, BadNumber, OutOfRange, BadMeet, TooMany, OutOfMemory}

-- a reply; those of events alone are never printed
abbrev pub reply_text : Reply → List ℕ
reply_text reply.Ok = codes "ok"
reply_text (reply.Obj n) = codes "obj " ++ decimal n
reply_text reply.HeapFull = codes "heapfull"
reply_text reply.Nothing = codes "nothing"
reply_text reply.Empty = codes "empty"
reply_text (reply.Value v) = codes "value " ++ hex 12 v
reply_text reply.Null = codes "null"
reply_text reply.Fault = codes "fault"
reply_text (reply.Word w) = codes "word " ++ hex 8 w
reply_text (reply.Taken w) = codes "taken " ++ hex 8 w
reply_text reply.Full = codes "full"
reply_text reply.Pending = codes "pending"
reply_text reply.NotYours = codes "notyours"
reply_text (reply.Index i) = []
reply_text reply.NoRoom = []

-- the line of a reply of mutator m
abbrev pub reply_line : ℕ → Reply → List ℕ
reply_line m said = concat (codes "m" ∷ decimal m ∷ codes " " ∷ reply_text said ∷ codes "\n" ∷ [])

-- the replies of mutator m, a line each
abbrev pub replies_text : ℕ → List Reply → List ℕ
replies_text m replies = flat_map (reply_line m) replies

-- those of mutator m, of the next one and so on
abbrev pub mutators_text : ℕ → List (List Reply) → List ℕ
mutators_text m [] = []
mutators_text m (replies ∷ more) = replies_text m replies ++ mutators_text (m + 1) more

abbrev pub compaction_text : Compaction → List ℕ
compaction_text NoArea = codes "none"
compaction_text Done = codes "done"
compaction_text Aborted = codes "aborted"

-- the line of a start, with the first index of the evacuation area, where there is one
abbrev pub start_text : Option ℕ → List ℕ
start_text None = codes "start area=none\n"
start_text (Some first) = concat (codes "start area=" ∷ decimal first ∷ codes "\n" ∷ [])

-- the line of a sweep
abbrev pub sweep_text : SweepReport → List ℕ
sweep_text r =
    concat (codes "finish kept=" ∷ decimal r.kept ∷ codes " freed=" ∷ decimal r.freed
    ∷ codes " moved=" ∷ decimal r.moved ∷ codes " segs=" ∷ decimal r.segs ∷ codes " trusted=" ∷ decimal r.trusted
    ∷ codes " tfreed=" ∷ decimal r.tfreed ∷ codes " compaction=" ∷ compaction_text r.compaction ∷ codes "\n" ∷ [])

-- the line of a meet
abbrev pub meet_text : Outcome → MeetReport → List ℕ
meet_text outcome Plain = codes "meet\n"
meet_text outcome (Started area) = start_text area
meet_text outcome (Swept report) = sweep_text report
meet_text outcome Ended =
    concat (codes "end live=" ∷ decimal outcome.live ∷ codes " trusted=" ∷ decimal outcome.trusted
    ∷ codes " objects=" ∷ decimal outcome.objects ∷ codes "\n" ∷ [])

-- the lines of a phase: those of its replies, and that of its meet
abbrev pub phase_text : Outcome → PhaseReport → List ℕ
phase_text outcome phase = mutators_text 0 phase.replies ++ meet_text outcome phase.meet

-- the lines of all phases
abbrev pub report_of : Outcome → List ℕ
report_of outcome = flat_map (phase_text outcome) outcome.phases

-- the text of a refusal at a line
abbrev pub refusal_text : ℕ → List ℕ → List ℕ
refusal_text line fault = concat (codes "line " ∷ decimal line ∷ fault ∷ [])

-- the text of a refused script; want of memory has none
abbrev pub fault_text_of : ScriptErr → List ℕ
fault_text_of BadHeader = codes "refused: bad header\n"
fault_text_of (BadLine line) = refusal_text line (codes ": bad line\n")
fault_text_of (BadTag line) = refusal_text line (codes ": bad tag\n")
fault_text_of (BadNumber line) = refusal_text line (codes ": bad number\n")
fault_text_of (OutOfRange line) = refusal_text line (codes ": out of range\n")
fault_text_of (BadMeet line) = refusal_text line (codes ": bad meet\n")
fault_text_of (TooMany line) = refusal_text line (codes ": too many\n")
fault_text_of OutOfMemory = []

-- the one line that sums an outcome up: the external cells at the end, the sum of their values, and how many more were
-- put than are left
abbrev pub soak_line_of : Outcome → List ℕ
soak_line_of outcome =
    concat (codes "soak live=" ∷ decimal outcome.live ∷ codes " sum=" ∷ hex 12 outcome.sum
    ∷ codes " gone=" ∷ decimal (outcome.puts - outcome.live) ∷ codes "\n" ∷ [])
