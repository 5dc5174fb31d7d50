-- The script that a text spells, or the refusal of its first line that no script has there. A text is a list of lines,
-- each with an end of line and numbered from 1; the first line that is not skipped is the header, and the last one is
-- `end`.
use Rattle.std.specs.Prelude.{ℕ, zero, suc, ◌+◌, ◌==◌, if◌then◌else◌, Bool, true, false, List, [], ◌∷◌, ◌++◌, Option, Some, None, Result, Ok, Err}
use Rattle.std.specs.Option.{option_map_or}
use Rattle.plain_table.specs.declared.scripts.Limits.{Limits}
use Rattle.plain_table.specs.declared.scripts.Op.{Op}
use Rattle.plain_table.specs.declared.scripts.Meet.{Meet}
use Rattle.plain_table.specs.declared.scripts.Meet.TheVariants.{Start, Finish, End}
use Rattle.plain_table.specs.declared.scripts.Phase.{Phase}
use Rattle.plain_table.specs.declared.scripts.Script.{Script}
use Rattle.script_reader.specs.declared.refusals.ScriptErr.{ScriptErr}
use Rattle.script_reader.specs.declared.refusals.ScriptErr.TheVariants as refusal
use Rattle.script_reader.specs.declared.refusals.Fault.{Fault}
use Rattle.script_reader.specs.declared.refusals.Fault.TheVariants.{BadLine, BadTag, BadNumber, OutOfRange, BadMeet, TooMany}
use Rattle.script_reader.specs.declared.header.Header.{Header}
use Rattle.script_reader.specs.declared.lines.Call.{Call}
use Rattle.script_reader.specs.declared.lines.Line.{Line}
use Rattle.script_reader.specs.declared.lines.Line.TheVariants as line
use Rattle.script_reader.specs.declared.draft.Draft.{Draft}
use Rattle.script_reader.specs.Spelling.{pieces}
use Rattle.script_reader.specs.Lines.{is_skipped, line_of}
use Rattle.script_reader.specs.Header.{header_of}

-- a fault as the refusal of a line
abbrev pub refusal_at : ℕ → Fault → ScriptErr
refusal_at n BadLine = refusal.BadLine n
refusal_at n BadTag = refusal.BadTag n
refusal_at n BadNumber = refusal.BadNumber n
refusal_at n OutOfRange = refusal.OutOfRange n
refusal_at n BadMeet = refusal.BadMeet n
refusal_at n TooMany = refusal.TooMany n

abbrev pub is_empty : {A : Type 0} → List A → Bool
is_empty [] = true
is_empty (x ∷ xs) = false

-- the operations of one mutator, in the order of the lines
abbrev pub ops_of : ℕ → List Call → List Op
ops_of mutator [] = []
ops_of mutator (call ∷ calls) =
    if call.mutator == mutator then call.op ∷ ops_of mutator calls else ops_of mutator calls

-- one list for each mutator below a number
abbrev pub lists_of : ℕ → List Call → List (List Op)
lists_of zero calls = []
lists_of (suc mutator) calls = lists_of mutator calls ++ ops_of mutator calls ∷ []

-- a phase: the operations since the last meet, and the meet that ends it
abbrev pub phase_of : ℕ → List Call → Meet → Phase
phase_of mutators calls meet = record { calls = lists_of mutators calls; meet = meet }

-- whether a cycle is under way after a meet
abbrev pub cycle_after : Bool → Meet → Bool
cycle_after cycle (Start policy) = true
cycle_after cycle Finish = false
cycle_after cycle _ = cycle

-- what is read so far, after an operation and after a meet
abbrev pub with_call : Draft → Call → Draft
with_call d call = record d {
  calls = d.calls ++ call ∷ [];
  counts = record d.counts { operations = d.counts.operations + 1 };
}

abbrev pub with_meet : Draft → Meet → Draft
with_meet d meet = record d {
  phases = d.phases ++ phase_of d.counts.mutators d.calls meet ∷ [];
  calls = [];
  counts = record d.counts { meets = d.counts.meets + 1; in_cycle = cycle_after d.counts.in_cycle meet };
}

abbrev pub with_line : Draft → Line → Draft
with_line d (line.Operation call) = with_call d call
with_line d (line.Meeting meet) = with_meet d meet
with_line d line.Ending = d

-- the script that ends here
abbrev pub ended : Limits → Draft → Script
ended limits d = record {
  version = d.counts.version;
  limits = limits;
  phases = d.phases ++ phase_of d.counts.mutators d.calls End ∷ [];
}

-- the first line after `end` that is not skipped or lacks its end of line, where there is one; after the last end of
-- line nothing stands
abbrev pub bad_after : ℕ → List (List ℕ) → Option ℕ
bad_after n [] = Some n
bad_after n (piece ∷ rest) =
    if is_empty rest then (if is_empty piece then None else Some n)
    else (if is_skipped piece then bad_after (n + 1) rest else Some n)

-- `end`, and what follows it from line n on
abbrev pub end_at : Script → ℕ → List (List ℕ) → Result Script ScriptErr
end_at script n rest = option_map_or (λ bad. Err (refusal.BadLine bad)) (bad_after n rest) (Ok script)

-- what follows a line by what it says: its refusal, the end, or the lines after it
abbrev pub go_on : ℕ → Result Line Fault → Result Script ScriptErr → (Line → Result Script ScriptErr)
    → Result Script ScriptErr
go_on n (Err fault) at_end onward = Err (refusal_at n fault)
go_on n (Ok line.Ending) at_end onward = at_end
go_on n (Ok (line.Operation call)) at_end onward = onward (line.Operation call)
go_on n (Ok (line.Meeting meet)) at_end onward = onward (line.Meeting meet)

-- the lines from line n on; what follows the last end of line is no line, and refused
abbrev pub lines_from : Limits → Draft → ℕ → List (List ℕ) → Result Script ScriptErr
lines_from limits d n [] = Err (refusal.BadLine n)
lines_from limits d n (piece ∷ rest) =
    if is_empty rest then Err (refusal.BadLine n)
    else (if is_skipped piece then lines_from limits d (n + 1) rest
    else go_on n (line_of d.counts piece) (end_at (ended limits d) (n + 1) rest)
    (λ said. lines_from limits (with_line d said) (n + 1) rest))

-- nothing is read after the header, and no cycle is under way
abbrev pub opening : Header → Draft
opening h = record {
  phases = [];
  calls = [];
  counts = record { version = h.version; mutators = h.limits.mutators; in_cycle = false; operations = 0; meets = 0 };
}

-- the first line that is not skipped is the header
abbrev pub header_from : ℕ → List (List ℕ) → Result Script ScriptErr
header_from n [] = Err refusal.BadHeader
header_from n (piece ∷ rest) =
    if is_empty rest then Err refusal.BadHeader
    else (if is_skipped piece then header_from (n + 1) rest
    else option_map_or (λ h. lines_from h.limits (opening h) (n + 1) rest) (header_of piece) (Err refusal.BadHeader))

-- the script that a text spells, or its refusal
abbrev pub script_of : List ℕ → Result Script ScriptErr
script_of text = header_from 1 (pieces text)
