-- What a line says after the header, given what stands before it: an operation of a mutator, a meet or the end; or
-- the first of its faults, in the order in which they are tested.
use Rattle.std.specs.Prelude.{ℕ, ◌==◌, nat_lt, if◌then◌else◌, Bool, true, not, List, [], ◌∷◌, codes, Option, Some, None, Result, Ok, Err}
use Rattle.std.specs.Option.{option_map_or}
use Rattle.std.specs.Str.{bytes_eq}
use Rattle.plain_table.specs.declared.scripts.Meet.{Meet}
use Rattle.plain_table.specs.declared.scripts.Meet.TheVariants.{Plain, Start, Finish}
use Rattle.plain_table.specs.declared.scripts.Policy.{Policy}
use Rattle.plain_table.specs.declared.scripts.Policy.TheVariants.{Auto, Always, Never}
use Rattle.script_reader.specs.declared.refusals.Fault.{Fault}
use Rattle.script_reader.specs.declared.refusals.Fault.TheVariants.{BadLine, BadMeet, TooMany}
use Rattle.script_reader.specs.declared.forms.Form.{Form}
use Rattle.script_reader.specs.declared.forms.Said.{Said}
use Rattle.script_reader.specs.declared.lines.Counts.{Counts}
use Rattle.script_reader.specs.declared.lines.Line.{Line}
use Rattle.script_reader.specs.declared.lines.Line.TheVariants as line
use Rattle.script_reader.specs.Spelling.{words}
use Rattle.script_reader.specs.Forms.{form_of, places_of, op_of, read_mutator, read_on, read_places, nothing_said}

-- the most operations and the most meets of a script
abbrev pub most_operations : ℕ
most_operations = 200000

abbrev pub most_meets : ℕ
most_meets = 1000

-- an empty line and a comment are skipped
abbrev pub is_skipped : List ℕ → Bool
is_skipped [] = true
is_skipped (first ∷ more) = first == 35

-- one operation more, where its places are right
abbrev pub call_line : Counts → Form → Result Said Fault → Result Line Fault
call_line c form (Err fault) = Err fault
call_line c form (Ok s) =
    if nat_lt c.operations most_operations
    then Ok (line.Operation (record { mutator = s.mutator; op = op_of form s }))
    else Err TooMany

-- the mutator's number and the places of a form are read in one
abbrev pub form_line : Counts → List ℕ → List (List ℕ) → Form → Result Line Fault
form_line c mutator places form =
    call_line c form (read_on (read_mutator c.mutators mutator nothing_said) nothing_said
    (read_places c.version (places_of form) places))

-- `m` and the mutator's number, the name of a form, and its places
abbrev pub operation_line : Counts → List ℕ → List (List ℕ) → Result Line Fault
operation_line c mutator [] = Err BadLine
operation_line c mutator (name ∷ places) = option_map_or (form_line c mutator places) (form_of name) (Err BadLine)

-- a line of one word
abbrev pub alone : List (List ℕ) → Result Line Fault → Result Line Fault
alone [] said = said
alone _ said = Err BadLine

-- a meet more, where it may stand
abbrev pub meet_line : Counts → Bool → Meet → Result Line Fault
meet_line c proper meet =
    if proper then (if nat_lt c.meets most_meets then Ok (line.Meeting meet) else Err TooMany) else Err BadMeet

-- the policies
abbrev pub policy_of : List ℕ → Option Policy
policy_of word =
    if bytes_eq word (codes "auto") then Some Auto
    else (if bytes_eq word (codes "always") then Some Always
    else (if bytes_eq word (codes "never") then Some Never
    else None))

-- `start` and a policy, outside a cycle
abbrev pub start_line : Counts → List (List ℕ) → Result Line Fault
start_line c (policy ∷ []) =
    option_map_or (λ p. meet_line c (not c.in_cycle) (Start p)) (policy_of policy) (Err BadLine)
start_line c _ = Err BadLine

-- `end`, outside a cycle; it is no counted meet
abbrev pub end_line : Counts → Result Line Fault
end_line c = if c.in_cycle then Err BadMeet else Ok line.Ending

-- an operation's first word is `m` with at least one more byte
abbrev pub mutator_line : Counts → List ℕ → List (List ℕ) → Result Line Fault
mutator_line c (letter ∷ digit ∷ digits) more =
    if letter == 109 then operation_line c (digit ∷ digits) more else Err BadLine
mutator_line c _ more = Err BadLine

-- the lines by their first word
abbrev pub line_of_words : Counts → List (List ℕ) → Result Line Fault
line_of_words c [] = Err BadLine
line_of_words c (first ∷ more) =
    if bytes_eq first (codes "meet") then alone more (meet_line c true Plain)
    else (if bytes_eq first (codes "start") then start_line c more
    else (if bytes_eq first (codes "finish") then alone more (meet_line c c.in_cycle Finish)
    else (if bytes_eq first (codes "end") then alone more (end_line c)
    else mutator_line c first more)))

-- what a line says, or its fault
abbrev pub line_of : Counts → List ℕ → Result Line Fault
line_of c text = line_of_words c (words text)
