-- What the top call answers and writes: the words that it knows, the exit status of each answer, the text of an answer to the
-- bytes of a script, and the line that sums up the run of a generated one.
use Rattle.std.specs.Prelude.{◌≡◌, ℕ, ◌<◌, ◌≤◌, if◌then◌else◌, List, [], ◌∷◌, length, take, codes, Option, Some, None, Ok, Err}
use Rattle.std.specs.Option.{option_map}
use Rattle.std.specs.Str.{bytes_eq}
use Rattle.plain_table.specs.declared.scripts.Script.{Script}
use Rattle.plain_table.specs.declared.reports.Outcome.{Outcome}
use Rattle.plain_table.specs.Belongs.{Belongs, Part}
use Rattle.ept_io.specs.Bytes.{Took}
use Rattle.script_reader.specs.Grammar.{script_of}
use Rattle.script_reader.specs.Canonical.{canonical_of}
use Rattle.script_reader.specs.Law.{upgraded}
use Rattle.script_generator.specs.Generated.{generated}
use Rattle.script_generator.specs.Seed.{seed_of}
use Rattle.report_text.specs.Report.{report_of, fault_text_of, soak_line_of}
use Rattle.table_run.specs.declared.answers.Asked.{Asked}
use Rattle.table_run.specs.declared.answers.Asked.TheVariants.{Run, Check, Upgrade}
use Rattle.table_run.specs.declared.answers.Form.{Form}
use Rattle.table_run.specs.declared.answers.Form.TheVariants.{OfScript, Soak}
use Rattle.table_run.specs.declared.answers.Status.{Status}
use Rattle.table_run.specs.declared.answers.Status.TheVariants as status

-- the most bytes of a script
abbrev pub most_bytes : ℕ
most_bytes = 4194304

-- what a word alone asks of a script: `run`, `check` or `upgrade`
abbrev pub asked_by : List ℕ → Option Asked
asked_by word =
    if bytes_eq word (codes "run") then Some Run else (if bytes_eq word (codes "check") then Some Check
    else (if bytes_eq word (codes "upgrade") then Some Upgrade else None))

-- the form of the words after the program's name: one of those alone, or `soak` and the word of a seed
abbrev pub form_of : List (List ℕ) → Option Form
form_of (word ∷ []) = option_map OfScript (asked_by word)
form_of (word ∷ number ∷ []) = if bytes_eq word (codes "soak") then option_map Soak (seed_of number) else None
form_of _ = None

abbrev pub code_of : Status → ℕ
code_of status.Ok = 0
code_of status.Usage = 2
code_of (status.Refused refusal) = 3
code_of status.ReadFault = 4
code_of status.WriteFault = 5
code_of status.OutOfMemory = 6
code_of status.TooLong = 7

-- the text is the report of an outcome that belongs to the script by some history
pub record IsReportOf (script : Script) (text : List ℕ) : Type 0 where
  pub history : List Part
  pub outcome : Outcome
  pub belongs : Belongs script history outcome
  pub report : text ≡ report_of outcome

-- the text that is asked of a script: the report of its run, its canonical text, or that of the script in version 2
abbrev pub IsAskedText : Asked → Script → List ℕ → Type 0
IsAskedText Run script text = IsReportOf script text
IsAskedText Check script text = text ≡ canonical_of script
IsAskedText Upgrade script text = text ≡ canonical_of (upgraded script)

-- the text that an answer to the bytes of a script stands for; the other answers have none
abbrev pub IsTextOf : Asked → List ℕ → Status → List ℕ → Type 0
IsTextOf asked bytes status.Ok text = (script : Script) × (script_of bytes ≡ Ok script) × IsAskedText asked script text
IsTextOf asked bytes (status.Refused refusal) text = (script_of bytes ≡ Err refusal) × (text ≡ fault_text_of refusal)
IsTextOf asked bytes _ text = ⊥

-- the text of each answer to the bytes has at most so many bytes
abbrev pub EachTextFits : Asked → List ℕ → ℕ → Type 0
EachTextFits asked bytes room = (answer : Status) (text : List ℕ) → IsTextOf asked bytes answer text → length text ≤ room

-- the whole text of this answer was written after what was written before
abbrev pub WroteAll : Asked → List ℕ → Status → Option (List ℕ) → Option (List ℕ) → Type 0
WroteAll asked bytes answer old new = (text : List ℕ) × IsTextOf asked bytes answer text × Took old text new

-- a front part of the text of some answer was written, and not the whole
abbrev pub WrotePart : Asked → List ℕ → Option (List ℕ) → Option (List ℕ) → Type 0
WrotePart asked bytes old new =
    (answer : Status) × (text : List ℕ) × (n : ℕ) × IsTextOf asked bytes answer text × (n < length text)
    × Took old (take n text) new

-- an answer with which nothing is written
abbrev pub IsSilent : Status → Type 0
IsSilent status.Usage = Unit {0}
IsSilent status.ReadFault = Unit {0}
IsSilent status.OutOfMemory = Unit {0}
IsSilent status.TooLong = Unit {0}
IsSilent _ = ⊥

-- the line sums up an outcome that belongs to the script of this seed by some history
pub record IsLineOf (seed : ℕ) (line : List ℕ) : Type 0 where
  pub history : List Part
  pub outcome : Outcome
  pub belongs : Belongs (generated seed) history outcome
  pub sums_up : line ≡ soak_line_of outcome

-- each line for this seed has at most so many bytes
abbrev pub EachLineFits : ℕ → ℕ → Type 0
EachLineFits seed room = (line : List ℕ) → IsLineOf seed line → length line ≤ room

-- a whole line for this seed was written after what was written before
abbrev pub WroteLine : ℕ → Option (List ℕ) → Option (List ℕ) → Type 0
WroteLine seed old new = (line : List ℕ) × IsLineOf seed line × Took old line new

-- a front part of such a line was written, and not the whole
abbrev pub WrotePartOfLine : ℕ → Option (List ℕ) → Option (List ℕ) → Type 0
WrotePartOfLine seed old new = (line : List ℕ) × (n : ℕ) × IsLineOf seed line × (n < length line) × Took old (take n line) new
