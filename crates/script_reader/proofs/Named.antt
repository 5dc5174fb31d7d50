-- No refusal of the grammar is want of memory.
use Rattle.std.proofs.Common.{◌≡◌, ℕ, ◌+◌, Bool, true, false, cond, List, [], ◌∷◌, Option, Some, None, Result, Ok, Err}
use Rattle.std.specs.Option.{option_map_or}
use Rattle.plain_table.specs.declared.scripts.Limits.{Limits}
use Rattle.plain_table.specs.declared.scripts.Script.{Script}
use Rattle.script_reader.specs.declared.refusals.ScriptErr.{ScriptErr}
use Rattle.script_reader.specs.declared.refusals.ScriptErr.TheVariants as refusal
use Rattle.script_reader.specs.declared.refusals.Fault.{Fault}
use Rattle.script_reader.specs.declared.refusals.Fault.TheVariants.{BadLine, BadTag, BadNumber, OutOfRange, BadMeet, TooMany}
use Rattle.script_reader.specs.declared.lines.Line.{Line}
use Rattle.script_reader.specs.declared.lines.Line.TheVariants as line
use Rattle.script_reader.specs.declared.draft.Draft.{Draft}
use Rattle.script_reader.specs.Spelling.{pieces}
use Rattle.script_reader.specs.Lines.{is_skipped, line_of}
use Rattle.script_reader.specs.Header.{header_of}
use Rattle.script_reader.specs.Grammar.{bad_after, end_at, ended, go_on, header_from, is_empty, lines_from, opening, refusal_at, script_of, with_line}

abbrev Named : Result Script ScriptErr → Type 0
Named r = r ≡ Err refusal.OutOfMemory → ⊥

line-named : (n : ℕ) → Named (Err (refusal.BadLine n))
line-named n h = cc

header-named : Named (Err refusal.BadHeader)
header-named h = cc

ok-named : (script : Script) → Named (Ok script)
ok-named script h = cc

refusal-named : (n : ℕ) (fault : Fault) → Named (Err (refusal_at n fault))
refusal-named n BadLine h = cc
refusal-named n BadTag h = cc
refusal-named n BadNumber h = cc
refusal-named n OutOfRange h = cc
refusal-named n BadMeet h = cc
refusal-named n TooMany h = cc

cond-named : (b : Bool) (x y : Result Script ScriptErr) → Named x → Named y → Named (cond b x y)
cond-named true x y p q = p
cond-named false x y p q = q

option_map_or-named : {A : Type 0} (f : A → Result Script ScriptErr) (o : Option A) (y : Result Script ScriptErr)
    → ((x : A) → Named (f x)) → Named y → Named (option_map_or f o y)
option_map_or-named f None y p q = q
option_map_or-named f (Some x) y p q = p x

end_at-named : (script : Script) (n : ℕ) (parts : List (List ℕ)) → Named (end_at script n parts)
end_at-named script n parts = option_map_or-named _ (bad_after n parts) _ line-named (ok-named script)

go_on-named : (n : ℕ) (said : Result Line Fault) (at_end : Result Script ScriptErr) (onward : Line → Result Script ScriptErr)
    → Named at_end → ((l : Line) → Named (onward l)) → Named (go_on n said at_end onward)
go_on-named n (Err fault) at_end onward p q = refusal-named n fault
go_on-named n (Ok line.Ending) at_end onward p q = p
go_on-named n (Ok (line.Operation call)) at_end onward p q = q (line.Operation call)
go_on-named n (Ok (line.Meeting meet)) at_end onward p q = q (line.Meeting meet)

lines_from-named : (limits : Limits) (d : Draft) (n : ℕ) (parts : List (List ℕ)) → Named (lines_from limits d n parts)
lines_from-named limits d n [] = line-named n
lines_from-named limits d n (piece ∷ rest) =
    cond-named (is_empty rest) _ _ (line-named n)
    (cond-named (is_skipped piece) _ _ (lines_from-named limits d (n + 1) rest)
    (go_on-named n (line_of d.counts piece) _ _ (end_at-named (ended limits d) (n + 1) rest)
    (λ said. lines_from-named limits (with_line d said) (n + 1) rest)))

header_from-named : (n : ℕ) (parts : List (List ℕ)) → Named (header_from n parts)
header_from-named n [] = header-named
header_from-named n (piece ∷ rest) =
    cond-named (is_empty rest) _ _ header-named
    (cond-named (is_skipped piece) _ _ (header_from-named (n + 1) rest)
    (option_map_or-named _ (header_of piece) _ (λ h. lines_from-named h.limits (opening h) (n + 1) rest)
    header-named))

pub script_of-named : (text : List ℕ) → script_of text ≡ Err refusal.OutOfMemory → ⊥
script_of-named text = header_from-named 1 (pieces text)
