-- What holds of the parts of a valid script while it is read.
use Rattle.std.specs.Prelude.{◌≡◌, ℕ, ◌+◌, ◌<◌, ◌≤◌, false, Some, length}
use Rattle.std.specs.List.{All}
use Rattle.plain_table.specs.declared.scripts.Limits.{Limits}
use Rattle.script_reader.specs.declared.forms.Said.{Said}
use Rattle.script_reader.specs.declared.header.Header.{Header}
use Rattle.script_reader.specs.declared.lines.Call.{Call}
use Rattle.script_reader.specs.declared.lines.Counts.{Counts}
use Rattle.script_reader.specs.declared.lines.Line.{Line}
use Rattle.script_reader.specs.declared.lines.Line.TheVariants as line
use Rattle.script_reader.specs.declared.draft.Draft.{Draft}
use Rattle.script_reader.specs.Lines.{most_operations, most_meets}
use Rattle.script_reader.specs.Grammar.{cycle_after}
use Rattle.script_reader.specs.Valid.{IsVersion, IsValidLimits, IsVariable, IsTarget, IsTagOf, IsRangeOf, IsValue, IsWord, IsValidOp, IsValidPhase, meet_after, meets_after, operations_of}

-- a version, and limits in their ranges
pub record IsValidHeader (header : Header) : Type 0 where
  pub version : IsVersion header.version
  pub limits : IsValidLimits header.limits

-- what places of a script of this version may say
pub record IsSaid (version : ℕ) (s : Said) : Type 0 where
  pub variable : IsVariable s.variable
  pub other : IsVariable s.other
  pub target : IsTarget s.target
  pub reference : s.reference < 4
  pub field : s.field < 2
  pub global : s.global < 16
  pub tagged : IsTagOf version s.tag
  pub asked : IsRangeOf version s.first s.last
  pub word : IsWord s.word
  pub value : IsValue s.value

-- a valid operation of a mutator below a number
pub record IsCall (version mutators : ℕ) (call : Call) : Type 0 where
  pub mutator : call.mutator < mutators
  pub op : IsValidOp version call.op

-- a line that may stand there
abbrev pub IsLine : Counts → Line → Type 0
IsLine c (line.Operation call) = IsCall c.version c.mutators call × (c.operations < most_operations)
IsLine c (line.Meeting meet) =
    (meet_after c.in_cycle meet ≡ Some (cycle_after c.in_cycle meet)) × (c.meets < most_meets)
IsLine c line.Ending = c.in_cycle ≡ false

-- what is read so far of a script with these limits, and its counts
pub record IsDraft (limits : Limits) (d : Draft) : Type 0 where
  pub version : IsVersion d.counts.version
  pub mutators : d.counts.mutators ≡ limits.mutators
  pub each : All (IsValidPhase d.counts.version limits.mutators) d.phases
  pub calls : All (IsCall d.counts.version limits.mutators) d.calls
  pub cycles : meets_after false d.phases ≡ Some d.counts.in_cycle
  pub counted : length d.phases ≡ d.counts.meets
  pub meets : d.counts.meets ≤ most_meets
  pub held : operations_of d.phases + length d.calls ≤ d.counts.operations
  pub operations : d.counts.operations ≤ most_operations
