-- What it is for a script to be valid, so that a text can spell it.
use Rattle.std.specs.Prelude.{◌≡◌, ◌⊎◌, ℕ, ◌+◌, ◌/◌, ◌^◌, ◌<◌, ◌≤◌, Bool, true, false, List, [], ◌∷◌, ◌++◌, length, Option, Some, None, IfSome}
use Rattle.std.specs.Option.{option_and_then}
use Rattle.std.specs.List.{All}
use Rattle.plain_table.specs.declared.scripts.Limits.{Limits}
use Rattle.plain_table.specs.declared.scripts.Op.{Op}
use Rattle.plain_table.specs.declared.scripts.Op.TheVariants as op
use Rattle.plain_table.specs.declared.scripts.Meet.{Meet}
use Rattle.plain_table.specs.declared.scripts.Meet.TheVariants.{Plain, Start, Finish, End}
use Rattle.plain_table.specs.declared.scripts.Phase.{Phase}
use Rattle.plain_table.specs.declared.scripts.Script.{Script}
use Rattle.tag_set.specs.Tag.{IsTag, IsOldTag}
use Rattle.tag_set.specs.Range.{IsRange}
use Rattle.script_reader.specs.Lines.{most_operations, most_meets}

-- there are two versions
abbrev pub IsVersion : ℕ → Type 0
IsVersion version = (version ≡ 1) ⊎ (version ≡ 2)

-- limits in their ranges
pub record IsValidLimits (limits : Limits) : Type 0 where
  pub seg : (limits.seg ≡ 4) ⊎ (limits.seg ≡ 16) ⊎ (limits.seg ≡ 64) ⊎ (limits.seg ≡ 256)
  pub ext : (1 ≤ limits.ext) × (limits.ext ≤ 65536 / limits.seg)
  pub tru : (1 ≤ limits.tru) × (limits.tru ≤ 65536 / limits.seg)
  pub objects : (1 ≤ limits.objects) × (limits.objects ≤ 16384)
  pub mutators : (1 ≤ limits.mutators) × (limits.mutators ≤ 8)
  pub markers : limits.markers ≤ 4

-- the parts of operations
abbrev pub IsVariable : ℕ → Type 0
IsVariable v = v < 16

abbrev pub IsTarget : Option ℕ → Type 0
IsTarget target = IfSome target IsVariable

abbrev pub IsValue : ℕ → Type 0
IsValue x = x < 2 ^ 48

abbrev pub IsWord : ℕ → Type 0
IsWord w = w < 2 ^ 32

-- a tag of a version: in version 2 any tag, and in version 1 an old one
abbrev pub IsTagOf : ℕ → ℕ → Type 0
IsTagOf version tag = IsTag tag × ((version ≡ 2) ⊎ IsOldTag tag)

-- a range of tags of a version: in version 2 any range, and in version 1 that of one old tag
abbrev pub IsRangeOf : ℕ → ℕ → ℕ → Type 0
IsRangeOf version first last = IsRange first last × ((version ≡ 2) ⊎ (IsOldTag first × (first ≡ last)))

-- one row an operation
abbrev pub IsValidOp : ℕ → Op → Type 0
IsValidOp version (op.New v) = IsVariable v
IsValidOp version (op.Drop v) = IsVariable v
IsValidOp version (op.Link v k t) = IsVariable v × (k < 4) × IsTarget t
IsValidOp version (op.Fetch u v k) = IsVariable u × IsVariable v × (k < 4)
IsValidOp version (op.SetG g t) = (g < 16) × IsTarget t
IsValidOp version (op.GetG v g) = IsVariable v × (g < 16)
IsValidOp version (op.Init v f t x) = IsVariable v × (f < 2) × IsTagOf version t × IsValue x
IsValidOp version (op.Load v f first last) = IsVariable v × (f < 2) × IsRangeOf version first last
IsValidOp version (op.Store v f first last x) = IsVariable v × (f < 2) × IsRangeOf version first last × IsValue x
IsValidOp version (op.Swap v f first last x) = IsVariable v × (f < 2) × IsRangeOf version first last × IsValue x
IsValidOp version (op.Name v f) = IsVariable v × (f < 2)
IsValidOp version (op.Forge v f w) = IsVariable v × (f < 2) × IsWord w
IsValidOp version (op.Raw w first last) = IsWord w × IsRangeOf version first last
IsValidOp version (op.RawSet w first last x) = IsWord w × IsRangeOf version first last × IsValue x
IsValidOp version (op.TNew v t x) = IsVariable v × IsTagOf version t × IsValue x
IsValidOp version (op.TPub v) = IsVariable v
IsValidOp version (op.TLoad v first last) = IsVariable v × IsRangeOf version first last
IsValidOp version (op.TRaw w first last) = IsWord w × IsRangeOf version first last
IsValidOp version (op.Share v u) = IsVariable v × IsVariable u

-- a phase has one list of valid operations for each mutator
pub record IsValidPhase (version mutators : ℕ) (phase : Phase) : Type 0 where
  pub lists : length phase.calls ≡ mutators
  pub each : All (All (IsValidOp version)) phase.calls

-- whether a cycle is under way after a meet that may stand there; the end is no meet between phases
abbrev pub meet_after : Bool → Meet → Option Bool
meet_after cycle Plain = Some cycle
meet_after false (Start policy) = Some true
meet_after true Finish = Some false
meet_after _ _ = None

-- the same after the meets of some phases
abbrev pub meets_after : Bool → List Phase → Option Bool
meets_after cycle [] = Some cycle
meets_after cycle (phase ∷ phases) =
    option_and_then (λ next. meets_after next phases) (meet_after cycle phase.meet)

-- how many operations there are in some lists, and in some phases
abbrev pub lists_length : List (List Op) → ℕ
lists_length [] = 0
lists_length (ops ∷ lists) = length ops + lists_length lists

abbrev pub operations_of : List Phase → ℕ
operations_of [] = 0
operations_of (phase ∷ phases) = lists_length phase.calls + operations_of phases

-- a valid script: its last phase, and no other, ends the script; the cycles before it are started and finished in turn
pub record IsValidScript (script : Script) : Type 0 where
  pub version : IsVersion script.version
  pub limits : IsValidLimits script.limits
  pub each : All (IsValidPhase script.version script.limits.mutators) script.phases
  pub phases : List Phase
  pub last : Phase
  pub split : script.phases ≡ phases ++ last ∷ []
  pub ends : last.meet ≡ End
  pub cycles : meets_after false phases ≡ Some false
  pub meets : length phases ≤ most_meets
  pub operations : operations_of script.phases ≤ most_operations
