-- The generated script of a seed: six rounds in which each of eight mutators makes 200 objects, each round in a cycle of
-- its own, and then two cycles that find the variables empty.
use Rattle.std.specs.Prelude.{ℕ, zero, suc, ◌+◌, ◌*◌, ◌%◌, ◌^◌, ◌==◌, if◌then◌else◌, List, [], ◌∷◌, ◌++◌, Some, map, filter, count_ones, slice_index}
use Rattle.std.specs.List.{flat_map}
use Rattle.plain_table.specs.declared.scripts.Limits.{Limits}
use Rattle.plain_table.specs.declared.scripts.Op.{Op}
use Rattle.plain_table.specs.declared.scripts.Op.TheVariants as op
use Rattle.plain_table.specs.declared.scripts.Meet.{Meet}
use Rattle.plain_table.specs.declared.scripts.Meet.TheVariants.{Start, Finish, End}
use Rattle.plain_table.specs.declared.scripts.Policy.TheVariants.{Auto}
use Rattle.plain_table.specs.declared.scripts.Phase.{Phase}
use Rattle.plain_table.specs.declared.scripts.Script.{Script}

-- the first numbers, from 0 on (unfolded only where they are counted)
unfoldable pub first_numbers : ℕ → List ℕ
first_numbers zero = []
first_numbers (suc n) = first_numbers n ++ n ∷ []

-- the tags of version 1, ascending
unfoldable pub old_tags : List ℕ
old_tags = filter (λ byte. count_ones byte == 4) (first_numbers 256)

abbrev pub limits : Limits
limits = record { seg = 16; ext = 4096; tru = 1; objects = 10000; mutators = 8; markers = 4 }

-- an object in variable a, with a cell whose tag and value are those of the number n
abbrev pub object_lines : ℕ → ℕ → List Op
object_lines seed n = op.New 0 ∷ op.Init 0 0 (slice_index old_tags (n % 70)) ((seed + n) % 2 ^ 48) ∷ []

-- the object becomes the first of those that the mutator's global holds
abbrev pub holding_lines : ℕ → List Op
holding_lines mutator = op.GetG 1 mutator ∷ op.Link 0 0 (Some 1) ∷ op.SetG mutator (Some 0) ∷ []

-- the lines of a mutator for one object of a round, of which each eighth is held
abbrev pub lines_at : ℕ → ℕ → ℕ → ℕ → List Op
lines_at seed round mutator i =
    object_lines seed (1200 * mutator + 200 * round + i) ++ (if i % 8 == 0 then holding_lines mutator else [])

-- the lines of a mutator in a round
abbrev pub round_lines : ℕ → ℕ → ℕ → List Op
round_lines seed round mutator = flat_map (lines_at seed round mutator) (first_numbers 200)

-- a phase with these lines of each of the eight mutators
abbrev pub phase_of : (ℕ → List Op) → Meet → Phase
phase_of lines meet = record { calls = map lines (first_numbers 8); meet = meet }

abbrev pub empty_phase : Meet → Phase
empty_phase meet = phase_of (λ mutator. []) meet

-- a round, and after each but the last the start of the next cycle
abbrev pub round_phases : ℕ → ℕ → List Phase
round_phases seed round =
    phase_of (round_lines seed round) Finish ∷ (if round == 5 then [] else empty_phase (Start Auto) ∷ [])

-- both variables are emptied, and a cycle starts
abbrev pub emptying_phase : Phase
emptying_phase = phase_of (λ mutator. op.Drop 0 ∷ op.Drop 1 ∷ []) (Start Auto)

abbrev pub phases_of : ℕ → List Phase
phases_of seed =
    empty_phase (Start Auto) ∷ flat_map (round_phases seed) (first_numbers 6)
    ++ emptying_phase ∷ empty_phase Finish ∷ empty_phase (Start Auto) ∷ empty_phase Finish ∷ empty_phase End ∷ []

-- the script of a seed
abbrev pub generated : ℕ → Script
generated seed = record { version = 1; limits = limits; phases = phases_of seed }
