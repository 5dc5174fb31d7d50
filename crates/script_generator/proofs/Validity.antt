-- The generated script is valid, and has 22,816 operations.
use Rattle.std.proofs.Common.{◌≡◌, ℕ, zero, suc, ◌+◌, ◌*◌, ◌%◌, ◌^◌, ◌<◌, ◌==◌, Bool, true, false, cond, List, [], ◌∷◌, ◌++◌, Some, length, map, sum_by, slice_index, refl, ap, sym, ◌∙◌, arith, inl, inr}
use Rattle.std.specs.List.{All, flat_map}
use Rattle.std.proofs.Math.Nat.{mod-lt}
use Rattle.std.proofs.lemmas.List.{append_assoc, length-append, length-map}
use Rattle.std.proofs.lemmas.List.Elements.{All-nil, All-cons, All-append}
use Rattle.std.proofs.lemmas.List.Concat.{length-flat_map}
use Rattle.plain_table.specs.declared.scripts.Op.{Op}
use Rattle.plain_table.specs.declared.scripts.Op.TheVariants as op
use Rattle.plain_table.specs.declared.scripts.Meet.{Meet}
use Rattle.plain_table.specs.declared.scripts.Meet.TheVariants.{Start, Finish, End}
use Rattle.plain_table.specs.declared.scripts.Policy.TheVariants.{Auto}
use Rattle.plain_table.specs.declared.scripts.Phase.{Phase}
use Rattle.tag_set.specs.Tag.{IsOldTag}
use Rattle.script_reader.specs.Valid.{IsValidLimits, IsValidOp, IsValidPhase, IsValidScript, lists_length, operations_of, meets_after}
use Rattle.script_generator.specs.Generated.{first_numbers, old_tags, limits, object_lines, holding_lines, lines_at, round_lines, phase_of, empty_phase, round_phases, emptying_phase, phases_of, generated}
use Rattle.script_generator.proofs.Counting.{length-first_numbers, map-none, map-suc, flat_map-none, flat_map-suc, All-map, All-flat_map}
use Rattle.script_generator.proofs.OldTags.{All-old_tags, length-old_tags, IsTag-old}

-- each line is valid
old_tag-at : (n : ℕ) → IsOldTag (slice_index old_tags (n % 70))
old_tag-at n = All-old_tags (n % 70) 0 (omega (arith, length-old_tags, mod-lt n {m = 70} (omega arith)))

object-valid : (seed n : ℕ) → All (IsValidOp 1) (object_lines seed n)
object-valid seed n =
    let tag = slice_index old_tags (n % 70) in
    let old : IsOldTag tag = old_tag-at n in
    let below : (seed + n) % 2 ^ 48 < 2 ^ 48 = mod-lt (seed + n) {m = 2 ^ 48} (omega arith) in
    let made : IsValidOp 1 (op.New 0) = omega arith in
    let celled : IsValidOp 1 (op.Init 0 0 tag ((seed + n) % 2 ^ 48)) =
    (omega arith, omega arith, (IsTag-old tag old, inr old), below) in
    All-cons (IsValidOp 1) (op.New 0) (op.Init 0 0 tag ((seed + n) % 2 ^ 48) ∷ []) made
    (All-cons (IsValidOp 1) (op.Init 0 0 tag ((seed + n) % 2 ^ 48)) [] celled (All-nil (IsValidOp 1)))

holding-valid : (mutator : ℕ) → mutator < 8 → All (IsValidOp 1) (holding_lines mutator)
holding-valid mutator few =
    let got : IsValidOp 1 (op.GetG 1 mutator) = (omega arith, omega (arith, few)) in
    let linked : IsValidOp 1 (op.Link 0 0 (Some 1)) = (omega arith, omega arith, omega arith) in
    let set : IsValidOp 1 (op.SetG mutator (Some 0)) = (omega (arith, few), omega arith) in
    All-cons (IsValidOp 1) (op.GetG 1 mutator) (op.Link 0 0 (Some 1) ∷ op.SetG mutator (Some 0) ∷ []) got
    (All-cons (IsValidOp 1) (op.Link 0 0 (Some 1)) (op.SetG mutator (Some 0) ∷ []) linked
    (All-cons (IsValidOp 1) (op.SetG mutator (Some 0)) [] set (All-nil (IsValidOp 1))))

held-valid : (mutator : ℕ) (b : Bool) → mutator < 8 → All (IsValidOp 1) (cond b (holding_lines mutator) [])
held-valid mutator true few = holding-valid mutator few
held-valid mutator false few = All-nil (IsValidOp 1)

lines-valid : (seed round mutator : ℕ) → mutator < 8 → All (IsValidOp 1) (round_lines seed round mutator)
lines-valid seed round mutator few =
    All-flat_map (IsValidOp 1) (lines_at seed round mutator) 200
    (λ i h. All-append (IsValidOp 1) (object_lines seed (1200 * mutator + 200 * round + i)) _
    (object-valid seed (1200 * mutator + 200 * round + i)) (held-valid mutator (i % 8 == 0) few))

-- each phase is valid
phase-valid : (lines : ℕ → List Op) (meet : Meet) → ((mutator : ℕ) → mutator < 8 → All (IsValidOp 1) (lines mutator))
    → IsValidPhase 1 8 (phase_of lines meet)
phase-valid lines meet each = record {
  lists = length-map (first_numbers 8) lines ∙ length-first_numbers 8;
  each = All-map (All (IsValidOp 1)) lines 8 each;
}

empty-valid : (meet : Meet) → IsValidPhase 1 8 (empty_phase meet)
empty-valid meet = phase-valid (λ mutator. []) meet (λ mutator few. All-nil (IsValidOp 1))

emptying-valid : IsValidPhase 1 8 emptying_phase
emptying-valid =
    phase-valid (λ mutator. op.Drop 0 ∷ op.Drop 1 ∷ []) (Start Auto)
    (λ mutator few. All-cons (IsValidOp 1) (op.Drop 0) (op.Drop 1 ∷ []) (omega arith)
    (All-cons (IsValidOp 1) (op.Drop 1) [] (omega arith) (All-nil (IsValidOp 1))))

next-valid : (b : Bool) → All (IsValidPhase 1 8) (cond b [] (empty_phase (Start Auto) ∷ []))
next-valid true = All-nil (IsValidPhase 1 8)
next-valid false = All-cons (IsValidPhase 1 8) (empty_phase (Start Auto)) [] (empty-valid (Start Auto)) (All-nil (IsValidPhase 1 8))

round-valid : (seed round : ℕ) → All (IsValidPhase 1 8) (round_phases seed round)
round-valid seed round =
    All-cons (IsValidPhase 1 8) (phase_of (round_lines seed round) Finish) _
    (phase-valid (round_lines seed round) Finish (lines-valid seed round)) (next-valid (round == 5))

-- the phases after the rounds, but for the last
abbrev ending : List Phase
ending = emptying_phase ∷ empty_phase Finish ∷ empty_phase (Start Auto) ∷ empty_phase Finish ∷ []

-- the phases before the end
abbrev before_end : ℕ → List Phase
before_end seed = empty_phase (Start Auto) ∷ flat_map (round_phases seed) (first_numbers 6) ++ ending

phases-split : (seed : ℕ) → phases_of seed ≡ before_end seed ++ empty_phase End ∷ []
phases-split seed =
    ap (λ phases. empty_phase (Start Auto) ∷ phases)
    (sym (append_assoc (flat_map (round_phases seed) (first_numbers 6)) ending (empty_phase End ∷ [])))

one-empty : (meet : Meet) (phases : List Phase) → All (IsValidPhase 1 8) phases
    → All (IsValidPhase 1 8) (empty_phase meet ∷ phases)
one-empty meet phases each = All-cons (IsValidPhase 1 8) (empty_phase meet) phases (empty-valid meet) each

ending-valid : All (IsValidPhase 1 8) ending
ending-valid =
    All-cons (IsValidPhase 1 8) emptying_phase (empty_phase Finish ∷ empty_phase (Start Auto) ∷ empty_phase Finish ∷ [])
    emptying-valid
    (one-empty Finish (empty_phase (Start Auto) ∷ empty_phase Finish ∷ [])
    (one-empty (Start Auto) (empty_phase Finish ∷ []) (one-empty Finish [] (All-nil (IsValidPhase 1 8)))))

phases-valid : (seed : ℕ) → All (IsValidPhase 1 8) (phases_of seed)
phases-valid seed =
    let P = IsValidPhase 1 8 in
    let rounds : All P (flat_map (round_phases seed) (first_numbers 6)) =
    All-flat_map P (round_phases seed) 6 (λ round h. round-valid seed round) in
    let over : All P (ending ++ empty_phase End ∷ []) =
    All-append P ending (empty_phase End ∷ []) ending-valid (one-empty End [] (All-nil P)) in
    let after : All P (flat_map (round_phases seed) (first_numbers 6) ++ (ending ++ empty_phase End ∷ [])) =
    All-append P (flat_map (round_phases seed) (first_numbers 6)) (ending ++ empty_phase End ∷ []) rounds over in
    one-empty (Start Auto) (flat_map (round_phases seed) (first_numbers 6) ++ (ending ++ empty_phase End ∷ [])) after

-- cycles start and finish in turn
cycles-in_turn : (seed : ℕ) → meets_after false (before_end seed) ≡ Some false
unfolding first_numbers
cycles-in_turn seed = refl

length-before_end : (seed : ℕ) → length (before_end seed) ≡ 16
unfolding first_numbers
length-before_end seed = refl

pub length-generated : (seed : ℕ) → length (phases_of seed) ≡ 17
length-generated seed =
    ap length (phases-split seed) ∙ length-append (before_end seed) (empty_phase End ∷ []) ∙ omega (arith, length-before_end seed)

-- how many operations there are
lists_length-append : (xs ys : List (List Op)) → lists_length (xs ++ ys) ≡ lists_length xs + lists_length ys
lists_length-append [] ys = omega arith
lists_length-append (ops ∷ xs) ys = omega (arith, lists_length-append xs ys)

operations_of-append : (xs ys : List Phase) → operations_of (xs ++ ys) ≡ operations_of xs + operations_of ys
operations_of-append [] ys = omega arith
operations_of-append (phase ∷ xs) ys = omega (arith, operations_of-append xs ys)

lists_length-map : (lines : ℕ → List Op) (m n : ℕ) → ((i : ℕ) → length (lines i) ≡ m)
    → lists_length (map lines (first_numbers n)) ≡ m * n
lists_length-map lines m zero each = omega (arith, ap lists_length (map-none lines))
lists_length-map lines m (suc n) each =
    ap lists_length (map-suc lines n) ∙ lists_length-append (map lines (first_numbers n)) (lines n ∷ [])
    ∙ omega (arith, lists_length-map lines m n each, each n)

-- two operations for each object, and three more for each eighth
counted : (seed round mutator : ℕ) → sum_by (λ i. length (lines_at seed round mutator i)) (first_numbers 200) ≡ 475
unfolding first_numbers
counted seed round mutator = refl

length-round_lines : (seed round mutator : ℕ) → length (round_lines seed round mutator) ≡ 475
length-round_lines seed round mutator =
    length-flat_map (lines_at seed round mutator) (first_numbers 200) ∙ counted seed round mutator

lists_length-empty : (meet : Meet) → lists_length (empty_phase meet).calls ≡ 0
lists_length-empty meet = lists_length-map (λ mutator. []) 0 8 (λ i. refl)

operations_of-next : (b : Bool) → operations_of (cond b [] (empty_phase (Start Auto) ∷ [])) ≡ 0
operations_of-next true = refl
operations_of-next false = omega (arith, lists_length-empty (Start Auto))

operations_of-round : (seed round : ℕ) → operations_of (round_phases seed round) ≡ 3800
operations_of-round seed round =
    let lists : lists_length (map (round_lines seed round) (first_numbers 8)) ≡ 475 * 8 =
    lists_length-map (round_lines seed round) 475 8 (length-round_lines seed round) in
    let next : operations_of (cond (round == 5) [] (empty_phase (Start Auto) ∷ [])) ≡ 0 = operations_of-next (round == 5) in
    omega (arith, lists, next)

operations_of-rounds : (seed n : ℕ) → operations_of (flat_map (round_phases seed) (first_numbers n)) ≡ 3800 * n
operations_of-rounds seed zero = omega (arith, ap operations_of (flat_map-none (round_phases seed)))
operations_of-rounds seed (suc n) =
    ap operations_of (flat_map-suc (round_phases seed) n)
    ∙ operations_of-append (flat_map (round_phases seed) (first_numbers n)) (round_phases seed n)
    ∙ omega (arith, operations_of-rounds seed n, operations_of-round seed n)

pub operations-generated : (seed : ℕ) → operations_of (phases_of seed) ≡ 22816
operations-generated seed =
    let dropped : lists_length emptying_phase.calls ≡ 2 * 8 = lists_length-map (λ mutator. op.Drop 0 ∷ op.Drop 1 ∷ []) 2 8 (λ i. refl) in
    let joined = operations_of-append (flat_map (round_phases seed) (first_numbers 6))
    (emptying_phase ∷ empty_phase Finish ∷ empty_phase (Start Auto) ∷ empty_phase Finish ∷ empty_phase End ∷ []) in
    omega (arith, joined, dropped, operations_of-rounds seed 6, lists_length-empty (Start Auto), lists_length-empty Finish, lists_length-empty End)

limits-valid : IsValidLimits limits
limits-valid = record {
  seg = inr (inl refl);
  ext = (omega arith, omega arith);
  tru = (omega arith, omega arith);
  objects = (omega arith, omega arith);
  mutators = (omega arith, omega arith);
  markers = omega arith;
}

pub generated-valid : (seed : ℕ) → IsValidScript (generated seed)
generated-valid seed = record {
  version = inl refl;
  limits = limits-valid;
  each = phases-valid seed;
  phases = before_end seed;
  last = empty_phase End;
  split = phases-split seed;
  ends = refl;
  cycles = cycles-in_turn seed;
  meets = omega (arith, length-before_end seed);
  operations = omega (arith, operations-generated seed);
}
