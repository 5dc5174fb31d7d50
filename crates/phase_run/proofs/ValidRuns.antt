-- What a run relies on within a valid script: each phase has a list of valid calls for each mutator, a cycle starts only outside one
-- and is finished only in one, and there are few operations.
use Rattle.std.proofs.Common.{◌≡◌, ℕ, zero, suc, ◌+◌, ◌<◌, ◌≤◌, Bool, true, false, Option, Some, List, [], ◌∷◌, ◌++◌, length, get_or, take, refl, sym, ◌∙◌, ap, subst, arith}
use Rattle.std.specs.Prelude.{if◌then◌else◌}
use Rattle.std.specs.Option.{option_and_then}
use Rattle.std.proofs.lemmas.List.{take_more}
use Rattle.std.proofs.Math.Nat.{mul-le-mul_left, div-add-mod}
use Rattle.plain_table.specs.declared.scripts.Limits.{Limits}
use Rattle.plain_table.specs.declared.scripts.Op.{Op}
use Rattle.plain_table.specs.declared.scripts.Meet.{Meet}
use Rattle.plain_table.specs.declared.scripts.Meet.TheVariants.{Plain, Start, Finish, End}
use Rattle.plain_table.specs.declared.scripts.Phase.{Phase}
use Rattle.plain_table.specs.declared.scripts.Script.{Script}
use Rattle.plain_table.specs.Ranges.{IsInRange}
use Rattle.script_reader.specs.Lines.{most_operations}
use Rattle.script_reader.specs.Valid.{IsValidLimits, IsValidScript, lists_length, meet_after, meets_after, operations_of}
use Rattle.script_reader.proofs.Upgrading.{op-upgraded}
use Rattle.phases.specs.Phases.{CanRun}
use Rattle.phase_run.specs.Meets.{IsMeetAt, word_after, words_after}

pub range_of : (limits : Limits) → IsValidLimits limits → IsInRange limits
range_of limits v = record {
  seg = v.seg;
  ext = (v.ext.0, omega (arith, mul-le-mul_left limits.seg v.ext.1, div-add-mod 65536 limits.seg));
  tru = (v.tru.0, omega (arith, mul-le-mul_left limits.seg v.tru.1, div-add-mod 65536 limits.seg));
  objects = v.objects;
  mutators = v.mutators;
  markers = v.markers;
}

-- the operations of some phases, and of one more
operations_of-append : (phases more : List Phase) → operations_of (phases ++ more) ≡ operations_of phases + operations_of more
operations_of-append [] more = omega arith
operations_of-append (phase ∷ phases) more = let rest = operations_of-append phases more in omega (arith, rest)

pub operations_of-more : (phases : List Phase) (k : ℕ) (d : Phase) → k < length phases →
    operations_of (take (k + 1) phases) ≡ operations_of (take k phases) + lists_length (get_or phases k d).calls
operations_of-more phases k d within =
    let more = ap operations_of (take_more phases k d within) in
    let both = operations_of-append (take k phases) (get_or phases k d ∷ []) in
    omega (arith, more, both)

pub operations_of-take : (phases : List Phase) (k : ℕ) → operations_of (take k phases) ≤ operations_of phases
operations_of-take phases zero = omega arith
operations_of-take [] (suc k) = omega arith
operations_of-take (phase ∷ phases) (suc k) = let rest = operations_of-take phases k in omega (arith, rest)

-- one list among others
list-few : (lists : List (List Op)) (k : ℕ) (d : List Op) → k < length lists → length (get_or lists k d) ≤ lists_length lists
list-few [] k d within = absurd (omega (arith, within))
list-few (ops ∷ lists) zero d within = omega arith
list-few (ops ∷ lists) (suc k) d within = let rest = list-few lists k d (omega (arith, within)) in omega (arith, rest)

pub phase-few : (script : Script) → IsValidScript script → (k : ℕ) (d : Phase) → k < length script.phases →
    lists_length (get_or script.phases k d).calls ≤ most_operations
phase-few script valid k d within = omega (arith, operations_of-more script.phases k d within, operations_of-take script.phases (k + 1), valid.operations)

pub CanRun-valid : (script : Script) → IsValidScript script → (k : ℕ) (d : Phase) → k < length script.phases →
    CanRun script.limits (get_or script.phases k d).calls
CanRun-valid script valid k d within =
    let phase = valid.each k d within in
    let most = phase-few script valid k d within in
    record {
      range = range_of script.limits valid.limits;
      lists = phase.lists;
      valid = λ i e inside j o later. op-upgraded script.version (get_or (get_or (get_or script.phases k d).calls i e) j o) (phase.each i e inside j o later);
      few = λ i e inside. let one = list-few (get_or script.phases k d).calls i e inside in omega (arith, one, most);
    }

-- the phase word in a cycle and outside one
abbrev word_in : Bool → ℕ
word_in cycle = if cycle then 1 else 0

one_meet : (cycle : Bool) (meet : Meet) (later : Bool → Option Bool) → option_and_then later (meet_after cycle meet) ≡ Some false →
    (next : Bool) × (later next ≡ Some false) × IsMeetAt (word_in cycle) meet × (word_after (word_in cycle) meet ≡ word_in next)
one_meet true Plain later is = (true, is, tt, refl)
one_meet false Plain later is = (false, is, tt, refl)
one_meet false (Start policy) later is = (true, is, refl, refl)
one_meet true (Start policy) later is = absurd (cc)
one_meet true Finish later is = (false, is, refl, refl)
one_meet false Finish later is = absurd (cc)
one_meet true End later is = absurd (cc)
one_meet false End later is = absurd (cc)

meets_fit : (cycle : Bool) (phases : List Phase) (last : Phase) → last.meet ≡ End → meets_after cycle phases ≡ Some false →
    (k : ℕ) (d : Phase) → k < length (phases ++ last ∷ []) →
    IsMeetAt (words_after (word_in cycle) (take k (phases ++ last ∷ []))) (get_or (phases ++ last ∷ []) k d).meet
meets_fit cycle [] last ends onward zero d within = subst (IsMeetAt (word_in cycle)) (sym ends) tt
meets_fit cycle [] last ends onward (suc k) d within = absurd (omega arith)
meets_fit cycle (phase ∷ phases) last ends onward zero d within =
    (one_meet cycle phase.meet (λ next. meets_after next phases) onward).2
meets_fit cycle (phase ∷ phases) last ends onward (suc k) d within =
    let here = one_meet cycle phase.meet (λ next. meets_after next phases) onward in
    subst (λ (word : ℕ). IsMeetAt (words_after word (take k (phases ++ last ∷ []))) (get_or (phases ++ last ∷ []) k d).meet) (sym here.3)
    (meets_fit here.0 phases last ends here.1 k d (omega arith))

pub each_meet : (script : Script) → IsValidScript script → (k : ℕ) (d : Phase) → k < length script.phases →
    IsMeetAt (words_after 0 (take k script.phases)) (get_or script.phases k d).meet
each_meet script valid k d within =
    subst (λ (phases : List Phase). IsMeetAt (words_after 0 (take k phases)) (get_or phases k d).meet) (sym valid.split)
    (meets_fit false valid.phases valid.last valid.ends valid.cycles k d (subst (λ (phases : List Phase). k < length phases) valid.split within))

words_after-append : (word : ℕ) (phases : List Phase) (phase : Phase) → words_after word (phases ++ phase ∷ []) ≡ word_after (words_after word phases) phase.meet
words_after-append word [] phase = refl
words_after-append word (first ∷ phases) phase = words_after-append (word_after word first.meet) phases phase

pub words_after-more : (word : ℕ) (phases : List Phase) (k : ℕ) (d : Phase) → k < length phases →
    words_after word (take (k + 1) phases) ≡ word_after (words_after word (take k phases)) (get_or phases k d).meet
words_after-more word phases k d within = ap (words_after word) (take_more phases k d within) ∙ words_after-append word (take k phases) (get_or phases k d)
