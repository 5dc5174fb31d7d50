-- What holds of the operations of a phase once they are sorted by mutators, and of phases with one more after them.
use Rattle.std.proofs.Common.{◌≡◌, ℕ, zero, suc, ◌+◌, ◌==◌, ◌<◌, ◌≤◌, nat_lt, Bool, true, false, cond, List, [], ◌∷◌, ◌++◌, length, Some, None, refl, ◌∙◌, ap, arith, length-append}
use Rattle.std.specs.List.{All}
use Rattle.std.specs.Option.{option_and_then}
use Rattle.std.proofs.lemmas.Grind.{common_steps}
use Rattle.std.proofs.lemmas.Bool.Decides.{nat_tests}
use Rattle.std.proofs.lemmas.List.Elements.{All-nil, All-cons, All-head, All-tail, All-push}
use Rattle.plain_table.specs.declared.scripts.Op.{Op}
use Rattle.plain_table.specs.declared.scripts.Limits.{Limits}
use Rattle.plain_table.specs.declared.scripts.Meet.{Meet}
use Rattle.plain_table.specs.declared.scripts.Phase.{Phase}
use Rattle.plain_table.specs.declared.scripts.Meet.TheVariants.{End}
use Rattle.script_reader.specs.declared.lines.Call.{Call}
use Rattle.script_reader.specs.declared.draft.Draft.{Draft}
use Rattle.script_reader.specs.Grammar.{ops_of, lists_of, phase_of, ended, with_meet, cycle_after}
use Rattle.script_reader.specs.Lines.{most_meets}
use Rattle.script_reader.specs.Reading.{IsCall, IsDraft}
use Rattle.script_reader.specs.Valid.{IsValidLimits, IsValidOp, IsValidPhase, IsValidScript, lists_length, operations_of, meet_after, meets_after}

ops-each : (a m k : ℕ) (calls : List Call) → All (IsCall a m) calls → All (IsValidOp a) (ops_of k calls)
ops-each a m k [] h = All-nil (IsValidOp a)
ops-each a m k (call ∷ calls) h =
    let first : IsCall a m call = All-head (IsCall a m) call calls h in
    let more : All (IsValidOp a) (ops_of k calls) = ops-each a m k calls (All-tail (IsCall a m) call calls h) in
    elim (call.mutator == k) as (λ b. All (IsValidOp a) (cond b (call.op ∷ ops_of k calls) (ops_of k calls)))
    [ true ↦ All-cons (IsValidOp a) call.op (ops_of k calls) first.op more | false ↦ more ]

pub lists-each : (a m k : ℕ) (calls : List Call) → All (IsCall a m) calls → All (All (IsValidOp a)) (lists_of k calls)
lists-each a m zero calls h = All-nil (All (IsValidOp a))
lists-each a m (suc k) calls h =
    All-push (All (IsValidOp a)) (lists_of k calls) (ops_of k calls) (lists-each a m k calls h) (ops-each a m k calls h)

pub lists-length : (k : ℕ) (calls : List Call) → length (lists_of k calls) ≡ k
lists-length zero calls = refl
lists-length (suc k) calls = omega (arith, lists-length k calls, length-append (lists_of k calls) (ops_of k calls ∷ []))

lists_length-push : (lists : List (List Op)) (ops : List Op)
    → lists_length (lists ++ ops ∷ []) ≡ lists_length lists + length ops
lists_length-push [] ops = omega arith
lists_length-push (first ∷ lists) ops = omega (arith, lists_length-push lists ops)

-- an operation is in the list of its mutator alone
held-cons : (k : ℕ) (call : Call) (calls : List Call)
    → lists_length (lists_of k (call ∷ calls)) ≡ lists_length (lists_of k calls) + cond (nat_lt call.mutator k) 1 0
held-cons zero call calls =
    let t : nat_lt call.mutator 0 ≡ false = grind (arith, common_steps, nat_tests) in
    rw t refl
held-cons (suc k) call calls =
    let a = lists_length-push (lists_of k (call ∷ calls)) (ops_of k (call ∷ calls)) in
    let b = lists_length-push (lists_of k calls) (ops_of k calls) in
    let e = held-cons k call calls in
    grind (arith, common_steps, nat_tests)

lists-none : (k : ℕ) → lists_length (lists_of k []) ≡ 0
lists-none zero = refl
lists-none (suc k) = omega (arith, lists_length-push (lists_of k []) [], lists-none k)

pub held-all : (k : ℕ) (calls : List Call) → lists_length (lists_of k calls) ≤ length calls
held-all k [] = omega (arith, lists-none k)
held-all k (call ∷ calls) =
    let e = held-cons k call calls in
    let h : lists_length (lists_of k calls) ≤ length calls = held-all k calls in
    grind (arith, common_steps)

pub operations-push : (phases : List Phase) (phase : Phase)
    → operations_of (phases ++ phase ∷ []) ≡ operations_of phases + lists_length phase.calls
operations-push [] phase = omega arith
operations-push (first ∷ phases) phase = omega (arith, operations-push phases phase)

pub meets-push : (cycle : Bool) (phases : List Phase) (phase : Phase)
    → meets_after cycle (phases ++ phase ∷ [])
    ≡ option_and_then (λ next. meet_after next phase.meet) (meets_after cycle phases)
meets-push cycle [] phase = elim (meet_after cycle phase.meet)
    as (λ o. option_and_then (λ next. Some next) o ≡ o) [ None ↦ refl | Some x ↦ refl ]
meets-push cycle (first ∷ phases) phase =
    elim (meet_after cycle first.meet)
    as (λ o. option_and_then (λ next. meets_after next (phases ++ phase ∷ [])) o
    ≡ option_and_then (λ next. meet_after next phase.meet) (option_and_then (λ next. meets_after next phases) o))
    [ None ↦ refl | Some x ↦ meets-push x phases phase ]

phase-valid : (limits : Limits) (d : Draft) (meet : Meet) → IsDraft limits d
    → IsValidPhase d.counts.version limits.mutators (phase_of d.counts.mutators d.calls meet)
phase-valid limits d meet h = record {
  lists = lists-length d.counts.mutators d.calls ∙ h.mutators;
  each = lists-each d.counts.version limits.mutators d.counts.mutators d.calls h.calls;
}

pub draft-meet : (limits : Limits) (d : Draft) (meet : Meet) → IsDraft limits d
    → meet_after d.counts.in_cycle meet ≡ Some (cycle_after d.counts.in_cycle meet) → d.counts.meets < most_meets
    → IsDraft limits (with_meet d meet)
draft-meet limits d meet h proper few =
    let phase = phase_of d.counts.mutators d.calls meet in
    record {
      version = h.version;
      mutators = h.mutators;
      each = All-push (IsValidPhase d.counts.version limits.mutators) d.phases phase h.each (phase-valid limits d meet h);
      calls = All-nil (IsCall d.counts.version limits.mutators);
      cycles = meets-push false d.phases phase ∙ ap (option_and_then (λ next. meet_after next meet)) h.cycles ∙ proper;
      counted = omega (arith, length-append d.phases (phase ∷ []), h.counted);
      meets = omega (arith, few);
      held = omega (arith, operations-push d.phases phase, held-all d.counts.mutators d.calls, h.held);
      operations = h.operations;
    }

pub script-valid : (limits : Limits) (d : Draft) → IsValidLimits limits → IsDraft limits d
    → d.counts.in_cycle ≡ false → IsValidScript (ended limits d)
script-valid limits d valid h outside =
    let phase = phase_of d.counts.mutators d.calls End in
    record {
      version = h.version;
      limits = valid;
      each = All-push (IsValidPhase d.counts.version limits.mutators) d.phases phase h.each (phase-valid limits d End h);
      phases = d.phases;
      last = phase;
      split = refl;
      ends = refl;
      cycles = h.cycles ∙ ap Some outside;
      meets = omega (arith, h.counted, h.meets);
      operations = omega (arith, operations-push d.phases phase, held-all d.counts.mutators d.calls, h.held, h.operations);
    }
