-- The lines of a canonical text are read back as the script that was printed.
use Rattle.std.proofs.Common.{◌≡◌, ℕ, ◌+◌, ◌==◌, ◌<◌, ◌≤◌, nat_lt, Bool, true, false, List, [], ◌∷◌, ◌++◌, length, codes, Some, None, Result, Ok, refl, ◌∙◌, ap, arith, length-append}
use Rattle.std.specs.List.{All, flat_map}
use Rattle.std.specs.Option.{option_and_then}
use Rattle.std.specs.Fmt.{decimal}
use Rattle.std.proofs.lemmas.Grind.{common_steps}
use Rattle.std.proofs.lemmas.Bool.Decides.{nat_tests}
use Rattle.std.proofs.lemmas.List.{append-nil, append_assoc}
use Rattle.std.proofs.lemmas.List.Elements.{All-head, All-tail}
use Rattle.plain_table.specs.declared.scripts.Limits.{Limits}
use Rattle.plain_table.specs.declared.scripts.Op.{Op}
use Rattle.plain_table.specs.declared.scripts.Meet.{Meet}
use Rattle.plain_table.specs.declared.scripts.Meet.TheVariants.{Plain, Start, Finish, End}
use Rattle.plain_table.specs.declared.scripts.Policy.{Policy}
use Rattle.plain_table.specs.declared.scripts.Policy.TheVariants.{Auto, Always, Never}
use Rattle.plain_table.specs.declared.scripts.Phase.{Phase}
use Rattle.plain_table.specs.declared.scripts.Script.{Script}
use Rattle.script_reader.specs.declared.refusals.ScriptErr.{ScriptErr}
use Rattle.script_reader.specs.declared.lines.Call.{Call}
use Rattle.script_reader.specs.declared.lines.Counts.{Counts}
use Rattle.script_reader.specs.declared.lines.Line.TheVariants as line
use Rattle.script_reader.specs.declared.draft.Draft.{Draft}
use Rattle.script_reader.specs.Spelling.{pieces}
use Rattle.script_reader.specs.Lines.{is_skipped, line_of, most_operations, most_meets}
use Rattle.script_reader.specs.Grammar.{cycle_after, ended, lines_from, phase_of, with_call, with_meet}
use Rattle.script_reader.specs.Valid.{IsValidOp, IsValidPhase, lists_length, operations_of, meet_after, meets_after}
use Rattle.script_reader.specs.Canonical.{lists_text, meet_text, op_line, op_words, ops_text, phase_text, spaced}
use Rattle.script_reader.proofs.Splitting.{slice_split-full}
use Rattle.script_reader.proofs.Ink.{pieces-spaced}
use Rattle.script_reader.proofs.ReadBack.{ink-decimal}
use Rattle.script_reader.proofs.OpLines.{line-op, ink-op}
use Rattle.script_reader.proofs.Sorting.{tagged, flat, tagged-length, flat-length, lists-flat}

-- a line that says something
lines-call : (limits : Limits) (d : Draft) (n : ℕ) (piece rest : List ℕ) (call : Call) → is_skipped piece ≡ false
    → line_of d.counts piece ≡ Ok (line.Operation call)
    → lines_from limits d n (piece ∷ pieces rest) ≡ lines_from limits (with_call d call) (n + 1) (pieces rest)
lines-call limits d n piece rest call skip said = rw (slice_split-full (λ byte. byte == 10) rest, skip, said) refl

lines-meet : (limits : Limits) (d : Draft) (n : ℕ) (piece rest : List ℕ) (meet : Meet) → is_skipped piece ≡ false
    → line_of d.counts piece ≡ Ok (line.Meeting meet)
    → lines_from limits d n (piece ∷ pieces rest) ≡ lines_from limits (with_meet d meet) (n + 1) (pieces rest)
lines-meet limits d n piece rest meet skip said = rw (slice_split-full (λ byte. byte == 10) rest, skip, said) refl

-- an operation
lines-op : (limits : Limits) (d : Draft) (n m : ℕ) (call : Op) (rest : List ℕ) → IsValidOp d.counts.version call
    → m < d.counts.mutators → d.counts.mutators ≤ 8 → d.counts.operations < most_operations
    → lines_from limits d n (pieces (op_line m call ++ rest))
    ≡ lines_from limits (with_call d (record { mutator = m; op = call })) (n + 1) (pieces rest)
lines-op limits d n m call rest valid h b few =
    let text : List ℕ = (codes "m" ++ decimal m) ++ spaced (op_words call) in
    let p : pieces (op_line m call ++ rest) ≡ text ∷ pieces rest =
    ap pieces (append_assoc text (10 ∷ []) rest)
    ∙ pieces-spaced (codes "m" ++ decimal m) (op_words call) rest (ink-decimal m (omega arith)) (ink-op d.counts.version call valid) in
    ap (lines_from limits d n) p
    ∙ lines-call limits d n text rest (record { mutator = m; op = call }) refl (line-op d.counts m call valid h b few)

-- several operations
abbrev after_calls : Draft → List Call → Draft
after_calls d calls = record d {
  calls = d.calls ++ calls;
  counts = record d.counts { operations = d.counts.operations + length calls };
}

after-none : (d : Draft) → d ≡ after_calls d []
after-none d = let z : d.counts.operations + 0 ≡ d.counts.operations = omega arith in rw (append-nil d.calls, z) refl

after-append : (d : Draft) (a b : List Call) → after_calls (after_calls d a) b ≡ after_calls d (a ++ b)
after-append d a b =
    let z : d.counts.operations + length a + length b ≡ d.counts.operations + length (a ++ b) = omega (arith, length-append a b) in
    rw (append_assoc d.calls a b, z) refl

after-cons : (d : Draft) (call : Call) (calls : List Call) → after_calls (with_call d call) calls ≡ after_calls d (call ∷ calls)
after-cons d call calls = after-append d (call ∷ []) calls

move : (limits : Limits) (d e : Draft) (m n : ℕ) (rest : List ℕ) → d ≡ e → m ≡ n
    → lines_from limits d m (pieces rest) ≡ lines_from limits e n (pieces rest)
move limits d e m n rest p q = rw (p, q) refl

lines-ops : (limits : Limits) (d : Draft) (n m : ℕ) (ops : List Op) (rest : List ℕ) → All (IsValidOp d.counts.version) ops
    → m < d.counts.mutators → d.counts.mutators ≤ 8 → d.counts.operations + length ops ≤ most_operations
    → lines_from limits d n (pieces (ops_text m ops ++ rest))
    ≡ lines_from limits (after_calls d (tagged m ops)) (n + length ops) (pieces rest)
lines-ops limits d n m [] rest each h b few = move limits d (after_calls d []) n (n + 0) rest (after-none d) (omega arith)
lines-ops limits d n m (call ∷ ops) rest each h b few =
    let next : Draft = with_call d (record { mutator = m; op = call }) in
    ap (λ text. lines_from limits d n (pieces text)) (append_assoc (op_line m call) (ops_text m ops) rest)
    ∙ lines-op limits d n m call (ops_text m ops ++ rest) (All-head (IsValidOp d.counts.version) call ops each) h b (omega arith)
    ∙ lines-ops limits next (n + 1) m ops rest (All-tail (IsValidOp d.counts.version) call ops each) h b (omega arith)
    ∙ move limits (after_calls next (tagged m ops)) (after_calls d (tagged m (call ∷ ops))) (n + 1 + length ops)
    (n + length (call ∷ ops)) rest (after-cons d (record { mutator = m; op = call }) (tagged m ops)) (omega arith)

lines-lists : (limits : Limits) (d : Draft) (n m : ℕ) (lists : List (List Op)) (rest : List ℕ)
    → All (All (IsValidOp d.counts.version)) lists → m + length lists ≤ d.counts.mutators → d.counts.mutators ≤ 8
    → d.counts.operations + lists_length lists ≤ most_operations
    → lines_from limits d n (pieces (lists_text m lists ++ rest))
    ≡ lines_from limits (after_calls d (flat m lists)) (n + lists_length lists) (pieces rest)
lines-lists limits d n m [] rest each h b few = move limits d (after_calls d []) n (n + 0) rest (after-none d) (omega arith)
lines-lists limits d n m (ops ∷ lists) rest each h b few =
    let next : Draft = after_calls d (tagged m ops) in
    ap (λ text. lines_from limits d n (pieces text)) (append_assoc (ops_text m ops) (lists_text (m + 1) lists) rest)
    ∙ lines-ops limits d n m ops (lists_text (m + 1) lists ++ rest) (All-head (All (IsValidOp d.counts.version)) ops lists each) (omega arith) b (omega arith)
    ∙ lines-lists limits next (n + length ops) (m + 1) lists rest (All-tail (All (IsValidOp d.counts.version)) ops lists each) (omega arith) b
    (omega (arith, tagged-length m ops))
    ∙ move limits (after_calls next (flat (m + 1) lists)) (after_calls d (flat m (ops ∷ lists)))
    (n + length ops + lists_length lists) (n + lists_length (ops ∷ lists)) rest
    (after-append d (tagged m ops) (flat (m + 1) lists)) (omega arith)

-- a meet
outside : (cycle next : Bool) (policy : Policy) → meet_after cycle (Start policy) ≡ Some next → cycle ≡ false
outside false next policy h = refl
outside true next policy h = absurd cc

inside : (cycle next : Bool) → meet_after cycle Finish ≡ Some next → cycle ≡ true
inside true next h = refl
inside false next h = absurd cc

no-end : (cycle next : Bool) → meet_after cycle End ≡ Some next → ⊥
no-end true next h = absurd cc
no-end false next h = absurd cc

cycle-next : (cycle next : Bool) (meet : Meet) → meet_after cycle meet ≡ Some next → cycle_after cycle meet ≡ next
cycle-next cycle next Plain h = cc
cycle-next false next (Start policy) h = cc
cycle-next true next (Start policy) h = absurd cc
cycle-next true next Finish h = cc
cycle-next false next Finish h = absurd cc
cycle-next true next End h = absurd cc
cycle-next false next End h = absurd cc

lines-meeting : (limits : Limits) (d : Draft) (n : ℕ) (meet : Meet) (rest : List ℕ) (next : Bool)
    → meet_after d.counts.in_cycle meet ≡ Some next → d.counts.meets < most_meets
    → lines_from limits d n (pieces (meet_text meet ++ rest))
    ≡ lines_from limits (with_meet d meet) (n + 1) (pieces rest)
lines-meeting limits d n Plain rest next h few =
    let t : nat_lt d.counts.meets most_meets ≡ true = grind (arith, common_steps, nat_tests) in
    lines-meet limits d n (codes "meet") rest Plain refl (rw t refl)
lines-meeting limits d n (Start Auto) rest next h few =
    let t : nat_lt d.counts.meets most_meets ≡ true = grind (arith, common_steps, nat_tests) in
    lines-meet limits d n (codes "start auto") rest (Start Auto) refl (rw (outside d.counts.in_cycle next Auto h, t) refl)
lines-meeting limits d n (Start Always) rest next h few =
    let t : nat_lt d.counts.meets most_meets ≡ true = grind (arith, common_steps, nat_tests) in
    lines-meet limits d n (codes "start always") rest (Start Always) refl (rw (outside d.counts.in_cycle next Always h, t) refl)
lines-meeting limits d n (Start Never) rest next h few =
    let t : nat_lt d.counts.meets most_meets ≡ true = grind (arith, common_steps, nat_tests) in
    lines-meet limits d n (codes "start never") rest (Start Never) refl (rw (outside d.counts.in_cycle next Never h, t) refl)
lines-meeting limits d n Finish rest next h few =
    let t : nat_lt d.counts.meets most_meets ≡ true = grind (arith, common_steps, nat_tests) in
    lines-meet limits d n (codes "finish") rest Finish refl (rw (inside d.counts.in_cycle next h, t) refl)
lines-meeting limits d n End rest next h few = absurd (no-end d.counts.in_cycle next h)

-- a phase that does not end the script
abbrev fresh : List Phase → Counts → Draft
fresh phases c = record { phases = phases; calls = []; counts = c }

abbrev counts_after : Counts → Phase → Counts
counts_after c phase = record c {
  operations = c.operations + length (flat 0 phase.calls);
  meets = c.meets + 1;
  in_cycle = cycle_after c.in_cycle phase.meet;
}

sorted : (a mutators : ℕ) (phase : Phase) (meet : Meet) → IsValidPhase a mutators phase → phase.meet ≡ meet
    → phase_of mutators (flat 0 phase.calls) meet ≡ phase
sorted a mutators phase meet valid e = rw (lists-flat mutators phase.calls valid.lists, ← e) refl

onward-phase : (phases : List Phase) (c : Counts) (phase : Phase) → IsValidPhase c.version c.mutators phase
    → with_meet (after_calls (fresh phases c) (flat 0 phase.calls)) phase.meet
    ≡ fresh (phases ++ phase ∷ []) (counts_after c phase)
onward-phase phases c phase valid =
    ap (λ p. fresh (phases ++ p ∷ []) (counts_after c phase)) (sorted c.version c.mutators phase phase.meet valid refl)

lines-phase : (limits : Limits) (phases : List Phase) (c : Counts) (n : ℕ) (phase : Phase) (rest : List ℕ) (next : Bool)
    → IsValidPhase c.version c.mutators phase → c.mutators ≤ 8 → c.operations + lists_length phase.calls ≤ most_operations
    → c.meets < most_meets → meet_after c.in_cycle phase.meet ≡ Some next
    → lines_from limits (fresh phases c) n (pieces (phase_text phase ++ rest))
    ≡ lines_from limits (fresh (phases ++ phase ∷ []) (counts_after c phase)) (n + lists_length phase.calls + 1) (pieces rest)
lines-phase limits phases c n phase rest next valid b few more h =
    ap (λ text. lines_from limits (fresh phases c) n (pieces text))
    (append_assoc (lists_text 0 phase.calls) (meet_text phase.meet) rest)
    ∙ lines-lists limits (fresh phases c) n 0 phase.calls (meet_text phase.meet ++ rest) valid.each
    (omega (arith, valid.lists)) b few
    ∙ lines-meeting limits (after_calls (fresh phases c) (flat 0 phase.calls)) (n + lists_length phase.calls) phase.meet rest
    next h more
    ∙ ap (λ d. lines_from limits d (n + lists_length phase.calls + 1) (pieces rest)) (onward-phase phases c phase valid)

-- the end
lines-end : (limits : Limits) (d : Draft) (n : ℕ) → d.counts.in_cycle ≡ false
    → lines_from limits d n (pieces (codes "end\n")) ≡ Ok (ended limits d)
lines-end limits d n h = rw h refl

lines-last : (limits : Limits) (phases : List Phase) (c : Counts) (n : ℕ) (last : Phase)
    → IsValidPhase c.version c.mutators last → c.mutators ≤ 8 → c.operations + lists_length last.calls ≤ most_operations
    → last.meet ≡ End → c.in_cycle ≡ false
    → lines_from limits (fresh phases c) n (pieces (phase_text last ++ []))
    ≡ Ok (record { version = c.version; limits = limits; phases = phases ++ last ∷ [] })
lines-last limits phases c n last valid b few ends outside =
    let text : phase_text last ++ [] ≡ lists_text 0 last.calls ++ codes "end\n" =
    append-nil (phase_text last) ∙ ap (λ meet. lists_text 0 last.calls ++ meet_text meet) ends in
    let made : phase_of c.mutators (flat 0 last.calls) End ≡ last = sorted c.version c.mutators last End valid ends in
    let result : (p : Phase) → Result Script ScriptErr = λ p. Ok (record { version = c.version; limits = limits; phases = phases ++ p ∷ [] }) in
    ap (λ t. lines_from limits (fresh phases c) n (pieces t)) text
    ∙ lines-lists limits (fresh phases c) n 0 last.calls (codes "end\n") valid.each (omega (arith, valid.lists)) b few
    ∙ lines-end limits (after_calls (fresh phases c) (flat 0 last.calls)) (n + lists_length last.calls) outside
    ∙ ap result made

-- all phases
step : (cycle : Bool) (phase : Phase) (phases : List Phase) → meets_after cycle (phase ∷ phases) ≡ Some false
    → (next : Bool) × ((meet_after cycle phase.meet ≡ Some next) × (meets_after next phases ≡ Some false))
step cycle phase phases h =
    (elim (meet_after cycle phase.meet)
    as (λ o. option_and_then (λ next. meets_after next phases) o ≡ Some false
    → (next : Bool) × ((o ≡ Some next) × (meets_after next phases ≡ Some false)))
    [ None ↦ λ g. absurd cc | Some next ↦ λ g. (next, (refl, g)) ]) h

pub lines-phases : (limits : Limits) (before : List Phase) (c : Counts) (n : ℕ) (phases : List Phase) (last : Phase)
    → All (IsValidPhase c.version c.mutators) (phases ++ last ∷ []) → c.mutators ≤ 8
    → c.operations + operations_of (phases ++ last ∷ []) ≤ most_operations → c.meets + length phases ≤ most_meets
    → meets_after c.in_cycle phases ≡ Some false → last.meet ≡ End
    → lines_from limits (fresh before c) n (pieces (flat_map phase_text (phases ++ last ∷ [])))
    ≡ Ok (record { version = c.version; limits = limits; phases = before ++ (phases ++ last ∷ []) })
lines-phases limits before c n [] last each b few more cycles ends =
    lines-last limits before c n last (All-head (IsValidPhase c.version c.mutators) last [] each) b (omega arith) ends cc
lines-phases limits before c n (phase ∷ phases) last each b few more cycles ends =
    let rest : List ℕ = flat_map phase_text (phases ++ last ∷ []) in
    let s = step c.in_cycle phase phases cycles in
    let valid : IsValidPhase c.version c.mutators phase = All-head (IsValidPhase c.version c.mutators) phase (phases ++ last ∷ []) each in
    let turn : cycle_after c.in_cycle phase.meet ≡ s.0 = cycle-next c.in_cycle s.0 phase.meet s.1.0 in
    let onward : meets_after (cycle_after c.in_cycle phase.meet) phases ≡ Some false = rw turn s.1.1 in
    let result : (p : List Phase) → Result Script ScriptErr = λ p. Ok (record { version = c.version; limits = limits; phases = p }) in
    lines-phase limits before c n phase rest s.0 valid b (omega arith) (omega arith) s.1.0
    ∙ lines-phases limits (before ++ phase ∷ []) (counts_after c phase) (n + lists_length phase.calls + 1) phases last
    (All-tail (IsValidPhase c.version c.mutators) phase (phases ++ last ∷ []) each) b
    (omega (arith, flat-length 0 phase.calls)) (omega arith) onward ends
    ∙ ap result (append_assoc before (phase ∷ []) (phases ++ last ∷ []))
