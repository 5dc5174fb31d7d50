-- The operations of a phase, sorted by mutators, are the lists that were printed one after the other.
use Rattle.std.proofs.Common.{◌≡◌, ℕ, zero, suc, ◌+◌, ◌==◌, ◌<◌, ◌≤◌, true, false, cond, List, [], ◌∷◌, ◌++◌, length, take, get_or, refl, sym, ◌∙◌, ap, arith, length-append, eq-eqb}
use Rattle.std.proofs.lemmas.Grind.{common_steps}
use Rattle.std.proofs.lemmas.Bool.Decides.{nat_tests}
use Rattle.std.proofs.lemmas.List.{append-nil, take_all}
use Rattle.std.proofs.Math.Seq.{take-suc}
use Rattle.plain_table.specs.declared.scripts.Op.{Op}
use Rattle.script_reader.specs.declared.lines.Call.{Call}
use Rattle.script_reader.specs.Grammar.{ops_of, lists_of}
use Rattle.script_reader.specs.Valid.{lists_length}

-- the operations of one mutator as calls, and those of mutator m, of the next one and so on
abbrev pub tagged : ℕ → List Op → List Call
tagged m [] = []
tagged m (call ∷ calls) = (record { mutator = m; op = call }) ∷ tagged m calls

abbrev pub flat : ℕ → List (List Op) → List Call
flat m [] = []
flat m (ops ∷ lists) = tagged m ops ++ flat (m + 1) lists

pub tagged-length : (m : ℕ) (ops : List Op) → length (tagged m ops) ≡ length ops
tagged-length m [] = refl
tagged-length m (call ∷ ops) = omega (arith, tagged-length m ops)

pub flat-length : (m : ℕ) (lists : List (List Op)) → length (flat m lists) ≡ lists_length lists
flat-length m [] = refl
flat-length m (ops ∷ lists) =
    omega (arith, length-append (tagged m ops) (flat (m + 1) lists), tagged-length m ops, flat-length (m + 1) lists)

ops-append : (k : ℕ) (a b : List Call) → ops_of k (a ++ b) ≡ ops_of k a ++ ops_of k b
ops-append k [] b = refl
ops-append k (call ∷ calls) b =
    let e : ops_of k (calls ++ b) ≡ ops_of k calls ++ ops_of k b = ops-append k calls b in
    elim (call.mutator == k)
    as (λ t. cond t (call.op ∷ ops_of k (calls ++ b)) (ops_of k (calls ++ b))
    ≡ cond t (call.op ∷ ops_of k calls) (ops_of k calls) ++ ops_of k b)
    [ true ↦ ap (λ ops. call.op ∷ ops) e | false ↦ e ]

ops-own : (m : ℕ) (ops : List Op) → ops_of m (tagged m ops) ≡ ops
ops-own m [] = refl
ops-own m (call ∷ ops) =
    let t : (m == m) ≡ true = eq-eqb m m refl in
    rw t (ap (λ ops. call ∷ ops) (ops-own m ops))

ops-other : (k m : ℕ) (ops : List Op) → (m == k) ≡ false → ops_of k (tagged m ops) ≡ []
ops-other k m [] h = refl
ops-other k m (call ∷ ops) h = rw h (ops-other k m ops h)

ops-below : (k m : ℕ) (lists : List (List Op)) → k < m → ops_of k (flat m lists) ≡ []
ops-below k m [] h = refl
ops-below k m (ops ∷ lists) h =
    let t : (m == k) ≡ false = grind (arith, common_steps, nat_tests) in
    let a : ops_of k (tagged m ops) ≡ [] = ops-other k m ops t in
    let b : ops_of k (flat (m + 1) lists) ≡ [] = ops-below k (m + 1) lists (omega arith) in
    ops-append k (tagged m ops) (flat (m + 1) lists) ∙ (let r : ops_of k (tagged m ops) ++ ops_of k (flat (m + 1) lists) ≡ [] = rw (a, b) refl in r)

ops-flat : (j m : ℕ) (lists : List (List Op)) → ops_of (m + j) (flat m lists) ≡ get_or lists j []
ops-flat j m [] = refl
ops-flat zero m (ops ∷ lists) =
    let z : m + 0 ≡ m = omega arith in
    let a : ops_of m (tagged m ops) ≡ ops = ops-own m ops in
    let b : ops_of m (flat (m + 1) lists) ≡ [] = ops-below m (m + 1) lists (omega arith) in
    let r : ops_of m (tagged m ops) ++ ops_of m (flat (m + 1) lists) ≡ ops = rw (a, b) (append-nil ops) in
    rw z (ops-append m (tagged m ops) (flat (m + 1) lists) ∙ r)
ops-flat (suc j) m (ops ∷ lists) =
    let t : (m == m + suc j) ≡ false = grind (arith, common_steps, nat_tests) in
    let z : m + suc j ≡ (m + 1) + j = omega arith in
    let a : ops_of (m + suc j) (tagged m ops) ≡ [] = ops-other (m + suc j) m ops t in
    let b : ops_of (m + suc j) (flat (m + 1) lists) ≡ get_or lists j [] = rw z (ops-flat j (m + 1) lists) in
    let r : ops_of (m + suc j) (tagged m ops) ++ ops_of (m + suc j) (flat (m + 1) lists) ≡ get_or lists j [] = rw (a, b) refl in
    ops-append (m + suc j) (tagged m ops) (flat (m + 1) lists) ∙ r

lists-take : (k : ℕ) (lists : List (List Op)) → k ≤ length lists → lists_of k (flat 0 lists) ≡ take k lists
lists-take zero lists h = refl
lists-take (suc k) lists h =
    let a : lists_of k (flat 0 lists) ≡ take k lists = lists-take k lists (omega arith) in
    let z : 0 + k ≡ k = omega arith in
    let b : ops_of k (flat 0 lists) ≡ get_or lists k [] = rw z at (ops-flat k 0 lists) in
    let r : lists_of k (flat 0 lists) ++ ops_of k (flat 0 lists) ∷ [] ≡ take k lists ++ get_or lists k [] ∷ [] = rw (a, b) refl in
    r ∙ sym (take-suc lists k [] (omega arith))

pub lists-flat : (k : ℕ) (lists : List (List Op)) → length lists ≡ k → lists_of k (flat 0 lists) ≡ lists
lists-flat k lists h = lists-take k lists (omega arith) ∙ take_all k lists (omega arith)
