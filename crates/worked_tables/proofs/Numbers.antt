-- A session that gave numbers away and took their sessions in again has all numbers.
use Rattle.std.proofs.Common.{◌≡◌, ◌≢◌, ℕ, ◌+◌, ◌≤◌, ◌==◌, Bool, List, [], ◌∷◌, ◌++◌, true, false, if◌then◌else◌, nat_lt, refl, sym, ap, ◌∙◌, arith}
use Rattle.std.proofs.lemmas.Bool.Decides.{nat_tests}
use Rattle.entry_base.specs.Lists.{count_in, without_one}
use Rattle.entry_base.specs.Views.{numbers_below}
use Rattle.entry_base.proofs.OpenKeeps.{bit, count_numbers}
use Rattle.entry_base.proofs.Sums.{count_append, count_without}

each_there : (m : ℕ) → m ≤ 12 → count_in m (numbers_below 13) ≡ 1
each_there m low = count_numbers 13 m ∙ ap bit (let t : nat_lt m 13 ≡ true = grind (arith, nat_tests) in t)

other_count : (k n : ℕ) → n ≢ k → count_in k (n ∷ []) ≡ 0
other_count k n differ = go (k == n) refl
  where
    go : (b : Bool) → (k == n) ≡ b → (if b then 1 else 0) + 0 ≡ 0
    go true is = absurd (differ (let e : k ≡ n = grind (arith, nat_tests) in sym e))
    go false is = refl

pub none_given : (v : List ℕ) → v ≡ numbers_below 13 → (m : ℕ) → m ≤ 12 → 1 ≤ count_in m v
none_given v whole m low = let t = each_there m low in let c = ap (count_in m) whole in omega arith

pub one_back : (v u w : List ℕ) (n : ℕ) → n ≤ 12 → v ≡ without_one n (numbers_below 13) → u ≡ n ∷ [] → w ≡ v ++ u → (m : ℕ) → m ≤ 12 → 1 ≤ count_in m w
one_back v u w n there left right joined m low =
    let t = each_there m low in
    let o = each_there n there in
    let a = count_without n (numbers_below 13) m (let z = o in omega arith) in
    let b = count_append m v u in
    let c = ap (count_in m) joined in
    let d = ap (count_in m) left in
    let e = ap (count_in m) right in
    omega arith

pub two_back : (v u x w y : List ℕ) (n k : ℕ) → n ≤ 12 → k ≤ 12 → n ≢ k → v ≡ without_one k (without_one n (numbers_below 13)) → u ≡ n ∷ [] → x ≡ k ∷ []
    → w ≡ v ++ u → y ≡ w ++ x → (m : ℕ) → m ≤ 12 → 1 ≤ count_in m y
two_back v u x w y n k one two differ left first second joined all m low =
    let t = each_there m low in
    let o = each_there n one in
    let a = count_without n (numbers_below 13) m (let z = o in omega arith) in
    let p = each_there k two in
    let q = count_without n (numbers_below 13) k (let z = o in omega arith) in
    let r : count_in k (n ∷ []) ≡ 0 = other_count k n differ in
    let a' = count_without k (without_one n (numbers_below 13)) m (let z = p in let z' = q in let z'' = r in omega arith) in
    let b = count_append m v u in
    let b' = count_append m w x in
    let c = ap (count_in m) joined in
    let c' = ap (count_in m) all in
    let d = ap (count_in m) left in
    let e = ap (count_in m) first in
    let e' = ap (count_in m) second in
    omega arith

pub four_back : (v a b c d w x y z : List ℕ) → v ≡ 12 ∷ 11 ∷ 10 ∷ 9 ∷ 8 ∷ 7 ∷ 6 ∷ 5 ∷ 4 ∷ [] → a ≡ 0 ∷ [] → b ≡ 1 ∷ [] → c ≡ 2 ∷ [] → d ≡ 3 ∷ []
    → w ≡ v ++ a → x ≡ w ++ b → y ≡ x ++ c → z ≡ y ++ d → (m : ℕ) → m ≤ 12 → 1 ≤ count_in m z
four_back v a b c d w x y z left zero one two three first second third fourth m low =
    let t = each_there m low in
    let high : List ℕ = 12 ∷ 11 ∷ 10 ∷ 9 ∷ 8 ∷ 7 ∷ 6 ∷ 5 ∷ 4 ∷ [] in
    let e : count_in m (numbers_below 13) ≡ count_in m high + count_in m (3 ∷ 2 ∷ 1 ∷ 0 ∷ []) = count_append m high (3 ∷ 2 ∷ 1 ∷ 0 ∷ []) in
    let f : count_in m (3 ∷ 2 ∷ 1 ∷ 0 ∷ []) ≡ count_in m (3 ∷ []) + count_in m (2 ∷ 1 ∷ 0 ∷ []) = count_append m (3 ∷ []) (2 ∷ 1 ∷ 0 ∷ []) in
    let g : count_in m (2 ∷ 1 ∷ 0 ∷ []) ≡ count_in m (2 ∷ []) + count_in m (1 ∷ 0 ∷ []) = count_append m (2 ∷ []) (1 ∷ 0 ∷ []) in
    let h : count_in m (1 ∷ 0 ∷ []) ≡ count_in m (1 ∷ []) + count_in m (0 ∷ []) = count_append m (1 ∷ []) (0 ∷ []) in
    let i = count_append m v a in
    let j = count_append m w b in
    let k = count_append m x c in
    let l = count_append m y d in
    let n = ap (count_in m) left in
    let o = ap (count_in m) zero in
    let p = ap (count_in m) one in
    let q = ap (count_in m) two in
    let r = ap (count_in m) three in
    let s = ap (count_in m) first in
    let u = ap (count_in m) second in
    let a' = ap (count_in m) third in
    let b' = ap (count_in m) fourth in
    omega arith
