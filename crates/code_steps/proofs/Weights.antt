-- What the stores after the opening pairs weigh.
use Rattle.std.proofs.Common.{◌≡◌, ℕ, zero, suc, ◌+◌, ◌*◌, ◌≤◌, ◌<◌, ◌==◌, nat_lt, Bool, true, false, if◌then◌else◌, List, [], ◌∷◌, ◌++◌, length, refl, ap, ◌∙◌, subst, arith, append-nil}
use Rattle.std.proofs.lemmas.Bool.Decides.{nat_tests}
use Rattle.code_steps.specs.declared.view.Store.{Store}
use Rattle.code_steps.specs.Lists.{Pair, total, Each, StartsWith, list_at, grown_at, store_of, stores_from, stores_in, all_stores, IsSeenStore}
use Rattle.code_steps.proofs.Totals.{total_append}

module _ (h : Store → ℕ) where
  from_snoc : (at seq : ℕ) (l : List Pair) (p : Pair) (n : ℕ) → n ≡ seq + 2 * length l → total h (stores_from at seq (l ++ p ∷ [])) ≡ total h (stores_from at seq l) + h (store_of at n p)
  from_snoc at seq [] p n is = let e : h (store_of at seq p) ≡ h (store_of at n p) = ap (λ (m : ℕ). h (store_of at m p)) (omega arith) in omega arith
  from_snoc at seq (q ∷ l) p n is = let r = from_snoc at (seq + 2) l p n (omega arith) in omega arith

  in_snoc : (at start : ℕ) (l : List Pair) (p : Pair) (n : ℕ) → 1 ≤ length l → n ≡ start + 2 * length l → total h (stores_in at start (l ++ p ∷ [])) ≡ total h (stores_in at start l) + h (store_of at n p)
  in_snoc at start [] p n some is = absurd (omega arith)
  in_snoc at start (q ∷ l) p n some is = from_snoc at (start + 2) l p n (omega arith)

  -- one more pair at the end of one list
  pub all_grown : (at start : ℕ) (ls : List (List Pair)) (i : ℕ) (p : Pair) (k n : ℕ) → i < length ls → 1 ≤ length (list_at ls i) → k ≡ at + i → n ≡ start + 2 * length (list_at ls i)
      → total h (all_stores at start (grown_at ls i (p ∷ []))) ≡ total h (all_stores at start ls) + h (store_of k n p)
  all_grown at start [] i p k n low some is seq = absurd (omega arith)
  all_grown at start (l ∷ ls) zero p k n low some is seq =
      let a = total_append h (stores_in at start (l ++ p ∷ [])) (all_stores (suc at) start ls) in
      let b = total_append h (stores_in at start l) (all_stores (suc at) start ls) in
      let c = in_snoc at start l p n some seq in
      let e : h (store_of at n p) ≡ h (store_of k n p) = ap (λ (m : ℕ). h (store_of m n p)) (omega arith) in
      omega arith
  all_grown at start (l ∷ ls) (suc i) p k n low some is seq =
      let a = total_append h (stores_in at start l) (all_stores (suc at) start (grown_at ls i (p ∷ []))) in
      let b = total_append h (stores_in at start l) (all_stores (suc at) start ls) in
      let r = all_grown (suc at) start ls i p k n (omega arith) some (omega arith) seq in
      omega arith

  from_has : (at seq : ℕ) (l : List Pair) (p : Pair) (rest : List Pair) (n : ℕ) → n ≡ seq + 2 * length l → h (store_of at n p) ≤ total h (stores_from at seq (l ++ p ∷ rest))
  from_has at seq [] p rest n is = let e : h (store_of at seq p) ≡ h (store_of at n p) = ap (λ (m : ℕ). h (store_of at m p)) (omega arith) in omega arith
  from_has at seq (q ∷ l) p rest n is = let r = from_has at (seq + 2) l p rest n (omega arith) in omega arith

  in_has : (at start : ℕ) (l : List Pair) (p : Pair) (rest : List Pair) (n : ℕ) → 1 ≤ length l → n ≡ start + 2 * length l → h (store_of at n p) ≤ total h (stores_in at start (l ++ p ∷ rest))
  in_has at start [] p rest n some is = absurd (omega arith)
  in_has at start (q ∷ l) p rest n some is = from_has at (start + 2) l p rest n (omega arith)

  -- a pair after the first in one list weighs no more than all
  pub all_has : (at start : ℕ) (ls : List (List Pair)) (i : ℕ) (l : List Pair) (p : Pair) (rest : List Pair) (k n : ℕ) → i < length ls → list_at ls i ≡ l ++ p ∷ rest → 1 ≤ length l → k ≡ at + i → n ≡ start + 2 * length l
      → h (store_of k n p) ≤ total h (all_stores at start ls)
  all_has at start [] i l p rest k n low is some here seq = absurd (omega arith)
  all_has at start (x ∷ ls) zero l p rest k n low is some here seq =
      let b = total_append h (stores_in at start x) (all_stores (suc at) start ls) in
      let c = in_has at start l p rest n some seq in
      let d : total h (stores_in at start x) ≡ total h (stores_in at start (l ++ p ∷ rest)) = ap (λ xs. total h (stores_in at start xs)) is in
      let e : h (store_of at n p) ≡ h (store_of k n p) = ap (λ (m : ℕ). h (store_of m n p)) (omega arith) in
      omega arith
  all_has at start (x ∷ ls) (suc i) l p rest k n low is some here seq =
      let b = total_append h (stores_in at start x) (all_stores (suc at) start ls) in
      let r = all_has (suc at) start ls i l p rest k n (omega arith) is some (omega arith) seq in
      omega arith

-- 1 for a store at entry i of this sequence or a later one
abbrev counted : Bool → Bool → ℕ
counted here earlier = if here then (if earlier then 0 else 1) else 0

abbrev from_here : ℕ → ℕ → Store → ℕ
from_here i n x = counted (x.at == i) (nat_lt x.seq n)

none_here : (start i : ℕ) (lists seen : List (List Pair)) (own : List Store) → Each (IsSeenStore start lists seen) own → total (from_here i (start + 2 * length (list_at seen i))) own ≡ 0
none_here start i lists seen [] all = refl
none_here start i lists seen (x ∷ own) all =
    let r = none_here start i lists seen own all.1 in
    let first : from_here i (start + 2 * length (list_at seen i)) x ≡ 0 = go (x.at == i) refl in
    omega arith
  where
    go : (b : Bool) → (x.at == i) ≡ b → counted b (nat_lt x.seq (start + 2 * length (list_at seen i))) ≡ 0
    go true e =
        let same : x.at ≡ i = grind (arith, nat_tests) in
        let seq = all.0.seq in
        let low : all.0.place < length (list_at seen i) = subst (λ (n : ℕ). all.0.place < length (list_at seen n)) same all.0.within in
        let t : nat_lt x.seq (start + 2 * length (list_at seen i)) ≡ true = grind (arith, nat_tests) in
        ap (counted true) t
    go false e = refl

one_here : (i n : ℕ) (p : Pair) → from_here i n (store_of i n p) ≡ 1
one_here i n p = let a : (i == i) ≡ true = grind (arith, nat_tests) in let b : nat_lt n n ≡ false = grind (arith, nat_tests) in (λ j. counted (a j) (b j))

-- who has all stores as own ones, each of which it has seen, has seen each list whole
pub seen_whole : (start : ℕ) (lists seen : List (List Pair)) (own : List Store) → ((weight : Store → ℕ) → total weight own ≡ total weight (all_stores 0 start lists)) → Each (IsSeenStore start lists seen) own
    → (i : ℕ) → i < length lists → 1 ≤ length (list_at seen i) → StartsWith (list_at lists i) (list_at seen i) → list_at lists i ≡ list_at seen i
seen_whole start lists seen own all mine i low some ([], is) = is ∙ append-nil (list_at seen i)
seen_whole start lists seen own all mine i low some (p ∷ rest, is) =
    let n : ℕ = start + 2 * length (list_at seen i) in
    let a = all_has (from_here i n) 0 start lists i (list_at seen i) p rest i n low is some (omega arith) refl in
    let b = one_here i n p in
    let c = none_here start i lists seen own mine in
    let d = all (from_here i n) in
    absurd (omega arith)
