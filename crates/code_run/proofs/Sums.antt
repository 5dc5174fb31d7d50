-- What lists and lists of lists weigh.
use Rattle.std.proofs.Common.{◌≡◌, ℕ, zero, suc, ◌+◌, ◌≤◌, ◌<◌, List, [], ◌∷◌, ◌++◌, length, get_or, refl, ap, arith}
use Rattle.code_steps.specs.Lists.{Pair, StartsWith, Each, total, list_at, grown_at, in_turn, of_both, stores_from, stores_in, all_stores}
use Rattle.code_steps.specs.declared.view.Store.{Store}
use Rattle.code_steps.proofs.Totals.{total_append}

module _ {A : Type 0} where
  -- in all lists together
  abbrev pub all_total : (A → ℕ) → List (List A) → ℕ
  all_total f ls = total (total f) ls

  pub total_grown : (f : A → ℕ) (ls : List (List A)) (i : ℕ) (more : List A) → i < length ls → all_total f (grown_at ls i more) ≡ all_total f ls + total f more
  total_grown f [] i more low = absurd (omega arith)
  total_grown f (l ∷ ls) zero more low = let a = total_append f l more in omega arith
  total_grown f (l ∷ ls) (suc i) more low = let r = total_grown f ls i more (omega arith) in omega arith

  pub total_at : (f : A → ℕ) (ls : List (List A)) (i : ℕ) → total f (list_at ls i) ≤ all_total f ls
  total_at f [] i = omega arith
  total_at f (l ∷ ls) zero = omega arith
  total_at f (l ∷ ls) (suc i) = let r = total_at f ls i in omega arith

  pub total_both : (f : A → ℕ) (xss yss : List (List A)) → length xss ≡ length yss → all_total f (of_both in_turn xss yss) ≡ all_total f xss + all_total f yss
  total_both f [] [] same = refl
  total_both f [] (y ∷ yss) same = absurd (omega arith)
  total_both f (x ∷ xss) [] same = absurd (omega arith)
  total_both f (x ∷ xss) (y ∷ yss) same = let a = total_append f x y in let r = total_both f xss yss (omega arith) in omega arith

  pub total_starts : (f : A → ℕ) (xs ys : List A) → StartsWith xs ys → total f ys ≤ total f xs
  total_starts f xs ys (r, is) = let a = total_append f ys r in let b : total f xs ≡ total f (ys ++ r) = ap (total f) is in omega arith

  pub total_each_starts : (f : A → ℕ) (xss yss : List (List A)) → length xss ≡ length yss → ((i : ℕ) → StartsWith (list_at xss i) (list_at yss i)) → all_total f yss ≤ all_total f xss
  total_each_starts f [] [] same all = omega arith
  total_each_starts f [] (y ∷ yss) same all = absurd (omega arith)
  total_each_starts f (x ∷ xss) [] same all = absurd (omega arith)
  total_each_starts f (x ∷ xss) (y ∷ yss) same all =
      let a = total_starts f x y (all 0) in
      let r = total_each_starts f xss yss (omega arith) (λ i. all (suc i)) in
      omega arith

  -- each 1
  pub total_ones : (xs : List A) → total (λ _. 1) xs ≡ length xs
  total_ones [] = refl
  total_ones (x ∷ xs) = let r = total_ones xs in omega arith

  pub total_lengths : (ls : List (List A)) → all_total (λ _. 1) ls ≡ total length ls
  total_lengths [] = refl
  total_lengths (l ∷ ls) = let a = total_ones l in let r = total_lengths ls in omega arith

  -- what weighs nothing
  pub total_none : (P : A → Type 0) (f : A → ℕ) → ((x : A) → P x → f x ≡ 0) → (xs : List A) → Each P xs → total f xs ≡ 0
  total_none P f none [] all = refl
  total_none P f none (x ∷ xs) all = let a = none x all.0 in let r = total_none P f none xs all.1 in omega arith

  pub total_all_none : (P : A → Type 0) (f : A → ℕ) → ((x : A) → P x → f x ≡ 0) → (ls : List (List A)) → ((i : ℕ) → i < length ls → Each P (list_at ls i)) → all_total f ls ≡ 0
  total_all_none P f none [] all = refl
  total_all_none P f none (l ∷ ls) all = let a = total_none P f none l (all 0 (omega arith)) in let r = total_all_none P f none ls (λ i low. all (suc i) (omega arith)) in omega arith

  -- where a test weighs nothing, each passes it
  pub each_of_none : (P : A → Type 0) (f : A → ℕ) → ((x : A) → f x ≡ 0 → P x) → (xs : List A) → total f xs ≡ 0 → Each P xs
  each_of_none P f is [] none = tt
  each_of_none P f is (x ∷ xs) none = (is x (omega arith), each_of_none P f is xs (omega arith))

-- the pairs after the first ones, counted and weighed by the pair
from_count : (at seq : ℕ) (l : List Pair) → total (λ (_ : Store). 1) (stores_from at seq l) ≡ length l
from_count at seq [] = refl
from_count at seq (p ∷ ps) = let r = from_count at (seq + 2) ps in omega arith

in_count : (at start : ℕ) (l : List Pair) → 1 ≤ length l → total (λ (_ : Store). 1) (stores_in at start l) + 1 ≡ length l
in_count at start [] some = absurd (omega arith)
in_count at start (p ∷ ps) some = let r = from_count at (start + 2) ps in omega arith

pub all_count : (at start : ℕ) (ls : List (List Pair)) → ((i : ℕ) → i < length ls → 1 ≤ length (list_at ls i)) → total (λ (_ : Store). 1) (all_stores at start ls) + length ls ≡ total length ls
all_count at start [] some = refl
all_count at start (l ∷ ls) some =
    let a = in_count at start l (some 0 (omega arith)) in
    let b = total_append (λ (_ : Store). 1) (stores_in at start l) (all_stores (suc at) start ls) in
    let r = all_count (suc at) start ls (λ i low. some (suc i) (omega arith)) in
    omega arith

from_pairs : (f : Pair → ℕ) (at seq : ℕ) (l : List Pair) → total (λ (x : Store). f (x.code, x.entry)) (stores_from at seq l) ≡ total f l
from_pairs f at seq [] = refl
from_pairs f at seq (p ∷ ps) = let r = from_pairs f at (seq + 2) ps in omega arith

in_pairs : (f : Pair → ℕ) (at start : ℕ) (l : List Pair) → f (get_or l 0 (0, 0)) ≡ 0 → total (λ (x : Store). f (x.code, x.entry)) (stores_in at start l) ≡ total f l
in_pairs f at start [] first = refl
in_pairs f at start (p ∷ ps) first = let r = from_pairs f at (start + 2) ps in omega arith

-- where no opening pair weighs anything, the stores weigh what the pairs weigh
pub all_pairs : (f : Pair → ℕ) (at start : ℕ) (ls : List (List Pair)) → ((i : ℕ) → i < length ls → f (get_or (list_at ls i) 0 (0, 0)) ≡ 0) → total (λ (x : Store). f (x.code, x.entry)) (all_stores at start ls) ≡ all_total f ls
all_pairs f at start [] first = refl
all_pairs f at start (l ∷ ls) first =
    let a = in_pairs f at start l (first 0 (omega arith)) in
    let b = total_append (λ (x : Store). f (x.code, x.entry)) (stores_in at start l) (all_stores (suc at) start ls) in
    let r = all_pairs f (suc at) start ls (λ i low. first (suc i) (omega arith)) in
    omega arith
