-- What is added up over the views of all seats.
use Rattle.std.proofs.Common.{◌≡◌, ◌≢◌, ℕ, zero, suc, ◌+◌, ◌≤◌, List, [], ◌∷◌, ◌++◌, set, refl, sym, ap, arith}
use mathlib.Core.Option.{some, some-injective, some-ne-none}
use lib.ListN.{get_elem?}
use Rattle.code_steps.specs.Lists.{total}

module _ {V : Type 0} where
  -- after a change of one view
  pub total_set : (f : V → ℕ) (views : List V) (id : ℕ) (v w : V) → get_elem? views id ≡ some v → total f (set views id w) + f v ≡ total f views + f w
  total_set f [] id v w e = absurd (some-ne-none v (sym e))
  total_set f (x ∷ xs) zero v w e = let is : f x ≡ f v = ap f (some-injective x v e) in omega arith
  total_set f (x ∷ xs) (suc i) v w e = let r = total_set f xs i v w e in omega arith

  pub total_append : (f : V → ℕ) (xs ys : List V) → total f (xs ++ ys) ≡ total f xs + total f ys
  total_append f [] ys = omega arith
  total_append f (x ∷ xs) ys = let r = total_append f xs ys in omega arith

  pub total_snoc : (f : V → ℕ) (xs : List V) (w : V) → total f (xs ++ w ∷ []) ≡ total f xs + f w
  total_snoc f xs w = let r = total_append f xs (w ∷ []) in omega arith

  -- one view, and two of different seats, weigh no more than all
  pub among : (f : V → ℕ) (views : List V) (id : ℕ) (v : V) → get_elem? views id ≡ some v → f v ≤ total f views
  among f [] id v e = absurd (some-ne-none v (sym e))
  among f (x ∷ xs) zero v e = let is : f x ≡ f v = ap f (some-injective x v e) in omega arith
  among f (x ∷ xs) (suc i) v e = let r = among f xs i v e in omega arith

  pub both_among : (f : V → ℕ) (views : List V) (i j : ℕ) (v u : V) → i ≢ j → get_elem? views i ≡ some v → get_elem? views j ≡ some u → f v + f u ≤ total f views
  both_among f [] i j v u ne e e' = absurd (some-ne-none v (sym e))
  both_among f (x ∷ xs) zero zero v u ne e e' = absurd (ne refl)
  both_among f (x ∷ xs) zero (suc j) v u ne e e' = let is : f x ≡ f v = ap f (some-injective x v e) in let r = among f xs j u e' in omega arith
  both_among f (x ∷ xs) (suc i) zero v u ne e e' = let is : f x ≡ f u = ap f (some-injective x u e') in let r = among f xs i v e in omega arith
  both_among f (x ∷ xs) (suc i) (suc j) v u ne e e' = let r = both_among f xs i j v u (λ s. ne (ap suc s)) e e' in omega arith

  pub none_weigh : (f : V → ℕ) (views : List V) → ((j : ℕ) (u : V) → get_elem? views j ≡ some u → f u ≡ 0) → total f views ≡ 0
  none_weigh f [] all = refl
  none_weigh f (x ∷ xs) all = let a = all 0 x refl in let r = none_weigh f xs (λ j u e. all (suc j) u e) in omega arith

  -- where one view has all parts, it weighs as much as all, if the views without a part weigh nothing
  pub alone : (parts f : V → ℕ) (views : List V) (id : ℕ) (v : V) → get_elem? views id ≡ some v → total parts views ≡ parts v
      → ((j : ℕ) (u : V) → get_elem? views j ≡ some u → parts u ≡ 0 → f u ≡ 0) → total f views ≡ f v
  alone parts f [] id v e all idle = absurd (some-ne-none v (sym e))
  alone parts f (x ∷ xs) zero v e all idle =
      let is : parts x ≡ parts v = ap parts (some-injective x v e) in
      let is_f : f x ≡ f v = ap f (some-injective x v e) in
      let rest : total f xs ≡ 0 = none_weigh f xs (λ j u at. idle (suc j) u at (let r = among parts xs j u at in omega arith)) in
      omega arith
  alone parts f (x ∷ xs) (suc i) v e all idle =
      let r = among parts xs i v e in
      let none : f x ≡ 0 = idle 0 x refl (omega arith) in
      let rest = alone parts f xs i v e (omega arith) (λ j u at. idle (suc j) u at) in
      omega arith
