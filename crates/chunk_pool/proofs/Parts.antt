-- The thieves that a thief is, those that have seen the end, and what one thief that is all of them took.
use Rattle.std.proofs.Common.{◌≡◌, ℕ, zero, suc, ◌+◌, ◌-◌, ◌≤◌, ◌||◌, if◌then◌else◌, Bool, true, false, List, [], ◌∷◌, refl, sym, ap, arith}
use mathlib.Core.Option.{some, some-injective, some-ne-none}
use lib.ListN.{get_elem?}
use Rattle.entry_base.specs.Lists.{total}
use Rattle.entry_base.proofs.Sums.{among}
use Rattle.chunk_pool.specs.declared.claims.Claims.{Claims}
use Rattle.chunk_pool.specs.Rule.{parts, ends}

-- no more thieves have seen the end than there are
pub total_ends : (views : List Claims) → total ends views ≤ total parts views
total_ends [] = omega arith
total_ends (x ∷ xs) = let r = total_ends xs in let a = one x.ended x.joined in omega arith
  where
    one : (b : Bool) (n : ℕ) → (if b then n else 0) ≤ n
    one true n = omega arith
    one false n = omega arith

pub ends_both : (a b : Bool) (m n : ℕ) → (if a then m else 0) + (if b then n else 0) ≤ (if a || b then m + n else 0)
ends_both true true m n = omega arith
ends_both true false m n = omega arith
ends_both false true m n = omega arith
ends_both false false m n = omega arith

pub ends_parted : (b : Bool) (n : ℕ) → 2 ≤ n → (if b then n else 0) ≡ (if b then n - 1 else 0) + (if b then 1 else 0)
ends_parted true n l = omega arith
ends_parted false n l = refl

-- what weighs nothing in each view weighs nothing
pub total_none : (f : Claims → ℕ) (views : List Claims) → ((j : ℕ) (u : Claims) → get_elem? views j ≡ some u → f u ≡ 0) → total f views ≡ 0
total_none f [] all = refl
total_none f (x ∷ xs) all = let a = all 0 x refl in let r = total_none f xs (λ j u e. all (suc j) u e) in omega arith

-- a thief that is all of them has all that they took
pub total_alone : (f : Claims → ℕ) (views : List Claims) (id : ℕ) (v : Claims) → get_elem? views id ≡ some v → total parts views ≡ parts v
    → ((j : ℕ) (u : Claims) → get_elem? views j ≡ some u → parts u ≡ 0 → f u ≡ 0) → total f views ≡ f v
total_alone f [] id v e all idle = absurd (some-ne-none v (sym e))
total_alone f (x ∷ xs) zero v e all idle =
    let is : parts x ≡ parts v = ap parts (some-injective x v e) in
    let is_f : f x ≡ f v = ap f (some-injective x v e) in
    let rest : total f xs ≡ 0 = total_none f xs (λ j u at. idle (suc j) u at (let r = among parts xs j u at in omega arith)) in
    omega arith
total_alone f (x ∷ xs) (suc i) v e all idle =
    let r = among parts xs i v e in
    let none : f x ≡ 0 = idle 0 x refl (omega arith) in
    let rest = total_alone f xs i v e (omega arith) (λ j u at. idle (suc j) u at) in
    omega arith
