-- Lists of numbers: how often each stands in one, and that a list in which each stands at most once is no longer than a bound on
-- its numbers.
use Rattle.std.proofs.Common.{◌≡◌, ◌≢◌, ℕ, zero, suc, ◌+◌, ◌<◌, ◌≤◌, List, [], ◌∷◌, ◌++◌, length, refl, sym, subst, inl, inr, arith}
use Rattle.std.proofs.lemmas.Bool.Decides.{eqb_tells, nat_tests}
use Rattle.entry_base.specs.Lists.{Each, count_in}

pub count_cons : (q x : ℕ) (xs : List ℕ) → count_in q (x ∷ xs) ≡ count_in q (x ∷ []) + count_in q xs
count_cons q x xs = omega arith

pub count_one : (x : ℕ) → count_in x (x ∷ []) ≡ 1
count_one x = grind (arith, nat_tests)

count_past : (q x : ℕ) (xs : List ℕ) → q ≢ x → count_in q (x ∷ xs) ≡ count_in q xs
count_past q x xs apart = grind (arith, nat_tests)

count_here : (x : ℕ) (xs : List ℕ) → count_in x (x ∷ xs) ≡ 1 + count_in x xs
count_here x xs = grind (arith, nat_tests)

pub length_snoc : (xs : List ℕ) (x : ℕ) → length (xs ++ x ∷ []) ≡ length xs + 1
length_snoc [] x = refl
length_snoc (y ∷ ys) x = let r = length_snoc ys x in omega arith

-- how many of the numbers stand below a bound
abbrev below : ℕ → List ℕ → ℕ
below zero xs = 0
below (suc n) xs = count_in n xs + below n xs

below_none : (n : ℕ) → below n [] ≡ 0
below_none zero = refl
below_none (suc n) = let r = below_none n in omega arith

below_past : (n x : ℕ) (xs : List ℕ) → n ≤ x → below n (x ∷ xs) ≡ below n xs
below_past zero x xs past = refl
below_past (suc n) x xs past =
    let rest = below_past n x xs (omega (arith, past)) in
    let here = count_past n x xs (λ same. omega (arith, past, same)) in
    omega arith

below_here : (n x : ℕ) (xs : List ℕ) → x < n → below n (x ∷ xs) ≡ 1 + below n xs
below_here zero x xs low = absurd (omega (arith, low))
below_here (suc n) x xs low = elim (eqb_tells x n) [
  | inl same ↦ subst (λ y. count_in n (y ∷ xs) + below n (y ∷ xs) ≡ 1 + (count_in n xs + below n xs)) (sym same.1)
      (let rest = below_past n n xs (omega arith) in let here = count_here n xs in omega arith)
  | inr apart ↦
      let ne = apart.1 in
      let rest = below_here n x xs (omega (arith, low, ne)) in
      let here = count_past n x xs (λ same. ne (sym same)) in
      omega arith
]

below_length : (n : ℕ) (xs : List ℕ) → Each (λ x. x < n) xs → below n xs ≡ length xs
below_length n [] low = below_none n
below_length n (x ∷ xs) low = let here = below_here n x xs low.0 in let rest = below_length n xs low.1 in omega arith

below_few : (n : ℕ) (xs : List ℕ) → ((q : ℕ) → count_in q xs ≤ 1) → below n xs ≤ n
below_few zero xs once = omega arith
below_few (suc n) xs once = let here = once n in let rest = below_few n xs once in omega arith

pub length_few : (n : ℕ) (xs : List ℕ) → Each (λ x. x < n) xs → ((q : ℕ) → count_in q xs ≤ 1) → length xs ≤ n
length_few n xs low once = let all = below_length n xs low in let few = below_few n xs once in omega arith
