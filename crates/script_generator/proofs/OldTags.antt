-- The list of all old tags is the one that has each of them once, ascending.
use Rattle.std.proofs.Common.{◌≡◌, ℕ, zero, suc, ◌<◌, ◌≤◌, ◌⊎◌, ◌==◌, Bool, true, false, cond, List, [], ◌∷◌, ◌++◌, length, filter, count_ones, get_or, refl, ap, sym, ◌∙◌, subst, arith, inl, inr, All, AllPairs, Contains}
use Rattle.std.specs.List.Sorted.{IsStrictlyIncreasing}
use Rattle.std.proofs.lemmas.Bool.{cases_eq, eqb-true, eq-eqb}
use Rattle.std.proofs.lemmas.List.{append-nil}
use Rattle.std.proofs.lemmas.List.Elements.{All-nil, All-push, Contains-push, Contains-append_left, filter-append}
use Rattle.std.proofs.lemmas.List.Kept.{AllPairs-from_increasing, AllPairs-filter}
use Rattle.std.proofs.lemmas.List.Quantifiers.{all_pairs_push}
use lib.Count.{ones, ones_in}
use Rattle.tag_set.specs.Tag.{IsTag, IsOldTag}
use Rattle.script_generator.specs.Generated.{first_numbers, old_tags}
use Rattle.script_generator.proofs.Counting.{first_numbers-none, first_numbers-suc}

abbrev is_old : ℕ → Bool
is_old byte = count_ones byte == 4

-- the old tags below n
abbrev old_below : ℕ → List ℕ
old_below n = filter is_old (first_numbers n)

old_below-none : old_below 0 ≡ []
old_below-none = ap (filter is_old) first_numbers-none

old_below-suc : (n : ℕ) → old_below (suc n) ≡ old_below n ++ cond (is_old n) (n ∷ []) []
old_below-suc n = ap (filter is_old) (first_numbers-suc n) ∙ filter-append is_old (first_numbers n) (n ∷ [])

All-one_more : (n : ℕ) (xs : List ℕ) (b : Bool) → is_old n ≡ b → n < 256 → All IsOldTag xs
    → All IsOldTag (xs ++ cond b (n ∷ []) [])
All-one_more n xs true e h each = All-push IsOldTag xs n each (h, eqb-true (count_ones n) 4 e)
All-one_more n xs false e h each = subst (All IsOldTag) (sym (append-nil xs)) each

All-old_below : (n : ℕ) → n ≤ 256 → All IsOldTag (old_below n)
All-old_below zero h = subst (All IsOldTag) (sym old_below-none) (All-nil IsOldTag)
All-old_below (suc n) h =
    subst (All IsOldTag) (sym (old_below-suc n))
    (All-one_more n (old_below n) (is_old n) refl (omega (arith, h)) (All-old_below n (omega (arith, h))))

Contains-last : (n : ℕ) → IsOldTag n → Contains (old_below (suc n)) n
Contains-last n old =
    subst (λ xs. Contains xs n)
    (sym (old_below-suc n ∙ ap (λ (b : Bool). old_below n ++ cond b (n ∷ []) []) (eq-eqb (count_ones n) 4 old.1)))
    (Contains-push (old_below n) n)

Contains-old_below : (n byte : ℕ) → byte < n → IsOldTag byte → Contains (old_below n) byte
Contains-old_below zero byte h old = absurd (omega (arith, h))
Contains-old_below (suc n) byte h old = elim (cases_eq byte n) [
  | inl e ↦ subst (λ m. Contains (old_below (suc n)) m) (sym e) (Contains-last n (subst IsOldTag e old))
  | inr other ↦ subst (λ xs. Contains xs byte) (sym (old_below-suc n))
      (Contains-append_left (old_below n) (cond (is_old n) (n ∷ []) []) byte
      (Contains-old_below n byte (omega (arith, h, other)) old))
]

All-below : (n : ℕ) → All (λ m. m < n) (first_numbers n)
All-below zero = subst (All (λ m. m < 0)) (sym first_numbers-none) (All-nil (λ m. m < 0))
All-below (suc n) =
    subst (All (λ m. m < suc n)) (sym (first_numbers-suc n))
    (All-push (λ m. m < suc n) (first_numbers n) n (λ k d h. let b = All-below n k d h in omega (arith, b)) (omega arith))

ascending-first_numbers : (n : ℕ) → AllPairs (λ a b. a < b) (first_numbers n)
ascending-first_numbers zero =
    subst (AllPairs (λ a b. a < b)) (sym first_numbers-none) (λ i j d g h. absurd (omega (arith, h)))
ascending-first_numbers (suc n) =
    subst (AllPairs (λ a b. a < b)) (sym (first_numbers-suc n))
    (all_pairs_push (λ a b. a < b) (first_numbers n) n (ascending-first_numbers n) (All-below n))

-- two ascending lists with the same numbers are equal
Contains-first : (x : ℕ) (xs : List ℕ) → Contains (x ∷ xs) x
Contains-first x xs = (0, omega arith, refl)

Contains-cases : (x : ℕ) (xs : List ℕ) (n : ℕ) → Contains (x ∷ xs) n → (x ≡ n) ⊎ Contains xs n
Contains-cases x xs n (zero, h, e) = inl e
Contains-cases x xs n (suc k, h, e) = inr (k, omega (arith, h), e)

Contains-tail : (x : ℕ) (xs : List ℕ) (n : ℕ) → x < n → Contains (x ∷ xs) n → Contains xs n
Contains-tail x xs n above c = elim (Contains-cases x xs n c) [ inl e ↦ absurd (omega (arith, above, e)) | inr c ↦ c ]

Contains-rest : (x : ℕ) (xs : List ℕ) (n : ℕ) → Contains xs n → Contains (x ∷ xs) n
Contains-rest x xs n (k, h, e) = (suc k, omega (arith, h), e)

not-in-none : (n : ℕ) → Contains [] n → ⊥
not-in-none n (k, h, e) = omega (arith, h)

above-first : (x : ℕ) (xs : List ℕ) (n : ℕ) → AllPairs (λ a b. a < b) (x ∷ xs) → Contains xs n → x < n
above-first x xs n ascending (k, h, e) =
    let above : x < get_or xs k n = ascending 0 (suc k) n (omega arith) (omega (arith, h)) in
    omega (arith, above, e)

AllPairs-tail : (x : ℕ) (xs : List ℕ) → AllPairs (λ a b. a < b) (x ∷ xs) → AllPairs (λ a b. a < b) xs
AllPairs-tail x xs ascending i j d g h = ascending (suc i) (suc j) d (omega (arith, g)) (omega (arith, h))

firsts-equal : (x : ℕ) (xs : List ℕ) (y : ℕ) (ys : List ℕ)
    → AllPairs (λ a b. a < b) (x ∷ xs) → AllPairs (λ a b. a < b) (y ∷ ys)
    → Contains (y ∷ ys) x → Contains (x ∷ xs) y → x ≡ y
firsts-equal x xs y ys asc desc there here = elim (Contains-cases y ys x there) [
  | inl e ↦ sym e
  | inr later ↦ elim (Contains-cases x xs y here) [
    | inl e ↦ e
    | inr early ↦ let a = above-first y ys x desc later in let b = above-first x xs y asc early in
        absurd (omega (arith, a, b))
  ]
]

ascending-unique : (xs ys : List ℕ) → AllPairs (λ a b. a < b) xs → AllPairs (λ a b. a < b) ys
    → ((n : ℕ) → Contains xs n → Contains ys n) → ((n : ℕ) → Contains ys n → Contains xs n) → xs ≡ ys
ascending-unique [] [] asc desc there here = refl
ascending-unique [] (y ∷ ys) asc desc there here = absurd (not-in-none y (here y (Contains-first y ys)))
ascending-unique (x ∷ xs) [] asc desc there here = absurd (not-in-none x (there x (Contains-first x xs)))
ascending-unique (x ∷ xs) (y ∷ ys) asc desc there here =
    let same : x ≡ y = firsts-equal x xs y ys asc desc (there x (Contains-first x xs)) (here y (Contains-first y ys)) in
    let rest : xs ≡ ys = ascending-unique xs ys (AllPairs-tail x xs asc) (AllPairs-tail y ys desc)
    (λ n c. let a = above-first x xs n asc c in Contains-tail y ys n (omega (arith, same, a)) (there n (Contains-rest x xs n c)))
    (λ n c. let a = above-first y ys n desc c in Contains-tail x xs n (omega (arith, same, a)) (here n (Contains-rest y ys n c)))
    in ap (λ z. z ∷ xs) same ∙ ap (λ zs. y ∷ zs) rest

old-of : (xs : List ℕ) (n : ℕ) → All IsOldTag xs → Contains xs n → IsOldTag n
old-of xs n each (k, h, e) = subst IsOldTag e (each k n h)

pub All-old_tags : All IsOldTag old_tags
unfolding old_tags
All-old_tags = All-old_below 256 (omega arith)

Contains-old_tags : (byte : ℕ) → IsOldTag byte → Contains old_tags byte
unfolding old_tags
Contains-old_tags byte old = Contains-old_below 256 byte old.0 old

ascending-old_tags : AllPairs (λ a b. a < b) old_tags
unfolding old_tags
ascending-old_tags = AllPairs-filter (λ a b. a < b) is_old (first_numbers 256) (ascending-first_numbers 256)

pub old_tags-unique : (xs : List ℕ) → All IsOldTag xs → IsStrictlyIncreasing xs
    → ((byte : ℕ) → IsOldTag byte → Contains xs byte) → xs ≡ old_tags
old_tags-unique xs each increasing every =
    ascending-unique xs old_tags (AllPairs-from_increasing xs increasing) ascending-old_tags
    (λ n c. Contains-old_tags n (old-of xs n each c)) (λ n c. every n (old-of old_tags n All-old_tags c))

pub length-old_tags : length old_tags ≡ 70
unfolding old_tags first_numbers ones ones_in
length-old_tags = refl

-- an old tag is a tag
pub IsTag-old : (byte : ℕ) → IsOldTag byte → IsTag byte
unfolding ones ones_in
IsTag-old zero old = absurd (omega (arith, old.1))
IsTag-old (suc n) old = (omega arith, old.0)
