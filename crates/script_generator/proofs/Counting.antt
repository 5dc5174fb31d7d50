-- The first numbers, and what is made of each of them.
use Rattle.std.proofs.Common.{◌≡◌, ℕ, zero, suc, ◌+◌, ◌<◌, List, [], ◌∷◌, ◌++◌, length, refl, ap, sym, ◌∙◌, subst, arith, add-one, map}
use Rattle.std.specs.List.{All, flat_map}
use Rattle.std.proofs.lemmas.List.{append-nil, append_assoc, map-append, length-append}
use Rattle.std.proofs.lemmas.List.Elements.{All-nil, All-push, All-append}
use Rattle.std.proofs.lemmas.Grind.{flat_map-append}
use Rattle.script_generator.specs.Generated.{first_numbers}

pub first_numbers-suc : (n : ℕ) → first_numbers (suc n) ≡ first_numbers n ++ n ∷ []
unfolding first_numbers
first_numbers-suc n = refl

pub first_numbers-none : first_numbers 0 ≡ []
unfolding first_numbers
first_numbers-none = refl

pub length-first_numbers : (n : ℕ) → length (first_numbers n) ≡ n
length-first_numbers zero = ap length first_numbers-none
length-first_numbers (suc n) =
    ap length (first_numbers-suc n) ∙ length-append (first_numbers n) (n ∷ []) ∙ omega (arith, length-first_numbers n)

pub map-none : {A : Type 0} (f : ℕ → A) → map f (first_numbers 0) ≡ []
map-none f = ap (map f) first_numbers-none

pub map-suc : {A : Type 0} (f : ℕ → A) (n : ℕ) → map f (first_numbers (suc n)) ≡ map f (first_numbers n) ++ f n ∷ []
map-suc f n = ap (map f) (first_numbers-suc n) ∙ map-append f (first_numbers n) (n ∷ [])

pub flat_map-none : {A : Type 0} (f : ℕ → List A) → flat_map f (first_numbers 0) ≡ []
flat_map-none f = ap (flat_map f) first_numbers-none

pub flat_map-suc : {A : Type 0} (f : ℕ → List A) (n : ℕ)
    → flat_map f (first_numbers (suc n)) ≡ flat_map f (first_numbers n) ++ f n
flat_map-suc f n =
    ap (flat_map f) (first_numbers-suc n) ∙ flat_map-append f (first_numbers n) (n ∷ [])
    ∙ ap (λ xs. flat_map f (first_numbers n) ++ xs) (append-nil (f n))

-- one more place is filled
pub map-pushed : {A : Type 0} (f : ℕ → A) (n : ℕ) (xs : List A) (x : A) (ys : List A)
    → xs ≡ map f (first_numbers n) → x ≡ f n → ys ≡ xs ++ x ∷ [] → ys ≡ map f (first_numbers (n + 1))
map-pushed f n xs x ys filled item pushed =
    pushed ∙ ap (λ zs. zs ++ x ∷ []) filled ∙ ap (λ y. map f (first_numbers n) ++ y ∷ []) item
    ∙ sym (ap (λ k. map f (first_numbers k)) (add-one n) ∙ map-suc f n)

pub flat_map-pushed : {A : Type 0} (f : ℕ → List A) (n : ℕ) (before xs ys : List A)
    → xs ≡ before ++ flat_map f (first_numbers n) → ys ≡ xs ++ f n
    → ys ≡ before ++ flat_map f (first_numbers (n + 1))
flat_map-pushed f n before xs ys filled pushed =
    pushed ∙ ap (λ zs. zs ++ f n) filled ∙ append_assoc before (flat_map f (first_numbers n)) (f n)
    ∙ ap (λ zs. before ++ zs) (sym (ap (λ k. flat_map f (first_numbers k)) (add-one n) ∙ flat_map-suc f n))

-- what holds of what is made of each number holds of all that is made
pub All-map : {A : Type 0} (P : A → Type 0) (f : ℕ → A) (n : ℕ) → ((i : ℕ) → i < n → P (f i))
    → All P (map f (first_numbers n))
All-map P f zero each = subst (All P) (sym (map-none f)) (All-nil P)
All-map P f (suc n) each =
    subst (All P) (sym (map-suc f n))
    (All-push P (map f (first_numbers n)) (f n) (All-map P f n (λ i h. each i (omega (arith, h)))) (each n (omega arith)))

pub All-flat_map : {A : Type 0} (P : A → Type 0) (f : ℕ → List A) (n : ℕ) → ((i : ℕ) → i < n → All P (f i))
    → All P (flat_map f (first_numbers n))
All-flat_map P f zero each = subst (All P) (sym (flat_map-none f)) (All-nil P)
All-flat_map P f (suc n) each =
    subst (All P) (sym (flat_map-suc f n))
    (All-append P (flat_map f (first_numbers n)) (f n) (All-flat_map P f n (λ i h. each i (omega (arith, h)))) (each n (omega arith)))

-- two parts are appended
pub appended-twice : {A : Type 0} (xs ys zs first second : List A)
    → ys ≡ xs ++ first → zs ≡ ys ++ second → zs ≡ xs ++ (first ++ second)
appended-twice xs ys zs first second once twice =
    twice ∙ ap (λ list. list ++ second) once ∙ append_assoc xs first second
