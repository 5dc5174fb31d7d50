-- What holds of each element of a list by its place, when one is added.
use Rattle.std.proofs.Common.{◌≡◌, ℕ, zero, suc, ◌+◌, ◌<◌, List, [], ◌∷◌, ◌++◌, length, get_or, sym, ap, subst, arith, length-append}

pub placed_push : {A : Type 0} (P : ℕ → A → Type 0) (xs : List A) (x : A) → ((i : ℕ) (d : A) → i < length xs → P i (get_or xs i d)) → P (length xs) x
    → (i : ℕ) (d : A) → i < length xs + 1 → P i (get_or (xs ++ x ∷ []) i d)
placed_push P [] x each here zero d low = here
placed_push P [] x each here (suc i) d low = absurd (omega (arith, low))
placed_push P (y ∷ ys) x each here zero d low = each 0 d (omega arith)
placed_push P (y ∷ ys) x each here (suc i) d low = placed_push (λ k. P (suc k)) ys x (λ k e below. each (suc k) e (omega (arith, below))) here i d (omega (arith, low))

-- the same of a list that is known as one with an element added
pub placed_pushed : {A : Type 0} (P : ℕ → A → Type 0) (xs later : List A) (n : ℕ) (x : A) → later ≡ xs ++ x ∷ [] → length xs ≡ n
    → ((i : ℕ) (d : A) → i < n → P i (get_or xs i d)) → P n x → (i : ℕ) (d : A) → i < n + 1 → P i (get_or later i d)
placed_pushed {A} P xs later n x is long each here i d low = subst (λ (ys : List A). P i (get_or ys i d)) (sym is)
    (placed_push P xs x (λ k e below. each k e (omega (arith, below, long))) (subst (λ k. P k x) (sym long) here) i d (omega (arith, low, long)))

-- the place of an element is below the length
pub place_below : {A : Type 0} (xs rest all : List A) (x : A) → xs ++ x ∷ rest ≡ all → length xs < length all
place_below xs rest all x is = let l = ap length is in let m = length-append xs (x ∷ rest) in omega arith
