-- The objects that are shaded and not scanned leave room for all white ones.
use Rattle.std.proofs.Common.{◌≡◌, ◌≢◌, ◌+◌, ◌<◌, ◌≤◌, ◌==◌, ℕ, zero, suc, Bool, true, false, not, List, [], ◌∷◌, length, slice_index, refl, sym, ap, ◌∙◌, arith, eq-eqb, ne_eqb}
use Rattle.std.specs.Prelude.{if◌then◌else◌}
use Rattle.std.proofs.lemmas.List.Elements.{Contains-get_or}
use Rattle.plain_table.specs.Area.{count_below}
use Rattle.plain_table.proofs.FreeLists.{count_below-less}
use Rattle.sweeper.specs.Late.{OwedObjectsLeaveRoom}
use Rattle.sweeper.specs.Shading.{header_of, is_white}

-- a list of different members of a set is no longer than the set
without : (ℕ → Bool) → ℕ → ℕ → Bool
without set x k = if k == x then false else set k

without-here : (set : ℕ → Bool) (x : ℕ) → without set x x ≡ false
unfolding without
without-here set x = ap (λ (b : Bool). if b then false else set x) (eq-eqb x x refl)

without-there : (set : ℕ → Bool) (x k : ℕ) → (k ≡ x → ⊥) → without set x k ≡ set k
unfolding without
without-there set x k apart = ap (λ (b : Bool). if b then false else set k) (ne_eqb k x apart)

pub count-members : (xs : List ℕ) (set : ℕ → Bool) (n : ℕ) → ((j : ℕ) → j < length xs → (slice_index xs j < n) × (set (slice_index xs j) ≡ true)) →
    ((i j : ℕ) → i < j → j < length xs → slice_index xs i ≢ slice_index xs j) → length xs ≤ count_below set n
count-members [] set n are differ = omega arith
count-members (x ∷ xs) set n are differ =
    let first : (x < n) × (set x ≡ true) = are 0 (omega arith) in
    let fewer : count_below set n ≡ count_below (without set x) n + 1 = count_below-less set (without set x) n x first.0 first.1 (without-here set x) (λ k apart. without-there set x k (λ e. apart (sym e))) in
    let rest = count-members xs (without set x) n
    (λ j less.
    let is = are (suc j) (omega (arith, less)) in
    (is.0, without-there set x (slice_index xs j) (λ e. differ 0 (suc j) (omega arith) (omega (arith, less)) (sym e)) ∙ is.1))
    (λ i j order less. differ (suc i) (suc j) (omega (arith, order)) (omega (arith, less))) in
    omega (arith, fewer, rest)

count-both : (set : ℕ → Bool) (n : ℕ) → count_below set n + count_below (λ k. not (set k)) n ≡ n
count-both set zero = omega arith
count-both set (suc n) = let before = count-both set n in by (set n) before
  where
    by : (b : Bool) → count_below set n + count_below (λ k. not (set k)) n ≡ n → count_below set n + (if b then 1 else 0) + (count_below (λ k. not (set k)) n + (if not b then 1 else 0)) ≡ suc n
    by true before = omega (arith, before)
    by false before = omega (arith, before)

pub OwedObjectsLeaveRoom-holds : OwedObjectsLeaveRoom
OwedObjectsLeaveRoom-holds words shaded n owed fits =
    let members = count-members shaded (λ o. not (is_white words o)) n
    (λ j less.
    let is = owed.owed (slice_index shaded j) (Contains-get_or shaded j 0 less) in
    (omega (arith, is.0, fits), ap not (ne_eqb (header_of words (slice_index shaded j)) 0 (λ e. omega (arith, e, is.1))))) owed.differ in
    omega (arith, members, count-both (is_white words) n)
