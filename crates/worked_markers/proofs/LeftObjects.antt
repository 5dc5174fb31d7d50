-- The object that late marking is handed: the one that is left.
use Rattle.std.proofs.Common.{◌≡◌, ℕ, zero, suc, ◌%◌, ◌/◌, ◌<◌, List, [], ◌∷◌, slice_index, Some, sym, ap, subst, ◌∙◌, arith}
use Rattle.std.specs.List.{Contains}
use Rattle.plain_table.specs.Shows.{IsShaded, IsScanned}
use Rattle.plain_table.specs.Words.{count_place, header_place}
use Rattle.sweeper.specs.Late.{AreOwed}
use Rattle.worked_markers.specs.Left.{IsLeft}

only : (q o : ℕ) → Contains (q ∷ []) o → q ≡ o
only q o (zero, less, is) = is
only q o (suc k, less, is) = absurd (omega (arith, less))

pub AreOwed-one : (words : List ℕ) (q : ℕ) → IsLeft words (Some q) (slice_index words count_place) → q < slice_index words count_place → slice_index words (header_place q) ≡ 1 → AreOwed words (q ∷ [])
AreOwed-one words q left made header = record {
  listed = λ o low shaded white. let is : Some q ≡ Some o = left o low shaded white in (0, omega arith, cc);
  owed = λ o there. let is : q ≡ o = only q o there in (subst (λ (n : ℕ). n < slice_index words count_place) is made, subst (IsShaded words) is grey, subst (λ (n : ℕ). IsScanned words n → ⊥) is unscanned);
  differ = λ i j order less. absurd (omega (arith, order, less));
}
  where
    grey : IsShaded words q
    grey = ap (λ (w : ℕ). w % 2) header

    unscanned : IsScanned words q → ⊥
    unscanned is = let bad : 0 ≡ 1 = sym (ap (λ (w : ℕ). w / 2 % 2) header) ∙ is in absurd (omega (arith, bad))
