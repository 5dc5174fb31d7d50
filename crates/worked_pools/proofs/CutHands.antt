-- Hands of which the first of some objects is cut off.
use Rattle.std.proofs.Common.{◌≡◌, ℕ, ◌+◌, ◌<◌, List, [], ◌∷◌, length, slice_index, drop, sym, ap, ◌∙◌, subst, arith}
use Rattle.std.proofs.lemmas.List.{drop_more}
use Rattle.entry_base.specs.Lists.{AreIn, without_all, without_one}
use Rattle.entry_base.proofs.Sums.{count_self, count_without}

rest_in : (o : ℕ) (rest hands : List ℕ) → AreIn (o ∷ rest) hands → AreIn rest (without_one o hands)
rest_in o rest hands are m =
    let a = are m in
    let s = count_self o rest in
    let b = are o in
    let c = count_without o hands m (omega arith) in
    omega arith

-- the objects after it are in the hands that are left
pub AreIn-cut : (objects : List ℕ) (i : ℕ) (list hands left : List ℕ) → i < length objects → list ≡ slice_index objects i ∷ [] → AreIn (drop i objects) hands
    → left ≡ without_all list hands → AreIn (drop (i + 1) objects) left
AreIn-cut objects i list hands left inside is are cut =
    let first : AreIn (slice_index objects i ∷ drop (i + 1) objects) hands = subst (λ (xs : List ℕ). AreIn xs hands) (drop_more objects i 0 inside) are in
    let rest = rest_in (slice_index objects i) (drop (i + 1) objects) hands first in
    subst (AreIn (drop (i + 1) objects)) (sym (cut ∙ ap (λ (xs : List ℕ). without_all xs hands) is)) rest
