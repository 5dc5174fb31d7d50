-- Objects of the hands that are cut off one part after another.
use Rattle.std.proofs.Common.{◌≡◌, ℕ, ◌+◌, ◌-◌, ◌≤◌, List, [], ◌∷◌, ◌++◌, take, drop, slice_range, refl, sym, ap, ◌∙◌, arith, append_assoc, append-nil}
use Rattle.std.proofs.Math.Seq.{take-add}
use Rattle.std.proofs.lemmas.List.Folds.{drop_split}
use Rattle.entry_base.specs.declared.chunks.Chunk.{Chunk}
use Rattle.entry_base.specs.declared.view.View.{View}
use Rattle.entry_base.specs.Lists.{AreIn, count_in, without_all}
use Rattle.entry_base.specs.Views.{cutter}
use Rattle.entry_base.proofs.SplitKeeps.{count_all}
use Rattle.entry_base.proofs.Sums.{count_append}
use Rattle.marker.specs.Steals.{objects_of}
use Rattle.phases.specs.Cuts.{CutOff}

pub CutOff-none : (v : View) → CutOff v [] v
CutOff-none v = record {
  opening = refl;
  number = refl;
  numbers = refl;
  seen = refl;
  vars = refl;
  pending = refl;
  owed = refl;
  fresh = refl;
  facts = refl;
  hands = λ o. omega arith;
  cut = λ o. omega arith;
}

-- some, and then more
pub CutOff-more : (v w x : View) (objects more : List ℕ) → CutOff v objects w → AreIn more w.hands → x ≡ cutter more w → CutOff v (objects ++ more) x
CutOff-more v w x objects more cut within is = record {
  opening = ap (λ (y : View). y.opening) is ∙ cut.opening;
  number = ap (λ (y : View). y.number) is ∙ cut.number;
  numbers = ap (λ (y : View). y.numbers) is ∙ cut.numbers;
  seen = ap (λ (y : View). y.seen) is ∙ cut.seen;
  vars = ap (λ (y : View). y.vars) is ∙ cut.vars;
  pending = ap (λ (y : View). y.pending) is ∙ cut.pending;
  owed = ap (λ (y : View). y.owed) is ∙ cut.owed;
  fresh = ap (λ (y : View). y.fresh) is ∙ cut.fresh;
  facts = ap (λ (y : View). y.facts) is ∙ cut.facts;
  hands = λ o.
      let a = ap (λ (y : View). count_in o y.hands) is in
      let b = count_all more w.hands within o in
      let c = cut.hands o in
      let d = count_append o objects more in
      omega arith;
  cut = λ o.
      let a = ap (λ (y : View). count_in o y.cut) is in
      let b = count_append o more w.cut in
      let c = cut.cut o in
      let d = count_append o objects more in
      omega arith;
}

-- the objects up to a place, with those of a range after it
pub take_range : (xs : List ℕ) (from to : ℕ) → from ≤ to → take to xs ≡ take from xs ++ slice_range xs from to
take_range xs from to low = ap (λ n. take n xs) (let e : to ≡ from + (to - from) = omega arith in e) ∙ take-add from (to - from) xs

-- those from a place on stand in the hands, so those of a range after it do, and when these were cut off the rest still does
module _ (xs hands : List ℕ) (from to : ℕ) (low : from ≤ to) (within : AreIn (drop from xs) hands) where
  counted : (n : ℕ) → count_in n (drop from xs) ≡ count_in n (slice_range xs from to) + count_in n (drop to xs)
  counted n = ap (count_in n) (drop_split xs from to low) ∙ count_append n (slice_range xs from to) (drop to xs)

  pub range_within : AreIn (slice_range xs from to) hands
  range_within n = let c = counted n in let a = within n in omega arith

  pub rest_within : AreIn (drop to xs) (without_all (slice_range xs from to) hands)
  rest_within n = let c = counted n in let a = within n in let d = count_all (slice_range xs from to) hands range_within n in omega arith

pub objects_of-append : (chunks : List Chunk) (chunk : Chunk) → objects_of (chunks ++ chunk ∷ []) ≡ objects_of chunks ++ chunk.objects.items
objects_of-append [] chunk = append-nil chunk.objects.items
objects_of-append (first ∷ chunks) chunk = ap (λ l. first.objects.items ++ l) (objects_of-append chunks chunk) ∙ sym (append_assoc first.objects.items (objects_of chunks) chunk.objects.items)
