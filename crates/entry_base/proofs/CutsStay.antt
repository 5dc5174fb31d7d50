-- What chunks have, sessions cut off: after a step, after a split and a cut, after a join and an absorption, and at the end.
use Rattle.std.proofs.Common.{◌≡◌, ◌≢◌, ℕ, zero, suc, ◌+◌, ◌≤◌, ◌⊎◌, List, [], ◌∷◌, ◌++◌, set, refl, sym, ap, subst, ◌∙◌, ⊎_elim, inl, inr, arith}
use Rattle.std.proofs.lemmas.Bool.{cases_lt}
use mathlib.Core.Option.{some, some-ne-none, some-injective}
use lib.ListN.{get_elem?}
use Rattle.entry_base.specs.declared.view.View.{View}
use Rattle.entry_base.specs.Lists.{total, count_in}
use Rattle.entry_base.specs.Hands.{CutsKept, cut_off, loose, where_none, where_some}
use Rattle.entry_base.specs.Numbers.{HasNumber, NumbersKept}
use Rattle.plain_table.specs.declared.events.Event.{Event}
use Rattle.entry_base.proofs.Sums.{among, both_among, count_append, count_self, total_append, total_set}

-- a view with a number has nothing loose, and a count where there is a number is the count at most
not_loose : (o n : ℕ) (v : View) → HasNumber v n → loose o v ≡ 0
not_loose o n v has = go v.numbers has
  where
    go : (ns : List ℕ) → 1 ≤ count_in n ns → where_none ns (count_in o v.hands) ≡ 0
    go [] h = absurd (omega (arith, h))
    go (m ∷ ms) h = refl

all_cut : (o n : ℕ) (v : View) → HasNumber v n → cut_off o v ≡ count_in o v.cut
all_cut o n v has = go v.numbers has
  where
    go : (ns : List ℕ) → 1 ≤ count_in n ns → where_some ns (count_in o v.cut) ≡ count_in o v.cut
    go [] h = absurd (omega (arith, h))
    go (m ∷ ms) h = refl

where_some-below : (ns : List ℕ) (n : ℕ) → where_some ns n ≤ n
where_some-below [] n = omega arith
where_some-below (m ∷ ms) n = omega arith

-- after a step, whose view keeps its numbers and what it cut off; it has a number, or its hands stay too
pub cuts_set : (views : List View) (id : ℕ) (v w : View) → get_elem? views id ≡ some v → CutsKept views → w.numbers ≡ v.numbers → w.cut ≡ v.cut
    → HasNumber v v.number ⊎ (w.hands ≡ v.hands) → CutsKept (set views id w)
cuts_set views id v w at was numbers cut sits = λ o.
    let a = total_set (loose o) views id v w at in
    let b = total_set (cut_off o) views id v w at in
    let c = was o in
    let d : cut_off o w ≡ cut_off o v = λ i. where_some (numbers i) (count_in o (cut i)) in
    let e : loose o w ≤ loose o v = ⊎_elim
    (λ (own : HasNumber v v.number). let z = not_loose o v.number w (subst (λ ns. 1 ≤ count_in v.number ns) (sym numbers) own) in omega arith)
    (λ (same : w.hands ≡ v.hands). let z : loose o w ≡ loose o v = λ i. where_none (numbers i) (count_in o (same i)) in omega arith) sits in
    omega arith

-- after one view became two
pub cuts_part : (views : List View) (id : ℕ) (v left right : View) → get_elem? views id ≡ some v → CutsKept views
    → ((o : ℕ) → loose o left + loose o right + cut_off o v ≤ loose o v + cut_off o left + cut_off o right) → CutsKept (set views id left ++ right ∷ [])
cuts_part views id v left right at was change = λ o.
    let a = total_set (loose o) views id v left at in
    let b = total_append (loose o) (set views id left) (right ∷ []) in
    let c = total_set (cut_off o) views id v left at in
    let d = total_append (cut_off o) (set views id left) (right ∷ []) in
    let e = was o in
    let f = change o in
    omega arith

-- both have a number, and one has what was cut off before
pub split_cuts : (o n m : ℕ) (v left right : View) → HasNumber left n → HasNumber right m → left.cut ≡ v.cut
    → loose o left + loose o right + cut_off o v ≤ loose o v + cut_off o left + cut_off o right
split_cuts o n m v left right has other cut =
    let a = not_loose o n left has in
    let b = not_loose o m right other in
    let c : cut_off o left ≡ count_in o v.cut = all_cut o n left has ∙ ap (count_in o) cut in
    let d = where_some-below v.numbers (count_in o v.cut) in
    omega arith

-- one has a number, and the other got what it cut off
pub chunk_cuts : (o n : ℕ) (objects : List ℕ) (v left right : View) → HasNumber left n → right.numbers ≡ [] → right.hands ≡ objects → left.cut ≡ objects ++ v.cut
    → loose o left + loose o right + cut_off o v ≤ loose o v + cut_off o left + cut_off o right
chunk_cuts o n objects v left right has none hands cut =
    let a = not_loose o n left has in
    let b : loose o right ≡ count_in o objects = λ i. where_none (none i) (count_in o (hands i)) in
    let c : cut_off o left ≡ count_in o (objects ++ v.cut) = all_cut o n left has ∙ ap (count_in o) cut in
    let d = count_append o objects v.cut in
    let e = where_some-below v.numbers (count_in o v.cut) in
    omega arith

-- after two views became one
pub cuts_join : (views : List View) (id : ℕ) (v : View) (other : ℕ) (u w left : View) → get_elem? views id ≡ some v → get_elem? (set views id w) other ≡ some u → CutsKept views
    → ((o : ℕ) → loose o w ≤ loose o v + loose o u) → ((o : ℕ) → cut_off o v + cut_off o u ≤ cut_off o w) → ((o : ℕ) → loose o left ≡ 0) → CutsKept (set (set views id w) other left)
cuts_join views id v other u w left at there was less more none = λ o.
    let a = total_set (loose o) views id v w at in
    let b = total_set (loose o) (set views id w) other u left there in
    let c = total_set (cut_off o) views id v w at in
    let d = total_set (cut_off o) (set views id w) other u left there in
    let e = was o in
    let f = less o in
    let g = more o in
    let h = none o in
    omega arith

pub both_loose : (o : ℕ) (ns ms xs ys : List ℕ) → where_none (ns ++ ms) (count_in o (xs ++ ys)) ≤ where_none ns (count_in o xs) + where_none ms (count_in o ys)
both_loose o [] [] xs ys = let a = count_append o xs ys in omega arith
both_loose o [] (m ∷ ms) xs ys = omega arith
both_loose o (n ∷ ns) ms xs ys = omega arith

pub both_cut : (o : ℕ) (ns ms xs ys : List ℕ) → where_some ns (count_in o xs) + where_some ms (count_in o ys) ≤ where_some (ns ++ ms) (count_in o (xs ++ ys))
both_cut o [] [] xs ys = omega arith
both_cut o [] (m ∷ ms) xs ys = let a = count_append o xs ys in omega arith
both_cut o (n ∷ ns) [] xs ys = let a = count_append o xs ys in omega arith
both_cut o (n ∷ ns) (m ∷ ms) xs ys = let a = count_append o xs ys in omega arith

-- a chunk has no number
pub chunk_loose : (o : ℕ) (ns ms xs ys : List ℕ) → ms ≡ [] → where_none ns (count_in o (xs ++ ys)) ≤ where_none ns (count_in o xs) + where_none ms (count_in o ys)
chunk_loose o [] ms xs ys none = let a = count_append o xs ys in let b : where_none ms (count_in o ys) ≡ count_in o ys = ap (λ ls. where_none ls (count_in o ys)) none in omega arith
chunk_loose o (n ∷ ns) ms xs ys none = omega arith

pub chunk_cut : (o : ℕ) (ns ms xs ys : List ℕ) → ms ≡ [] → where_some ns (count_in o xs) + where_some ms (count_in o ys) ≤ where_some ns (count_in o xs)
chunk_cut o ns ms xs ys none = let b : where_some ms (count_in o ys) ≡ 0 = ap (λ ls. where_some ls (count_in o ys)) none in omega arith

-- at the end: a total is that of one view, and of what the others count
module _ {V : Type 0} where
  total_less : (f g : V → ℕ) (views : List V) → ((j : ℕ) (u : V) → get_elem? views j ≡ some u → f u ≤ g u) → total f views ≤ total g views
  total_less f g [] less = omega arith
  total_less f g (x ∷ xs) less = let a = less 0 x refl in let r = total_less f g xs (λ j u at. less (suc j) u at) in omega arith

  total_but : (f g : V → ℕ) (views : List V) (id : ℕ) (v : V) → get_elem? views id ≡ some v → ((j : ℕ) (u : V) → j ≢ id → get_elem? views j ≡ some u → f u ≤ g u)
      → total f views ≤ f v + total g views
  total_but f g [] id v at less = absurd (some-ne-none v (sym at))
  total_but f g (x ∷ xs) zero v at less =
      let is : f x ≡ f v = ap f (some-injective x v at) in
      let r = total_less f g xs (λ j u there. less (suc j) u (λ e. absurd (omega (arith, e))) there) in
      omega arith
  total_but f g (x ∷ xs) (suc i) v at less =
      let a = less 0 x (λ e. absurd (omega (arith, e))) refl in
      let r = total_but f g xs i v at (λ j u ne there. less (suc j) u (λ e. ne (let s : j ≡ i = omega (arith, e) in s)) there) in
      omega arith

  total_none : (views : List V) → total (λ u. 0) views ≡ 0
  total_none [] = refl
  total_none (x ∷ xs) = let r = total_none xs in omega arith

none_in : (ns : List ℕ) → ((n : ℕ) → count_in n ns ≡ 0) → ns ≡ []
none_in [] none = refl
none_in (n ∷ ns) none = absurd (let a = none n in let b = count_self n ns in omega arith)

-- where one view has all numbers, its hands and what it cut off have all hands
module _ (log : List Event) (views : List View) (id : ℕ) (v : View) (numbers : NumbersKept log views) (at : get_elem? views id ≡ some v) (all : (n : ℕ) → n ≤ 12 → HasNumber v n) where
  no_numbers : (j : ℕ) (u : View) → j ≢ id → get_elem? views j ≡ some u → u.numbers ≡ []
  no_numbers j u ne there = none_in u.numbers (λ n. elim (cases_lt 12 n) [
    | inl past ↦ let a = among (λ (x : View). count_in n x.numbers) views j u there in let b = numbers.none n past in omega arith
    | inr low ↦
        let a = both_among (λ (x : View). count_in n x.numbers) views id j v u (λ e. ne (sym e)) at there in
        let b = numbers.one n low in
        let c = all n low in
        omega arith
  ])

  pub hands_or_cut : CutsKept views → (o : ℕ) → total (λ (x : View). count_in o x.hands) views ≤ count_in o v.hands + count_in o v.cut
  hands_or_cut kept o =
      let a = total_but (λ (x : View). count_in o x.hands) (loose o) views id v at (λ j u ne there.
      let z : loose o u ≡ count_in o u.hands = ap (λ ns. where_none ns (count_in o u.hands)) (no_numbers j u ne there) in omega arith) in
      let b = total_but (cut_off o) (λ (x : View). 0) views id v at (λ j u ne there.
      let z : cut_off o u ≡ 0 = ap (λ ns. where_some ns (count_in o u.cut)) (no_numbers j u ne there) in omega arith) in
      let c = total_none views in
      let d = kept o in
      let e = not_loose o 12 v (all 12 (omega arith)) in
      let f = where_some-below v.numbers (count_in o v.cut) in
      omega arith
