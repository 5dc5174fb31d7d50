-- The objects that are shaded and not scanned, each listed once: by the list, and by how often an object stands in it, which is once
-- just where its header says so.
use Rattle.std.proofs.Common.{◌≡◌, ◌≢◌, ◌⊎◌, ℕ, zero, suc, ◌+◌, ◌%◌, ◌<◌, ◌≤◌, ◌==◌, nat_lt, Bool, true, false, List, [], ◌∷◌, length, slice_index, Option, Some, None, if◌then◌else◌, refl, sym, ap, subst, ◌∙◌, inl, inr, arith}
use Rattle.std.specs.Prelude.{◌||◌, nat_le}
use Rattle.std.specs.List.{Contains}
use Rattle.std.proofs.lemmas.Bool.{cases_lt}
use Rattle.std.proofs.lemmas.Bool.Decides.{eqb_tells, nat_tests}
use Rattle.std.proofs.lemmas.List.Elements.{at_from_Contains, Contains-get_or}
use Rattle.plain_table.specs.Cycle.{Cycle}
use Rattle.plain_table.specs.Table.{Sizes, Table}
use Rattle.plain_table.specs.Words.{phase_word}
use Rattle.plain_table.specs.Shows.{IsHeader, IsLawful, IsScanned, IsShaded, Shows}
use Rattle.plain_table.specs.Sound.{IsSound}
use Rattle.entry_base.specs.Hands.{grey}
use Rattle.entry_base.specs.Lists.{Has, count_in}
use Rattle.entry_base.proofs.Sums.{count_self, has_count}
use Rattle.entry_word.specs.Image.{IsValidShape, image_of}
use Rattle.entry_word.specs.declared.image.Image.{Image}
use Rattle.phase_calls.proofs.LinkedObjects.{Contains-has, Has-contains}
use Rattle.sweeper.specs.Late.{AreOwed}
use Rattle.sweeper.specs.Shading.{header_of}
use Rattle.sweeper.proofs.HeaderReads.{header-cases}
use Rattle.mutator_calls.proofs.CycleEnds.{owed-few}

-- how often a number stands in a list
pub has-counted : (xs : List ℕ) (o : ℕ) → Has xs o → 1 ≤ count_in o xs
has-counted [] o has = absurd has
has-counted (x ∷ xs) o (inl same) = let is : (o == x) ≡ true = grind (arith, nat_tests) in let one = ap (λ (t : Bool). (if t then 1 else 0) + count_in o xs) is in omega (arith, one)
has-counted (x ∷ xs) o (inr later) = let rest = has-counted xs o later in omega (arith, rest)

pub contains-counted : (xs : List ℕ) (o : ℕ) → Contains xs o → 1 ≤ count_in o xs
contains-counted xs o there = has-counted xs o (Has-contains xs o there)

pub counted-contains : (xs : List ℕ) (o : ℕ) → 1 ≤ count_in o xs → Contains xs o
counted-contains xs o some = Contains-has xs o (has_count o xs some)

-- where no two places have the same, each stands in it once at most
differ-counted : (xs : List ℕ) (o : ℕ) → ((i j : ℕ) → i < j → j < length xs → slice_index xs i ≢ slice_index xs j) → count_in o xs ≤ 1
differ-counted [] o differ = omega arith
differ-counted (x ∷ xs) o differ =
    let rest = differ-counted xs o (λ i j order within. differ (suc i) (suc j) (omega (arith, order)) (omega (arith, within))) in
    elim (eqb_tells o x) [
      | inl t ↦
          let here = ap (λ (b : Bool). (if b then 1 else 0) + count_in o xs) t.0 in
          elim (cases_lt 0 (count_in o xs)) [
            | inl some ↦
                let at = at_from_Contains xs o (counted-contains xs o some) in
                absurd (differ 0 (suc at.0) (omega arith) (let less = at.1 in omega (arith, less)) (sym t.1 ∙ sym (at.2 0)))
            | inr none ↦ omega (arith, here, none)
          ]
      | inr t ↦ let here = ap (λ (b : Bool). (if b then 1 else 0) + count_in o xs) t.0 in omega (arith, here, rest)
    ]

counted-differ : (xs : List ℕ) → ((o : ℕ) → count_in o xs ≤ 1) → (i j : ℕ) → i < j → j < length xs → slice_index xs i ≢ slice_index xs j
counted-differ [] few i j order within e = omega (arith, within)
counted-differ (x ∷ xs) few zero zero order within e = omega (arith, order)
counted-differ (x ∷ xs) few zero (suc j) order within e =
    let again = contains-counted xs (slice_index xs j) (Contains-get_or xs j 0 (omega (arith, within))) in
    let here = count_self x xs in
    let same : count_in x xs ≡ count_in (slice_index xs j) xs = ap (λ (o : ℕ). count_in o xs) e in
    let once = few x in
    omega (arith, again, here, same, once)
counted-differ (x ∷ xs) few (suc i) zero order within e = omega (arith, order)
counted-differ (x ∷ xs) few (suc i) (suc j) order within e =
    counted-differ xs (λ o. let all = few o in omega (arith, all)) i j (omega (arith, order)) (omega (arith, within)) e

-- headers
or-third : (x y z : Bool) → (x || y || z) ≡ false → z ≡ false
or-third true y z is = absurd (cc)
or-third false true z is = absurd (cc)
or-third false false z is = is

module _ (words : List ℕ) (s : Table) (shows : Shows words s) where
  -- a header is white, or shaded and not scanned, or both
  pub header-any : (o : ℕ) → o < s.sizes.objects → (header_of words o ≡ 0) ⊎ ((header_of words o ≡ 1) × (o < s.count)) ⊎ (header_of words o ≡ 3)
  header-any o few = by s.cycle refl
    where
      by : (cycle : Option Cycle) → s.cycle ≡ cycle → (header_of words o ≡ 0) ⊎ ((header_of words o ≡ 1) × (o < s.count)) ⊎ (header_of words o ≡ 3)
      by None is = inl (subst (λ (cycle : Option Cycle). IsHeader s cycle o (header_of words o)) is (shows.headers o few))
      by (Some c) is = elim (header-cases words s c shows is o few) [
        | inl white ↦ inl white.0
        | inr rest ↦ elim rest [
          | inl grey ↦ inr (inl (grey.0, let fresh : nat_le s.count o ≡ false = or-third (c.scans o) (c.born o) (nat_le s.count o) grey.1 in grind (arith, nat_tests)))
          | inr black ↦ inr (inr black.0)
        ]
      ]

  pub header-idle : s.cycle ≡ None → (o : ℕ) → o < s.sizes.objects → header_of words o ≡ 0
  header-idle is o few = subst (λ (cycle : Option Cycle). IsHeader s cycle o (header_of words o)) is (shows.headers o few)

  pub header-one : (o : ℕ) → o < s.sizes.objects → IsShaded words o → (IsScanned words o → ⊥) → header_of words o ≡ 1
  header-one o few shaded unscanned = elim (header-any o few) [
    | inl white ↦ absurd (omega (arith, white, shaded))
    | inr rest ↦ elim rest [
      | inl one ↦ one.0
      | inr black ↦ absurd (unscanned (omega (arith, black)))
    ]
  ]

  pub header-made : (o : ℕ) → o < s.sizes.objects → header_of words o ≡ 1 → o < s.count
  header-made o few one = elim (header-any o few) [
    | inl white ↦ absurd (omega (arith, white, one))
    | inr rest ↦ elim rest [
      | inl both ↦ both.1
      | inr black ↦ absurd (omega (arith, black, one))
    ]
  ]

abbrev one_at : Bool → ℕ → ℕ
one_at low word = if low then (if word == 1 then 1 else 0) else 0

pub grey-one : (z : Sizes) (words : List ℕ) (o : ℕ) → o < z.objects → header_of words o ≡ 1 → grey z words o ≡ 1
grey-one z words o few one = let low : nat_lt o z.objects ≡ true = grind (arith, nat_tests) in
    ap (λ (t : Bool). one_at t (header_of words o)) low ∙ ap (λ (w : ℕ). one_at true w) one

pub grey-some : (z : Sizes) (words : List ℕ) (o : ℕ) → 1 ≤ grey z words o → (o < z.objects) × (header_of words o ≡ 1)
grey-some z words o some = by (nat_lt o z.objects) refl (header_of words o == 1) refl some
  where
    by : (low : Bool) → nat_lt o z.objects ≡ low → (one : Bool) → (header_of words o == 1) ≡ one → 1 ≤ (if low then (if one then 1 else 0) else 0) → (o < z.objects) × (header_of words o ≡ 1)
    by true low true one some = (grind (arith, nat_tests), grind (arith, nat_tests))
    by true low false one some = absurd (omega (arith, some))
    by false low one is some = absurd (omega (arith, some))

pub grey-few : (z : Sizes) (words : List ℕ) (o : ℕ) → grey z words o ≤ 1
grey-few z words o = by (nat_lt o z.objects) (header_of words o == 1)
  where
    by : (low one : Bool) → (if low then (if one then 1 else 0) else 0) ≤ 1
    by true true = omega arith
    by true false = omega arith
    by false one = omega arith

module _ (words : List ℕ) (z : Sizes) (s : Table) (sound : IsSound s) (same : s.sizes ≡ z) (shows : Shows words s) (xs : List ℕ) where
  objects_are : s.sizes.objects ≡ z.objects
  objects_are = ap (λ (sizes : Sizes). sizes.objects) same

  pub AreOwed-counted : AreOwed words xs → (o : ℕ) → count_in o xs ≡ grey z words o
  AreOwed-counted owed o =
      let few = grey-few z words o in
      let once = differ-counted xs o owed.differ in
      elim (cases_lt 0 (count_in o xs)) [
        | inl some ↦
            let was = owed.owed o (counted-contains xs o some) in
            let made : o < s.count = let m = was.0 in let count = shows.count in omega (arith, m, count) in
            let below : o < s.sizes.objects = let most = sound.objects.few in omega (arith, made, most) in
            let one = grey-one z words o (omega (arith, below, objects_are)) (header-one words s shows o below was.1 was.2) in
            omega (arith, some, once, one)
        | inr none ↦ elim (cases_lt 0 (grey z words o)) [
          | inl some ↦
              let is = grey-some z words o some in
              let below : o < s.sizes.objects = let less = is.0 in omega (arith, less, objects_are) in
              let header = is.1 in
              let made = header-made words s shows o below header in
              let count = shows.count in
              let there = contains-counted xs o (owed.listed o (omega (arith, made, count)) (ap (λ (w : ℕ). w % 2) header) (λ scanned. omega (arith, header, scanned))) in
              absurd (omega (arith, none, there))
          | inr nothing ↦ omega (arith, none, nothing)
        ]
      ]

  pub AreOwed-from_counts : ((o : ℕ) → count_in o xs ≡ grey z words o) → AreOwed words xs
  AreOwed-from_counts counts = record {
    listed = λ o made shaded unscanned.
        let count = shows.count in
        let most = sound.objects.few in
        let below : o < s.sizes.objects = omega (arith, made, count, most) in
        let one = grey-one z words o (omega (arith, below, objects_are)) (header-one words s shows o below shaded unscanned) in
        let is = counts o in
        counted-contains xs o (omega (arith, is, one));
    owed = λ o there.
        let is = counts o in
        let some = contains-counted xs o there in
        let header = grey-some z words o (omega (arith, is, some)) in
        let one = header.1 in
        let less = header.0 in
        let made = header-made words s shows o (omega (arith, less, objects_are)) one in
        let count = shows.count in
        (omega (arith, made, count), ap (λ (w : ℕ). w % 2) one, λ scanned. omega (arith, one, scanned));
    differ = counted-differ xs (λ o. let is = counts o in let few = grey-few z words o in omega (arith, is, few));
  }

-- they are no more than all objects
pub AreOwed-few : (image : Image) → IsValidShape image.shape → IsLawful (image_of image) → (xs : List ℕ) → AreOwed image.words.items xs → length xs ≤ image.shape.objects
AreOwed-few image shape lawful xs owed = by s.cycle refl
  where
    s : Table
    s = lawful.0

    by : (cycle : Option Cycle) → s.cycle ≡ cycle → length xs ≤ image.shape.objects
    by (Some c) is = owed-few image shape lawful (lawful.2.words.phase ∙ ap phase_word is) xs owed
    by None is = elim (cases_lt 0 (length xs)) [
      | inr none ↦ omega (arith, none)
      | inl some ↦
          let o : ℕ = slice_index xs 0 in
          let was = owed.owed o (Contains-get_or xs 0 0 some) in
          let made = was.0 in
          let count = lawful.2.words.count in
          let most = lawful.1.objects.few in
          let white = header-idle image.words.items s lawful.2.words is o (omega (arith, made, count, most)) in
          let shaded = was.1 in
          absurd (omega (arith, white, shaded))
    ]
