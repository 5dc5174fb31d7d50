-- The marking invariant after a step: where no header changes, where an object is shaded, and where one is scanned.
use Rattle.std.proofs.Common.{◌≡◌, ◌≢◌, ◌⊎◌, ℕ, ◌/◌, ◌%◌, ◌<◌, Bool, true, false, List, length, slice_index, slice_set, Option, Some, None, IsTrue, IfSome, refl, sym, ap, subst, ◌∙◌, inl, inr, arith}
use Rattle.std.specs.Prelude.{if◌then◌else◌}
use Rattle.std.proofs.lemmas.Bool.{cases_Bool}
use Rattle.std.proofs.lemmas.Bool.Decides.{eqb_tells}
use Rattle.plain_table.specs.Cycle.{Cycle, IsOld}
use Rattle.plain_table.specs.Table.{Table, Sizes}
use Rattle.plain_table.specs.Words.{header_place, header_word}
use Rattle.plain_table.specs.Shows.{IsShaded, IsScanned, IsCoveredIn, IsCovered}
use Rattle.word_laws.specs.CoverLaws.{StaysOld, IsStep, IsClear, CoveredWordsStay, HasSameReferences, ShadedWordsStayCovered, ScannedWordsStayCovered}
use Rattle.word_laws.proofs.WordChanges.{Changed, Changed-slice_set}

-- from what holds of the cycle before a step to what holds of the one after it
IfSome-step : (P Q R : Cycle → Type 0) (before after : Option Cycle) → StaysOld before after → IfSome before P → IfSome after R →
    ((c d : Cycle) → ((o : ℕ) → IsOld c o → IsOld d o) → P c → R d → Q d) → IfSome after Q
IfSome-step P Q R before None old was now f = tt
IfSome-step P Q R None (Some d) old was now f = absurd old
IfSome-step P Q R (Some c) (Some d) old was now f = f c d old was now

-- the bits of the word of a shaded header
pub header_word-odd : (scanned : Bool) → header_word true scanned % 2 ≡ 1
header_word-odd true = refl
header_word-odd false = refl

pub header_word-half : (shaded scanned : Bool) → header_word shaded scanned / 2 % 2 ≡ (if scanned then 1 else 0)
header_word-half true true = refl
header_word-half true false = refl
header_word-half false true = refl
header_word-half false false = refl

-- no header changes
module _ (words later : List ℕ) (s t : Table) (step : IsStep s t)
    (heads : (o : ℕ) → o < s.sizes.objects → slice_index later (header_place o) ≡ slice_index words (header_place o)) where
  made : (o : ℕ) → o < t.sizes.objects → o < s.sizes.objects
  made o below = subst (λ (x : Sizes). o < x.objects) step.sizes below

  IsCoveredIn-same : (c d : Cycle) → ((o : ℕ) → IsOld c o → IsOld d o) → IsCoveredIn words s c →
      ((o k : ℕ) → o < s.sizes.objects → (t.refs o k ≡ s.refs o k) ⊎ IsClear later (t.refs o k)) → IsCoveredIn later t d
  IsCoveredIn-same c d old was refs = record {
    references = λ o k q below scanned holds.
        let low = made o below in
        elim (refs o k low) [
          | inr clear ↦ subst (IsClear later) holds clear
          | inl same ↦
              let held : s.refs o k ≡ Some q = sym same ∙ holds in
              ap (λ w. w % 2) (heads q (step.within o k q held)) ∙ was.references o k q low (ap (λ w. w / 2 % 2) (sym (heads o low)) ∙ scanned) held
        ];
    owed = λ o below shaded unscanned.
        let low = made o below in
        old o (was.owed o low (ap (λ w. w % 2) (sym (heads o low)) ∙ shaded) (λ scanned. unscanned (ap (λ w. w / 2 % 2) (heads o low) ∙ scanned)));
  }

pub CoveredWordsStay-step : CoveredWordsStay
CoveredWordsStay-step words later s t step heads refs covered =
    IfSome-step _ _ _ s.cycle t.cycle step.old covered refs (IsCoveredIn-same words later s t step heads)

-- the header of one object changes: it is shaded after it, and where its new word says that it is scanned, it was so
-- before or its references are clear, and where it does not, the object is old
module _ (words : List ℕ) (s t : Table) (m : ℕ) (scanned : Bool) (step : IsStep s t) (refs : HasSameReferences s t) (within : header_place m < length words)
    (clear : IsTrue scanned → IsScanned words m ⊎ ((k : ℕ) → IsClear words (s.refs m k))) where
  abbrev later : List ℕ
  later = slice_set words (header_place m) (header_word true scanned)

  change : Changed words later (header_place m) (header_word true scanned)
  change = Changed-slice_set words (header_place m) (header_word true scanned) within

  there : (o : ℕ) → o ≢ m → slice_index later (header_place o) ≡ slice_index words (header_place o)
  there o apart = change.there (header_place o) (λ same. apart (omega (arith, same)))

  shaded_here : IsShaded later m
  shaded_here = ap (λ w. w % 2) change.here ∙ header_word-odd scanned

  scanned_here : IsTrue scanned → IsScanned later m
  scanned_here is = ap (λ w. w / 2 % 2) change.here ∙ header_word-half true scanned ∙ ap (λ (b : Bool). if b then 1 else 0) is

  is_scanned : IsScanned later m → IsTrue scanned
  is_scanned says = elim (cases_Bool scanned) [
    | inl is ↦ is
    | inr isnt ↦
        let zero_bit : slice_index later (header_place m) / 2 % 2 ≡ 0 =
        ap (λ w. w / 2 % 2) change.here ∙ header_word-half true scanned ∙ ap (λ (b : Bool). if b then 1 else 0) isnt in
        absurd (omega (arith, zero_bit, says))
  ]

  stays_shaded : (q : ℕ) → IsShaded words q → IsShaded later q
  stays_shaded q was = elim (eqb_tells q m) [
    | inl e ↦ subst (IsShaded later) (sym e.1) shaded_here
    | inr e ↦ ap (λ w. w % 2) (there q e.1) ∙ was
  ]

  IsCoveredIn-header : (c d : Cycle) → ((o : ℕ) → IsOld c o → IsOld d o) → IsCoveredIn words s c → (IsTrue scanned ⊎ IsOld c m) → IsCoveredIn later t d
  IsCoveredIn-header c d old was due = record {
    references = λ o k q below says holds.
        let low : o < s.sizes.objects = subst (λ (x : Sizes). o < x.objects) step.sizes below in
        let held : s.refs o k ≡ Some q = sym (refs o k) ∙ holds in
        stays_shaded q (elim (eqb_tells o m) [
          | inl e ↦ elim (clear (is_scanned (subst (IsScanned later) e.1 says))) [
            | inl before ↦ was.references o k q low (subst (IsScanned words) (sym e.1) before) held
            | inr each ↦ subst (IsClear words) (subst (λ x. s.refs x k ≡ Some q) e.1 held) (each k)
          ]
          | inr e ↦ was.references o k q low (ap (λ w. w / 2 % 2) (sym (there o e.1)) ∙ says) held
        ]);
    owed = λ o below shaded unscanned.
        let low : o < s.sizes.objects = subst (λ (x : Sizes). o < x.objects) step.sizes below in
        elim (eqb_tells o m) [
          | inl e ↦ elim due [
            | inl is ↦ absurd (unscanned (subst (IsScanned later) (sym e.1) (scanned_here is)))
            | inr is ↦ old o (subst (IsOld c) (sym e.1) is)
          ]
          | inr e ↦ old o (was.owed o low (ap (λ w. w % 2) (sym (there o e.1)) ∙ shaded) (λ says. unscanned (ap (λ w. w / 2 % 2) (there o e.1) ∙ says)))
        ];
  }

  IsCovered-header : IfSome s.cycle (λ c. IsTrue scanned ⊎ IsOld c m) → IsCovered words s → IsCovered later t
  IsCovered-header due covered = by_cycle s.cycle t.cycle step.old due covered
    where
      by_cycle : (before after : Option Cycle) → StaysOld before after → IfSome before (λ c. IsTrue scanned ⊎ IsOld c m) →
          IfSome before (IsCoveredIn words s) → IfSome after (IsCoveredIn later t)
      by_cycle before None old due was = tt
      by_cycle None (Some d) old due was = absurd old
      by_cycle (Some c) (Some d) old due was = IsCoveredIn-header c d old was due

pub ShadedWordsStayCovered-step : ShadedWordsStayCovered
ShadedWordsStayCovered-step words s t o scanned step refs within due was covered =
    IsCovered-header words s t o scanned step refs within (λ is. inl (was is)) due covered

pub ScannedWordsStayCovered-step : ScannedWordsStayCovered
ScannedWordsStayCovered-step words s t o step refs within clear covered =
    IsCovered-header words s t o true step refs within (λ is. inr clear) (each s.cycle) covered
  where
    each : (cycle : Option Cycle) → IfSome cycle (λ c. IsTrue true ⊎ IsOld c o)
    each None = tt
    each (Some c) = inl refl
