-- The visits of an object's three fields at a pause, as runs of events.
use Rattle.std.proofs.Common.{◌≡◌, ◌⊎◌, ◌+◌, ◌*◌, ◌<◌, ℕ, List, [], ◌∷◌, slice_index, Some, sym, subst, ◌∙◌, inl, inr, arith, refl}
use Rattle.plain_table.specs.declared.events.Space.TheVariants.{External}
use Rattle.plain_table.specs.declared.events.Field.{Field}
use Rattle.plain_table.specs.declared.events.Field.TheVariants as field
use Rattle.plain_table.specs.Index.{index_of}
use Rattle.plain_table.specs.Shapes.{external_field}
use Rattle.plain_table.specs.Places.{object_of}
use Rattle.plain_table.specs.Cycle.{Cycle, IsOld}
use Rattle.plain_table.specs.Table.{Table, Sizes, limit_of}
use Rattle.plain_table.specs.Words.{field_place}
use Rattle.plain_table.specs.Reachable.{Reaches}
use Rattle.plain_table.specs.History.{after}
use Rattle.plain_table.specs.Shows.{Shows}
use Rattle.plain_table.specs.Sound.{IsSound}
use Rattle.table_laws.specs.Steady.{CycleSteady}
use Rattle.sweeper.specs.Marking.{external_visits, trusted_visit, all_visited}
use Rattle.word_laws.specs.Runs.{base_of, marked_after}
use Rattle.sweeper.specs.Small.{AreSmall}
use Rattle.sweeper.specs.Visits.{moved_out, visited}
use Rattle.table_laws.proofs.PauseActs.{mark-visits, pause-visits}
use Rattle.table_laws.proofs.PauseKeeps.{calm-after, kept-after, IsKeptBy}
use Rattle.sweeper.proofs.MoveRuns.{moved-run}
use Rattle.word_laws.proofs.Runs.{mark-runs}
use Rattle.sweeper.proofs.ScanRuns.{IsPartly, partly-none, partly-more, AreSmall-calm}
use Rattle.plain_table.proofs.ObjectFields.{each_field, fields_of}
use Rattle.sweeper.proofs.Visits.{IsVisited, visit-external, visit-trusted}

-- what was old stays old
pub IsOld-steady : (c d : Cycle) (o : ℕ) → CycleSteady c d → IsOld c o → IsOld d o
IsOld-steady c d o steady old =
    subst (λ v. Reaches d.refs d.globals v o) (sym steady.vars)
    (subst (λ g. Reaches d.refs g c.vars o) (sym steady.globals) (subst (λ r. Reaches r c.globals c.vars o) (sym steady.refs) old))

module _ (linked : List ℕ) (s : Table) (c : Cycle) (h : IsSound s) (is : s.cycle ≡ Some c) (small : AreSmall s) (words : List ℕ) (shows : Shows words s) (z : Sizes) (same : s.sizes ≡ z)
    (o : ℕ) (few : o < s.sizes.objects) (old : IsOld c o) (fields : List Field) where
  pub external-in : (number : ℕ) → object_of (field.External number) ≡ o →
      IsVisited linked s o (field.External number) fields (visited words (32 + 8 * z.objects) (z.seg * z.ext) number)
  external-in number of =
      subst (λ w. Visited (moved_out (marked_after words (32 + 8 * z.objects) (z.seg * z.ext) (index_of w)) (32 + 8 * z.objects) (z.seg * z.ext) number (index_of w))) word
      (subst (λ (y : Sizes). Visited (moved_out (marked_after words (32 + 8 * y.objects) (y.seg * y.ext) (index_of (s.words f))) (32 + 8 * z.objects) (z.seg * z.ext) number (index_of (s.words f)))) same visit)
    where
      f : Field
      f = field.External number

      Visited : List ℕ → Type 0
      Visited now = IsVisited linked s o (field.External number) fields now

      word : s.words (field.External number) ≡ slice_index words (field_place (field.External number))
      word = sym (shows.fields (field.External number) (omega (arith, of, few)))

      visit : IsVisited linked s o (field.External number) fields
          (moved_out (marked_after words (base_of s External) (limit_of s External) (index_of (s.words (field.External number)))) (32 + 8 * z.objects) (z.seg * z.ext) number (index_of (s.words (field.External number))))
      visit =
          let marks = mark-runs linked s c h is small words shows o (field.External number) fields of old in
          let acts = pause-visits marks.0 (mark-visits External (index_of (s.words (field.External number))) marks.0 marks.2) in
          let calm = calm-after marks.0 s acts in
          let kept = kept-after marks.0 s c h is acts marks.1.legal in
          let old_after : IsOld kept.cycle (object_of (field.External number)) = IsOld-steady c kept.cycle (object_of (field.External number)) kept.steady (subst (IsOld c) (sym of) old) in
          let marked = marked_after words (base_of s External) (limit_of s External) (index_of (s.words (field.External number))) in
          visit-external linked s c h is small words shows o number fields (moved_out marked (32 + 8 * z.objects) (z.seg * z.ext) number (index_of (s.words (field.External number)))) of old
          (moved-run linked (after s marks.0) kept.cycle kept.sound kept.is (AreSmall-calm s (after s marks.0) calm small) marked marks.1.shows o number fields old_after (s.words (field.External number)) z (calm.sizes ∙ same))

  pub trusted-in : IsVisited linked s o (field.Trusted o) fields (trusted_visit words z o)
  trusted-in =
      subst (λ w. Visited (marked_after words (32 + 8 * z.objects + z.seg * z.ext) (z.seg * z.tru) (index_of w))) word
      (subst (λ (y : Sizes). Visited (marked_after words (32 + 8 * y.objects + y.seg * y.ext) (y.seg * y.tru) (index_of (s.words (field.Trusted o))))) same
      (visit-trusted linked s c h is small words shows o fields old))
    where
      Visited : List ℕ → Type 0
      Visited now = IsVisited linked s o (field.Trusted o) fields now

      word : s.words (field.Trusted o) ≡ slice_index words (field_place (field.Trusted o))
      word = sym (shows.fields (field.Trusted o) few)

-- one field more, at the table that the visits so far left
module _ (linked : List ℕ) (s : Table) (c : Cycle) (h : IsSound s) (is : s.cycle ≡ Some c) (small : AreSmall s) (z : Sizes) (same : s.sizes ≡ z) (o : ℕ) (few : o < s.sizes.objects) (old : IsOld c o)
    (all : List Field) (Done : Field → Type 0) (mid : List ℕ) (fields : List Field) where
  partly-by : (f : Field) (now : List ℕ) (before : IsPartly linked s o all (f ∷ fields) Done mid) →
      ((kept : IsKeptBy s c (after s before.events)) → (after s before.events).sizes ≡ z → AreSmall (after s before.events) → o < (after s before.events).sizes.objects →
      IsOld kept.cycle o → IsVisited linked (after s before.events) o f fields now) →
      IsPartly linked s o all fields (λ g. Done g ⊎ (g ≡ f)) now
  partly-by f now before visit =
      let acts = pause-visits before.events before.acts in
      let calm = calm-after before.events s acts in
      let kept = kept-after before.events s c h is acts before.run.legal in
      partly-more linked s c h is o all fields f Done mid now before
      (visit kept (calm.sizes ∙ same) (AreSmall-calm s (after s before.events) calm small) (subst (λ (y : Sizes). o < y.objects) (sym calm.sizes) few) (IsOld-steady c kept.cycle o kept.steady old))

  pub partly-external : (number : ℕ) → object_of (field.External number) ≡ o → (before : IsPartly linked s o all (field.External number ∷ fields) Done mid) →
      IsPartly linked s o all fields (λ g. Done g ⊎ (g ≡ field.External number)) (visited mid (32 + 8 * z.objects) (z.seg * z.ext) number)
  partly-external number of before =
      partly-by (field.External number) (visited mid (32 + 8 * z.objects) (z.seg * z.ext) number) before
      (λ kept sizes small_after few_after old_after.
      external-in linked (after s before.events) kept.cycle kept.sound kept.is small_after mid before.run.shows z sizes o few_after old_after fields number of)

  pub partly-trusted : (before : IsPartly linked s o all (field.Trusted o ∷ fields) Done mid) → IsPartly linked s o all fields (λ g. Done g ⊎ (g ≡ field.Trusted o)) (trusted_visit mid z o)
  partly-trusted before =
      partly-by (field.Trusted o) (trusted_visit mid z o) before
      (λ kept sizes small_after few_after old_after. trusted-in linked (after s before.events) kept.cycle kept.sound kept.is small_after mid before.run.shows z sizes o few_after old_after fields)

-- the fields that are visited
abbrev pub AreVisited : ℕ → Field → Type 0
AreVisited o g = ((⊥ ⊎ (g ≡ external_field o 0)) ⊎ (g ≡ external_field o 1)) ⊎ (g ≡ field.Trusted o)

pub AreVisited-all : (o : ℕ) (f : Field) → object_of f ≡ o → AreVisited o f
AreVisited-all o = each_field (AreVisited o) o (inl (inl (inr refl))) (inl (inr refl)) (inr refl)

pub visits-run : (linked : List ℕ) (s : Table) (c : Cycle) → IsSound s → s.cycle ≡ Some c → AreSmall s → (words : List ℕ) → Shows words s → (z : Sizes) → s.sizes ≡ z → (o : ℕ) → o < s.sizes.objects → IsOld c o →
    IsPartly linked s o (fields_of o) [] (AreVisited o) (all_visited words z o)
visits-run linked s c h is small words shows z same o few old =
    let base = 32 + 8 * z.objects in
    let limit = z.seg * z.ext in
    let two = external_field o 1 ∷ field.Trusted o ∷ [] in
    let one = field.Trusted o ∷ [] in
    let start = partly-none linked s o (fields_of o) words shows in
    let first = partly-external linked s c h is small z same o few old (fields_of o) (λ f. ⊥) words two (2 * o + 0) (omega arith) start in
    let first_at : IsPartly linked s o (fields_of o) two (λ g. ⊥ ⊎ (g ≡ external_field o 0)) (visited words base limit (2 * o)) =
    subst (λ n. IsPartly linked s o (fields_of o) two (λ g. ⊥ ⊎ (g ≡ external_field o 0)) (visited words base limit n)) (omega arith) first in
    let second = partly-external linked s c h is small z same o few old (fields_of o) (λ g. ⊥ ⊎ (g ≡ external_field o 0)) (visited words base limit (2 * o)) one (2 * o + 1) (omega arith) first_at in
    partly-trusted linked s c h is small z same o few old (fields_of o) (λ g. (⊥ ⊎ (g ≡ external_field o 0)) ⊎ (g ≡ external_field o 1)) (external_visits words z o) [] second
