-- An image after a sweep: the cycle may finish, and the variables and pending cells are those of the finished table.
use Rattle.std.proofs.Common.{◌≡◌, ◌⊎◌, ◌+◌, ◌*◌, ◌/◌, ◌%◌, ◌<◌, ◌≤◌, ℕ, Bool, true, false, List, length, slice_index, Option, Some, None, IsTrue, refl, sym, ap, subst, ◌∙◌, inl, inr, arith}
use Rattle.std.specs.Prelude.{is_some, nat_le, nat_lt, ◌||◌, ◌&&◌, slice_index_or, if◌then◌else◌}
use Rattle.std.proofs.lemmas.Bool.{or_cases, both_ways, leb-true, lt-ltb, cond-true, cond-false}
use Rattle.plain_table.specs.Reachable.{Reaches, By_global, By_variable, By_reference}
use Rattle.plain_table.specs.Cycle.{Cycle}
use Rattle.plain_table.specs.Table.{Table, Sizes, limit_of}
use Rattle.plain_table.specs.Finish.{CanFinish, IsReachable, finished, swept, ticket_kept}
use Rattle.plain_table.specs.Words.{object_word, phase_word, header_word, count_place, header_place, entry_place}
use Rattle.plain_table.specs.Sound.{IsSound, IsHidden}
use Rattle.plain_table.specs.Shows.{Image, PendingCell, IsPending, Shows, ImageShows, IsHeader, IsHeaderIn, is_black, IsScanned, IsCovered, IsCoveredIn}
use Rattle.plain_table.proofs.Options.{IfSome-is, IsSomeAnd-is, IsSomeAnd-some, IsSomeAnd-by, IsSome-value}
use Rattle.table_laws.proofs.FinishLaws.{CanFinish-scanned}
use Rattle.plain_table.specs.declared.events.Cell.{Cell}
use Rattle.plain_table.specs.declared.events.Space.TheVariants.{External, Trusted}
use Rattle.table_laws.proofs.FinishMoves.{swept-place, swept-from, place-is}
use Rattle.sweeper.specs.Small.{AreSmall}
use Rattle.word_laws.specs.Kinds.{is_marked_word}
use Rattle.word_laws.proofs.EntryKinds.{cell-kind-at}
use Rattle.plain_table.proofs.SpacesShown.{cell-below}
use Rattle.entry_word.specs.declared.image.Shape.{Shape}
use Rattle.entry_word.specs.Image.{sizes_of}
use Rattle.sweeper.specs.Whole.{IsSmallShape}
use Rattle.plain_table.specs.declared.events.Space.{Space}
use Rattle.sweeper.specs.Images.{IsAllScanned}

module _ (image : Image) (s : Table) (c : Cycle) (h : IsSound s) (is : s.cycle ≡ Some c) (shows : ImageShows image s) (covered : IsCovered image.words s) (all : IsAllScanned image) where
  cover : IsCoveredIn image.words s c
  cover = IfSome-is s.cycle (IsCoveredIn image.words s) c is covered

  -- a scanned bit tells that an object is black
  black-is : (o : ℕ) → o < s.sizes.objects → IsScanned image.words o → is_black s c o ≡ true
  black-is o few scanned = by (is_black s c o) refl
    where
      header : IsHeaderIn s c o (slice_index image.words (header_place o))
      header = subst (λ cycle. IsHeader s cycle o (slice_index image.words (header_place o))) is (shows.words.headers o few)

      none : (shaded : Bool) → header_word shaded false / 2 % 2 ≡ 1 → ⊥
      none true eq = let bad : 0 ≡ 1 = eq in absurd (omega (arith, bad))
      none false eq = let bad : 0 ≡ 1 = eq in absurd (omega (arith, bad))

      by : (black : Bool) → is_black s c o ≡ black → is_black s c o ≡ true
      by true eq = eq
      by false eq = absurd (none header.0 (ap (λ w. w / 2 % 2) (sym (header.1 ∙ ap (header_word header.0) eq)) ∙ scanned))

  count-is : slice_index image.words count_place ≡ s.count
  count-is = shows.words.count

  few-objects : (o : ℕ) → o < s.count → o < s.sizes.objects
  few-objects o less = omega (arith, less, h.objects.few)

  -- each reachable object has its scanned bit
  reach-scanned : (o : ℕ) → Reaches s.refs s.globals s.vars o → (o < s.count) × IsScanned image.words o
  reach-scanned _ (By_global g o there) =
      let root = h.objects.roots g o there in
      (root.1, all.globals g o root.0 (shows.words.globals g root.0 ∙ ap object_word there))
  reach-scanned _ (By_variable b v o there) =
      let root = h.objects.variables b v o there in
      (root.2, all.variables b v o root.0 root.1 (shows.variables.1 b v root.0 root.1 ∙ ap object_word there))
  reach-scanned _ (By_reference o k q from there) =
      let before = reach-scanned o from in
      let held = h.objects.references o k q there in
      (held.2, all.shaded q (omega (arith, held.2, count-is)) (cover.references o k q (few-objects o before.0) before.1 there))

  pub CanFinish-image : CanFinish s c
  CanFinish-image = CanFinish-scanned s c h is reached
    where
      reached : (o : ℕ) → IsReachable s o → IsTrue (c.scans o) ⊎ IsTrue (c.born o)
      reached o reach =
          let there = reach-scanned o reach in
          elim (or_cases (c.scans o || c.born o) (nat_le s.count o) (black-is o (few-objects o there.0) there.1)) [
            | inl known ↦ or_cases (c.scans o) (c.born o) known
            | inr unmade ↦ let more = leb-true s.count o unmade in absurd (omega (arith, more, there.0))
          ]

module _ (image : Image) (s : Table) (c : Cycle) (h : IsSound s) (is : s.cycle ≡ Some c) (small : AreSmall s) (shows : ImageShows image s) where
  abbrev pub kept_by : Option PendingCell → Option PendingCell
  kept_by None = None
  kept_by (Some d) = if nat_lt d.index (limit_of s Trusted) && is_marked_word (slice_index image.words (entry_place s.sizes Trusted d.index)) then Some d else None

  -- the pending cells of marked entries are those of the tickets that are kept
  pub IsPending-kept : (ticket : Option ℕ) (d : Option PendingCell) → ((i : ℕ) → ticket ≡ Some i → IsHidden (s.cells Trusted i)) → IsPending s ticket d → IsPending (finished s c) (ticket_kept s c ticket) (kept_by d)
  IsPending-kept None d hidden was = ap kept_by was
  IsPending-kept (Some i) d hidden was =
      let cell = IsSome-value (s.cells Trusted i) (IsSomeAnd-some (s.cells Trusted i) (λ (c : Cell). c.shown ≡ false) (hidden i refl)) in
      by cell.0 cell.1 (c.marks Trusted i) refl
    where
      entry : ℕ → ℕ
      entry k = slice_index image.words (entry_place s.sizes Trusted k)

      tally : (cell : Cell) → s.cells Trusted i ≡ Some cell → d ≡ Some (record { index = i; tag = cell.tag; value = cell.value })
      tally cell stands = IsSomeAnd-is (s.cells Trusted i) (λ cell. d ≡ Some (record { index = i; tag = cell.tag; value = cell.value })) cell stands was

      test : Bool
      test = nat_lt i (limit_of s Trusted) && is_marked_word (entry i)

      marked-is : (cell : Cell) → s.cells Trusted i ≡ Some cell → test ≡ c.marks Trusted i
      marked-is cell stands =
          let kind = cell-kind-at s c h is small Trusted entry (slice_index image.words 2) shows.words.trusted.0 shows.words.trusted.1 i cell stands in
          ap (λ (b : Bool). b && is_marked_word (entry i)) (lt-ltb i (limit_of s Trusted) (cell-below s Trusted i h (ap is_some stands))) ∙ kind.is_marked

      swept-is : (cell : Cell) → s.cells Trusted i ≡ Some cell → (marked : Bool) → c.marks Trusted i ≡ marked → swept s c Trusted i ≡ (if marked then Some cell else None)
      swept-is cell stands true marked = swept-place s c h is Trusted i i (cond-true (c.marks Trusted i) (Some i) None marked) ∙ stands
      swept-is cell stands false unmarked = nothing (swept s c Trusted i) refl
        where
          nothing : (found : Option Cell) → swept s c Trusted i ≡ found → swept s c Trusted i ≡ None
          nothing None eq = eq
          nothing (Some other) eq =
              let came = swept-from s c Trusted i other eq in
              elim (place-is c s.words Trusted came.index i came.place_is) [
                | inl stay ↦ absurd (both_ways (c.marks Trusted i) unmarked (ap (c.marks Trusted) (sym stay.same) ∙ stay.marked))
                | inr moves ↦ absurd (cc (moves.external))
              ]

      by : (cell : Cell) → s.cells Trusted i ≡ Some cell → (marked : Bool) → c.marks Trusted i ≡ marked → IsPending (finished s c) (ticket_kept s c (Some i)) (kept_by d)
      by cell stands true marked =
          subst (λ (t : Option ℕ). IsPending (finished s c) t (kept_by d)) (sym (ap (λ (found : Option Cell). if is_some found then Some i else None) (swept-is cell stands true marked)))
          (IsSomeAnd-by (swept s c Trusted i) cell (λ cell. kept_by d ≡ Some (record { index = i; tag = cell.tag; value = cell.value })) (swept-is cell stands true marked)
          (ap kept_by (tally cell stands) ∙ cond-true test (Some (record { index = i; tag = cell.tag; value = cell.value })) None (marked-is cell stands ∙ marked)))
      by cell stands false unmarked =
          subst (λ (t : Option ℕ). IsPending (finished s c) t (kept_by d)) (sym (ap (λ (found : Option Cell). if is_some found then Some i else None) (swept-is cell stands false unmarked)))
          (ap kept_by (tally cell stands) ∙ cond-false test (Some (record { index = i; tag = cell.tag; value = cell.value })) None (marked-is cell stands ∙ unmarked))

  -- the image after the sweep shows the finished table
  pub ImageShows-swept : (now : Image) → now.sizes ≡ image.sizes → now.variables ≡ image.variables → Shows now.words (finished s c) → length now.pending ≡ length image.pending →
      ((b : ℕ) (d : Option PendingCell) → b < length image.pending → slice_index_or now.pending b d ≡ kept_by (slice_index_or image.pending b d)) →
      ImageShows now (finished s c)
  ImageShows-swept now sizes variables words long each = record {
    sizes = shows.sizes ∙ sym sizes;
    words = words;
    variables = (ap length variables ∙ shows.variables.0, λ b v few small_v. ap (λ (l : List ℕ). slice_index l (16 * b + v)) variables ∙ shows.variables.1 b v few small_v);
    pending = (
      long ∙ shows.pending.0,
      λ b d few.
          subst (IsPending (finished s c) (ticket_kept s c (s.ticket b))) (sym (each b d (omega (arith, few, shows.pending.0))))
          (IsPending-kept (s.ticket b) (slice_index_or image.pending b d) (h.tickets.hidden b) (shows.pending.1 b d few)),
    );
  }

-- a table whose phase word is 1 is in a cycle
pub cycle-some : (words : List ℕ) (s : Table) → Shows words s → slice_index words 4 ≡ 1 → (c : Cycle) × (s.cycle ≡ Some c)
cycle-some words s shows one = by s.cycle refl
  where
    by : (cycle : Option Cycle) → s.cycle ≡ cycle → (c : Cycle) × (s.cycle ≡ Some c)
    by None is = let bad : 1 ≡ 0 = sym one ∙ shows.phase ∙ ap phase_word is in absurd (omega (arith, bad))
    by (Some c) is = (c, is)

-- a table with the sizes of a small shape is small
pub AreSmall-shape : (shape : Shape) (s : Table) → IsSmallShape shape → s.sizes ≡ sizes_of shape → AreSmall s
AreSmall-shape shape s small same = record {
  seg = subst (λ (z : Sizes). 1 ≤ z.seg) (sym same) small.seg;
  few = few;
  some = some;
  objects = subst (λ (z : Sizes). z.objects ≤ 16384) (sym same) small.objects;
}
  where
    product : (a b : ℕ) → 1 ≤ a → 1 ≤ b → 1 ≤ a * b
    product a b one more = grind arith

    few : (p : Space) → limit_of s p ≤ 65536
    few External = subst (λ (z : Sizes). z.seg * z.ext ≤ 65536) (sym same) small.ext.1
    few Trusted = subst (λ (z : Sizes). z.seg * z.tru ≤ 65536) (sym same) small.tru.1

    some : (p : Space) → 1 ≤ limit_of s p
    some External = subst (λ (z : Sizes). 1 ≤ z.seg * z.ext) (sym same) (product shape.seg shape.ext small.seg small.ext.0)
    some Trusted = subst (λ (z : Sizes). 1 ≤ z.seg * z.tru) (sym same) (product shape.seg shape.tru small.seg small.tru.0)
