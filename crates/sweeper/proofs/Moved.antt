-- After the moves the external words are ready for the last pass, and the fields are rewritten.
use Rattle.std.proofs.Common.{◌≡◌, ◌⊎◌, ◌+◌, ◌/◌, ◌<◌, ◌≤◌, ℕ, true, false, List, length, slice_index, Option, Some, None, IsTrue, refl, sym, ap, ◌∙◌, inl, inr, arith, le-ltb}
use Rattle.std.specs.Prelude.{is_some, unwrap_or, nat_lt}
use Rattle.std.specs.Option.{option_map, option_map_or}
use Rattle.std.proofs.lemmas.Bool.{cases_lt, cases_Bool, both_ways, and_left, and_right, cond-true, cond-false, lt-leb, le-leb}
use Rattle.std.proofs.lemmas.Bool.Decides.{eqb_tells}
use Rattle.std.proofs.lemmas.Option.{none-some}
use Rattle.plain_table.specs.declared.events.Cell.{Cell}
use Rattle.plain_table.specs.declared.events.Space.TheVariants.{External}
use Rattle.plain_table.specs.declared.events.Field.TheVariants as field
use Rattle.plain_table.specs.Index.{index_of, word_of}
use Rattle.plain_table.specs.Area.{greatest_below}
use Rattle.plain_table.specs.Cycle.{Cycle, is_from, moves_from}
use Rattle.plain_table.specs.Table.{Table, limit_of}
use Rattle.plain_table.specs.Finish.{target, swept, rewritten, id_at}
use Rattle.plain_table.specs.Words.{field_place, cell_word}
use Rattle.plain_table.specs.Shows.{SpaceShows}
use Rattle.plain_table.specs.Sound.{IsSound, entries_in}
use Rattle.plain_table.proofs.Options.{IsSome-value, is_some-option_map}
use Rattle.plain_table.proofs.CycleParts.{CycleSound-is}
use Rattle.plain_table.proofs.AreaStarts.{greatest_below-some, greatest_below-lt}
use Rattle.table_laws.proofs.FinishMoves.{swept-from, swept-place, place-is, place-outside, place-target, target-is}
use Rattle.word_laws.specs.Kinds.{is_marked_word}
use Rattle.sweeper.specs.Pass.{stays}
use Rattle.sweeper.specs.Ready.{IsReady}
use Rattle.sweeper.specs.Moves.{external_base, IsMovedAt}
use Rattle.sweeper.specs.Small.{AreSmall}
use Rattle.word_laws.proofs.EntryKinds.{cell-at, cell-kind-at, no_cell-kind-at}
use Rattle.sweeper.proofs.MoveSteps.{target-start, moves_from-start}

none-some_true : (o : Option ℕ) → IsTrue (is_some o) → o ≡ None → ⊥
none-some_true o some none = both_ways (is_some o) (ap is_some none) some

-- the area begins below the limit
pub start-within : (s : Table) (c : Cycle) → IsSound s → s.cycle ≡ Some c → (start : ℕ) → c.start ≡ Some start → start < limit_of s External
start-within s c h is start begins =
    let area = (CycleSound-is s c h is).area.segment start begins in
    by (greatest_below (s.used External) (limit_of s External)) refl area.2
  where
    by : (found : Option ℕ) → greatest_below (s.used External) (limit_of s External) ≡ found → start ≤ unwrap_or found 0 → start < limit_of s External
    by None none most = absurd (none-some_true (greatest_below (s.used External) (limit_of s External)) (greatest_below-some (s.used External) (limit_of s External) 0 (h.used.below External 0 (h.used.first External)) (h.used.first External)) none)
    by (Some g) there most = omega (arith, most, greatest_below-lt (s.used External) (limit_of s External) g there)

pub start-below : (s : Table) (c : Cycle) → IsSound s → s.cycle ≡ Some c → (start : ℕ) → moves_from c ≡ Some start → start < limit_of s External
start-below s c h is start moves = start-within s c h is start (moves_from-start c start moves)

pub target-later : (s : Table) (c : Cycle) → IsSound s → s.cycle ≡ Some c → (j i : ℕ) → target c s.words j ≡ Some i → 1 ≤ i
target-later s c h is j i to =
    let t = target-is c s.words j i to in
    let used = h.used.entries i (ap is_some (ap (λ o. entries_in o i) is ∙ t.entry)) in
    elim (eqb_tells i 0) [ inl e ↦ absurd (used.1 e.1) | inr e ↦ omega (arith, e.1) ]

module _ (s : Table) (c : Cycle) (h : IsSound s) (is : s.cycle ≡ Some c) (small : AreSmall s) (start : ℕ) (moves : moves_from c ≡ Some start) (old now : List ℕ)
    (whole : external_base s + limit_of s External ≤ length old)
    (freelist committed : ℕ) (shows : SpaceShows s External (λ i. slice_index old (external_base s + i)) freelist committed)
    (moved : IsMovedAt s c start old now 1) where
  abbrev entry : ℕ → ℕ
  entry i = slice_index now (external_base s + i)

  abbrev was : ℕ → ℕ
  was i = slice_index old (external_base s + i)

  marked-cell : (i : ℕ) → c.marks External i ≡ true → (cell : Cell) × (s.cells External i ≡ Some cell)
  marked-cell i marked =
      IsSome-value (s.cells External i) (sym (is_some-option_map (λ (cell : Cell). cell.id) (s.cells External i)) ∙ (CycleSound-is s c h is).marks.cells External i marked)

  -- no cell moves to a marked index
  marked-free : (i j : ℕ) → c.marks External i ≡ true → target c s.words j ≡ Some i → ⊥
  marked-free i j marked to =
      let t = target-is c s.words j i to in
      let none : id_at s External i ≡ None = (h.used.entries i (ap is_some (ap (λ o. entries_in o i) is ∙ t.entry))).2 in
      both_ways (is_some (id_at s External i)) (ap is_some none) ((CycleSound-is s c h is).marks.cells External i marked)

  outside-is : (i : ℕ) → i < start → is_from (moves_from c) i ≡ false
  outside-is i less = ap (λ o. is_from o i) moves ∙ lt-leb start i less

  first-later : (i : ℕ) (cell : Cell) → s.cells External i ≡ Some cell → 1 ≤ i
  first-later i cell stands =
      let used = h.used.cells External i (ap (λ found. is_some (option_map (λ (c : Cell). c.id) found)) stands) in
      elim (eqb_tells i 0) [ inl e ↦ absurd (used.1 e.1) | inr e ↦ omega (arith, e.1) ]

  inside : {i : ℕ} → i < start → i < limit_of s External
  inside less = omega (arith, less, start-below s c h is start moves)

  pub IsReady-moved : IsReady s c External entry start
  IsReady-moved = record { cells = cells; others = others; null = moved.lower 0 (omega arith) ∙ shows.null }
    where
      cells : (i : ℕ) (cell : Cell) → swept s c External i ≡ Some cell → (i < start) × (entry i ≡ cell_word cell true)
      cells i cell sweeps =
          let came = swept-from s c External i cell sweeps in
          elim (place-is c s.words External came.index i came.place_is) [
            | inl stay ↦
                let stands : s.cells External i ≡ Some cell = ap (s.cells External) (sym stay.same) ∙ came.cell_is in
                let marked : c.marks External i ≡ true = ap (c.marks External) (sym stay.same) ∙ stay.marked in
                let below : i < start = not_from i (ap (is_from (moves_from c)) (sym stay.same) ∙ stay.outside refl) in (
                  below,
                  moved.left i (first-later i cell stands) below (λ j to. marked-free i j marked to)
                      ∙ cell-at s c h is small External was freelist committed shows i cell stands ∙ ap (cell_word cell) marked,
                )
            | inr goes ↦
                let t = target-is c s.words came.index i goes.to in
                let limits = target-start s c h is small start moves old whole came.index i goes.to in (
                  limits.0,
                  moved.filled i came.index (later came.index i goes.to) goes.to
                      ∙ cell-at s c h is small External was freelist committed shows came.index cell came.cell_is ∙ ap (cell_word cell) t.marked,
                )
          ]
        where
          not_from : (i : ℕ) → is_from (moves_from c) i ≡ false → i < start
          not_from i out = elim (cases_lt i start) [
            | inl less ↦ less
            | inr more ↦ absurd (both_ways (is_from (moves_from c) i) out (ap (λ o. is_from o i) moves ∙ le-leb start i more))
          ]

          later : (j i : ℕ) → target c s.words j ≡ Some i → 1 ≤ i
          later j i to =
              let t = target-is c s.words j i to in
              let used = h.used.entries i (ap is_some (ap (λ o. entries_in o i) is ∙ t.entry)) in
              elim (eqb_tells i 0) [ inl e ↦ absurd (used.1 e.1) | inr e ↦ omega (arith, e.1) ]

      others : (i : ℕ) → swept s c External i ≡ None → stays entry start i ≡ false
      others i none = elim (cases_lt i start) [
        | inr past ↦ and_left (nat_lt i start) (is_marked_word (entry i)) (le-ltb i start past)
        | inl below ↦ and_right (nat_lt i start) (is_marked_word (entry i)) (ap is_marked_word (same below) ∙ unmarked below (s.cells External i) refl)
      ]
        where
          no_source : (j : ℕ) → target c s.words j ≡ Some i → ⊥
          no_source j to =
              let cell = marked-cell j (target-is c s.words j i to).marked in
              none-some cell.0 (sym none ∙ swept-place s c h is External j i (place-target c s.words j i to) ∙ cell.1)

          same : i < start → entry i ≡ was i
          same below = elim (eqb_tells i 0) [
            | inl e ↦ moved.lower i (omega (arith, e.1))
            | inr e ↦ moved.left i (omega (arith, e.1)) below (λ j to. no_source j to)
          ]

          unmarked : i < start → (found : Option Cell) → s.cells External i ≡ found → is_marked_word (was i) ≡ false
          unmarked below None stands = (no_cell-kind-at s c h is small External was freelist committed shows i (inside below) stands).is_marked
          unmarked below (Some cell) stands = elim (cases_Bool (c.marks External i)) [
            | inl marked ↦
                let kept : swept s c External i ≡ Some cell =
                swept-place s c h is External i i (place-outside c s.words i (outside-is i below) ∙ cond-true (c.marks External i) (Some i) None marked) ∙ stands in
                absurd (none-some cell (sym none ∙ kept))
            | inr off ↦ (cell-kind-at s c h is small External was freelist committed shows i cell stands).is_marked ∙ off
          ]

  -- the fields after the moves
  pub fields-moved : (n : ℕ) → n / 2 < s.sizes.objects → slice_index now (field_place (field.External n)) ≡ rewritten c s.words (field.External n)
  fields-moved n few = elim (cases_Bool (c.visited n)) [
    | inl seen ↦
        let visit = (CycleSound-is s c h is).area.visits n seen in
        moved.followed visit.0 n (later visit.0 (ap is_some (ap (λ o. entries_in o visit.0) is ∙ visit.1))) visit.1
    | inr unseen ↦
        by unseen (moved.fields n few)
        ∙ sym (cond-false (c.visited n) (option_map_or word_of (target c s.words (index_of (s.words (field.External n)))) (s.words (field.External n))) (s.words (field.External n)) unseen)
  ]
    where
      later : (e : ℕ) → IsTrue (is_some (entries_in s.cycle e)) → 1 ≤ e
      later e there =
          let used = h.used.entries e there in
          elim (eqb_tells e 0) [ inl first ↦ absurd (used.1 first.1) | inr first ↦ omega (arith, first.1) ]

      by : c.visited n ≡ false →
          (slice_index now (field_place (field.External n)) ≡ s.words (field.External n))
          ⊎ ((t : ℕ) × (1 ≤ t) × (target c s.words (index_of (s.words (field.External n))) ≡ Some t) × IsTrue (c.visited n) × (slice_index now (field_place (field.External n)) ≡ word_of t)) →
          slice_index now (field_place (field.External n)) ≡ s.words (field.External n)
      by unseen (inl same) = same
      by unseen (inr r) = absurd (both_ways (c.visited n) unseen r.3)
