-- Where no cell moves, the words of a space are ready.
use Rattle.std.proofs.Common.{◌≡◌, ◌<◌, ℕ, true, false, Option, Some, None, refl, sym, ap, ◌∙◌, inl, inr}
use Rattle.std.specs.Prelude.{is_some, nat_lt}
use Rattle.std.proofs.lemmas.Bool.{cases_lt, cases_Bool, and_left, and_right, cond-true}
use Rattle.std.proofs.Common.{le-ltb}
use Rattle.std.proofs.lemmas.Option.{none-some}
use Rattle.plain_table.specs.declared.events.Cell.{Cell}
use Rattle.plain_table.specs.declared.events.Space.{Space}
use Rattle.plain_table.specs.declared.events.Space.TheVariants.{External, Trusted}
use Rattle.plain_table.specs.Cycle.{Cycle, is_from, moves_from}
use Rattle.plain_table.specs.Table.{Table, limit_of}
use Rattle.plain_table.specs.Finish.{swept, place}
use Rattle.plain_table.specs.Words.{cell_word}
use Rattle.plain_table.specs.Shows.{SpaceShows}
use Rattle.plain_table.specs.Sound.{IsSound}
use Rattle.plain_table.proofs.SpacesShown.{cell-below}
use Rattle.table_laws.proofs.FinishMoves.{swept-from, swept-place, place-is, place-outside, target-is}
use Rattle.word_laws.specs.Kinds.{is_marked_word}
use Rattle.sweeper.specs.Pass.{stays}
use Rattle.sweeper.specs.Ready.{IsReady}
use Rattle.sweeper.specs.Small.{AreSmall}
use Rattle.word_laws.proofs.EntryKinds.{cell-at, cell-kind-at, no_cell-kind-at}

module _ (s : Table) (c : Cycle) (h : IsSound s) (is : s.cycle ≡ Some c) (small : AreSmall s) (p : Space) where
  pub IsReady-still : (entry : ℕ → ℕ) (freelist committed : ℕ) → SpaceShows s p entry freelist committed → (p ≡ External → moves_from c ≡ None) → IsReady s c p entry (limit_of s p)
  IsReady-still entry freelist committed shows still = record { cells = cells; others = λ i none. others i none (s.cells p i) refl; null = shows.null }
    where
      cells : (i : ℕ) (cell : Cell) → swept s c p i ≡ Some cell → (i < limit_of s p) × (entry i ≡ cell_word cell true)
      cells i cell sweeps =
          let came = swept-from s c p i cell sweeps in
          elim (place-is c s.words p came.index i came.place_is) [
            | inl stay ↦
                let stands : s.cells p i ≡ Some cell = ap (s.cells p) (sym stay.same) ∙ came.cell_is in
                let marked : c.marks p i ≡ true = ap (c.marks p) (sym stay.same) ∙ stay.marked in
                (cell-below s p i h (ap is_some stands), cell-at s c h is small p entry freelist committed shows i cell stands ∙ ap (cell_word cell) marked)
            | inr moves ↦
                let t = target-is c s.words came.index i moves.to in
                absurd (none-some t.start (sym (still moves.external) ∙ t.moves))
          ]

      outside : (q : Space) (i : ℕ) → p ≡ q → c.marks q i ≡ true → place c s.words q i ≡ Some i
      outside External i same marked =
          place-outside c s.words i (ap (λ o. is_from o i) (still same)) ∙ cond-true (c.marks External i) (Some i) None marked
      outside Trusted i same marked = cond-true (c.marks Trusted i) (Some i) None marked

      others : (i : ℕ) → swept s c p i ≡ None → (found : Option Cell) → s.cells p i ≡ found → stays entry (limit_of s p) i ≡ false
      others i none found stands = elim (cases_lt i (limit_of s p)) [
        | inr past ↦ and_left (nat_lt i (limit_of s p)) (is_marked_word (entry i)) (le-ltb i (limit_of s p) past)
        | inl below ↦ and_right (nat_lt i (limit_of s p)) (is_marked_word (entry i)) (by below found stands)
      ]
        where
          by : i < limit_of s p → (found : Option Cell) → s.cells p i ≡ found → is_marked_word (entry i) ≡ false
          by below None stands = (no_cell-kind-at s c h is small p entry freelist committed shows i below stands).is_marked
          by below (Some cell) stands = elim (cases_Bool (c.marks p i)) [
            | inl marked ↦
                let kept : swept s c p i ≡ Some cell = swept-place s c h is p i i (outside p i refl marked) ∙ stands in
                absurd (none-some cell (sym none ∙ kept))
            | inr unmarked ↦ (cell-kind-at s c h is small p entry freelist committed shows i cell stands).is_marked ∙ unmarked
          ]
