-- The kind of the word at an index of a shown space in a cycle, by what stands there.
use Rattle.std.proofs.Common.{◌≡◌, ◌<◌, ℕ, true, false, slice_index, Option, Some, None, is_some, option_map, refl, sym, ap, subst, ◌∙◌, inl, inr, arith}
use Rattle.std.proofs.lemmas.Bool.{cases_Bool}
use Rattle.std.proofs.lemmas.Option.{none-some}
use Rattle.plain_table.specs.declared.events.Cell.{Cell}
use Rattle.plain_table.specs.declared.events.Space.{Space}
use Rattle.plain_table.specs.Cycle.{Cycle}
use Rattle.plain_table.specs.Table.{Table, limit_of}
use Rattle.plain_table.specs.Finish.{id_at}
use Rattle.plain_table.specs.Sound.{IsSound}
use Rattle.plain_table.specs.Words.{freelist_place, entry_place, cell_word}
use Rattle.plain_table.specs.Shows.{SpaceShows, entry_at}
use Rattle.plain_table.proofs.Options.{IfSome-is, IsSome-none}
use Rattle.plain_table.proofs.CycleParts.{CycleSound-is}
use Rattle.plain_table.proofs.SpacesShown.{Shows-space}
use Rattle.word_laws.specs.Small.{AreSmall}
use Rattle.word_laws.specs.Kinds.{IsKind, EntryKindsTell}
use Rattle.word_laws.proofs.WordKinds.{cell-kind, evacuation-kind, quiet-kind}
use Rattle.word_laws.proofs.WordChanges.{AreWithin-HasSoundIndexes}
use Rattle.word_laws.proofs.EntryReads.{IsEmptyWord, Null, Free, Evacuation, NoAccess, word-empty}

kind-empty : (entry : Option ℕ) (i word : ℕ) → IsEmptyWord entry i word → IsKind word false (is_some entry) false
kind-empty entry i word (Null none first is) =
    subst (λ o. IsKind word false (is_some o) false) (sym none) (quiet-kind word (inl is))
kind-empty entry i word (Free next none few is) =
    subst (λ o. IsKind word false (is_some o) false) (sym none) (quiet-kind word (inr (omega (arith, is), omega (arith, is, few))))
kind-empty entry i word (NoAccess none is) =
    subst (λ o. IsKind word false (is_some o) false) (sym none) (quiet-kind word (inr (omega (arith, is), omega (arith, is))))
kind-empty entry i word (Evacuation number there few is) =
    subst (λ o. IsKind word false (is_some o) false) (sym there)
    (subst (λ w. IsKind w false true false) (sym is) (evacuation-kind number few))

module _ (s : Table) (c : Cycle) (sound : IsSound s) (is : s.cycle ≡ Some c) (small : AreSmall s.sizes) (p : Space) (entry : ℕ → ℕ) (freelist committed : ℕ)
    (shows : SpaceShows s p entry freelist committed) where
  pub cell-at : (i : ℕ) (cell : Cell) → s.cells p i ≡ Some cell → entry i ≡ cell_word cell (c.marks p i)
  cell-at i cell stands =
      let there = shows.cells i cell stands in
      there.1 ∙ ap (cell_word cell) (IfSome-is s.cycle (λ (c : Cycle). there.0 ≡ c.marks p i) c is there.2)

  pub cell-kind-at : (i : ℕ) (cell : Cell) → s.cells p i ≡ Some cell → IsKind (entry i) true false (c.marks p i)
  cell-kind-at i cell stands =
      subst (λ w. IsKind w true false (c.marks p i)) (sym (cell-at i cell stands)) (cell-kind cell (c.marks p i) (sound.cells.tags p i cell stands))

  pub no_cell-kind-at : (i : ℕ) → i < limit_of s p → s.cells p i ≡ None → IsKind (entry i) false (is_some (entry_at s p i)) false
  no_cell-kind-at i below empty = kind-empty (entry_at s p i) i (entry i) (word-empty s sound small p entry freelist committed shows i below empty)

  -- where a cell stands there is no entry, and where none does nothing is marked
  cell-no_entry : (i : ℕ) (cell : Cell) → s.cells p i ≡ Some cell → is_some (entry_at s p i) ≡ false
  cell-no_entry i cell stands = by_entry (entry_at s p i) refl
    where
      by_entry : (found : Option ℕ) → entry_at s p i ≡ found → is_some found ≡ false
      by_entry None there = refl
      by_entry (Some number) there =
          let inside = (AreWithin-HasSoundIndexes s sound.used).entries p i number there in
          absurd (none-some cell (sym inside.2 ∙ stands))

  no_cell-no_mark : (i : ℕ) → s.cells p i ≡ None → c.marks p i ≡ false
  no_cell-no_mark i empty = elim (cases_Bool (c.marks p i)) [
    | inl marked ↦ absurd (IsSome-none (id_at s p i) (ap (option_map (λ (cell : Cell). cell.id)) empty) ((CycleSound-is s c sound is).marks.cells p i marked))
    | inr unmarked ↦ unmarked
  ]

  pub IsKind-at : (i : ℕ) → i < limit_of s p → IsKind (entry i) (is_some (s.cells p i)) (is_some (entry_at s p i)) (c.marks p i)
  IsKind-at i below = by_cell (s.cells p i) refl
    where
      by_cell : (found : Option Cell) → s.cells p i ≡ found → IsKind (entry i) (is_some found) (is_some (entry_at s p i)) (c.marks p i)
      by_cell None empty = subst (λ m. IsKind (entry i) false (is_some (entry_at s p i)) m) (sym (no_cell-no_mark i empty)) (no_cell-kind-at i below empty)
      by_cell (Some cell) stands = subst (λ e. IsKind (entry i) true e (c.marks p i)) (sym (cell-no_entry i cell stands)) (cell-kind-at i cell stands)

pub EntryKindsTell-shown : EntryKindsTell
EntryKindsTell-shown words s c p i sound small shows is below =
    let space = Shows-space words s p shows in
    IsKind-at s c sound is small p (λ j. slice_index words (entry_place s.sizes p j)) (slice_index words (freelist_place p)) space.0 space.1 i below
