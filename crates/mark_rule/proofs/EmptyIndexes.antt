-- Where no cell stands at the index of a word, there is nothing to mark, and nothing to move for a field that has the word: a
-- bound field of an old object has its own cell at its word's index, so the field is not bound with it.
use Rattle.std.proofs.Common.{◌≡◌, ◌⊎◌, ℕ, List, [], ◌∷◌, Some, None, IsSome, sym, ap, ◌∙◌, inl, inr}
use Rattle.plain_table.specs.declared.events.Cell.{Cell}
use Rattle.plain_table.specs.declared.events.Event.{Event}
use Rattle.plain_table.specs.declared.events.Field.{Field}
use Rattle.plain_table.specs.declared.events.Field.TheVariants as field
use Rattle.plain_table.specs.declared.events.Space.TheVariants.{Trusted}
use Rattle.plain_table.specs.Cycle.{Cycle, IsOld}
use Rattle.plain_table.specs.Finish.{id_at}
use Rattle.plain_table.specs.Index.{index_of}
use Rattle.plain_table.specs.Places.{object_of, space_of}
use Rattle.plain_table.specs.Rows.{IsPlaced}
use Rattle.plain_table.specs.Sound.{CycleSound}
use Rattle.plain_table.specs.Table.{Table, Sizes}
use Rattle.plain_table.proofs.Options.{IsSomeAnd-by, IsSome-none, IsSome-some, is_some-option_map}
use Rattle.entry_base.specs.declared.view.Fact.TheVariants as fact
use Rattle.entry_base.specs.Facts.{IsKnown}
use Rattle.entry_base.specs.Lists.{Each}

IsPlaced-trusted : (c : Cycle) (f : Field) (i : ℕ) → space_of f ≡ Trusted → IsPlaced c f i
IsPlaced-trusted c (field.External number) i is = absurd (cc)
IsPlaced-trusted c (field.Trusted number) i is = tt

module _ (z : Sizes) (log : List Event) (s : Table) (shown words : List ℕ) (c : Cycle) (under_way : s.cycle ≡ Some c) (sure : CycleSound s c) (f : Field) (w : ℕ)
    (none : s.cells (space_of f) (index_of w) ≡ None) (may : (space_of f ≡ Trusted) ⊎ IsOld c (object_of f)) where
  no_cell : IsSome (s.cells (space_of f) (index_of w)) → ⊥
  no_cell = IsSome-none (s.cells (space_of f) (index_of w)) none

  unbound : IsOld c (object_of f) → (id : ℕ) → s.bound f ≡ Some id → s.words f ≡ w → ⊥
  unbound old id bound word =
      let own : id_at s (space_of f) (index_of w) ≡ Some id = ap (λ x. id_at s (space_of f) (index_of x)) (sym word) ∙ sure.bound.own f id (inl old) bound in
      no_cell (sym (is_some-option_map (λ (cell : Cell). cell.id) (s.cells (space_of f) (index_of w))) ∙ IsSome-some (id_at s (space_of f) (index_of w)) id own)

  pub nothing_there : Each (IsKnown z log s shown words) (fact.Visited (space_of f) (index_of w) ∷ fact.Placed f w ∷ [])
  nothing_there = (
    (IsSomeAnd-by s.cycle c _ under_way (λ stands. absurd (no_cell stands)), tt),
    (
      (
        IsSomeAnd-by s.cycle c _ under_way (λ id bound word. elim may [
          | inl trusted ↦ IsPlaced-trusted c f (index_of w) trusted
          | inr old ↦ absurd (unbound old id bound word)
        ]),
        tt,
      ),
      tt,
    ),
  )
