-- A field of an object that a variable of the caller holds: its place comes before the entries, and the word that stands there is
-- the field's, of 32 bits.
use Rattle.std.proofs.Common.{◌≡◌, ◌≢◌, ℕ, ◌+◌, ◌*◌, ◌^◌, ◌<◌, ◌==◌, Bool, true, false, List, slice_index, refl, subst, ◌∙◌, arith}
use Rattle.std.proofs.lemmas.Bool.Decides.{nat_tests}
use Rattle.plain_table.specs.declared.events.Event.{Event}
use Rattle.plain_table.specs.declared.events.Field.{Field}
use Rattle.plain_table.specs.Near.{IsNear}
use Rattle.plain_table.specs.Places.{object_of}
use Rattle.plain_table.specs.Table.{Table, Sizes}
use Rattle.plain_table.specs.Words.{field_place}
use Rattle.plain_table.proofs.WordPlaces.{field_place-below}
use Rattle.entry_base.specs.declared.view.Opening.{Opening}
use Rattle.entry_base.specs.declared.view.View.{View}
use Rattle.entry_base.specs.Callers.{IsCaller}
use Rattle.entry_base.specs.Openings.{sizes_in}
use Rattle.entry_base.specs.Owns.{IsHeld}
use Rattle.entry_base.proofs.Steps.{Given}
use Rattle.object_rule.proofs.Held.{object_made}

module _ (key : Opening) (log : List Event) (shown words : List ℕ) (v : View) (f : Field) (caller : IsCaller key v) (mutator : v.number < 8)
    (held : IsHeld v (object_of f)) (s : Table) (g : Given key log shown words v s) where
  pub place_below : field_place f < 32 + 8 * (sizes_in key).objects
  place_below =
      let made = object_made s v g.owns caller.own mutator g.sound (object_of f) held in
      field_place-below f (sizes_in key).objects (subst (λ (x : Sizes). object_of f < x.objects) g.sizes made)

  module _ (near : IsNear (sizes_in key) words shown) where
    pub word_is : slice_index words (field_place f) ≡ s.words f
    word_is = near.low (field_place f) place_below ∙ g.shows.fields f (object_made s v g.owns caller.own mutator g.sound (object_of f) held)

    pub word_small : slice_index words (field_place f) < 2 ^ 32
    word_small = by_test (slice_index words (field_place f) == 0) refl
      where
        by_test : (empty : Bool) → (slice_index words (field_place f) == 0) ≡ empty → slice_index words (field_place f) < 2 ^ 32
        by_test true is = let e : slice_index words (field_place f) ≡ 0 = grind (arith, nat_tests) in omega (arith, e)
        by_test false is =
            let e : slice_index words (field_place f) ≢ 0 = grind (arith, nat_tests) in
            let c = (g.sound.objects.contents f (λ none_there. e (word_is ∙ none_there))).1 in
            omega (arith, c, word_is)
