-- Fields as a ready mutator has them: the word at the place of one has 32 bits, and is the field's in each table that the
-- image shows; and which fields a mutator may use.
use Rattle.std.proofs.Common.{◌≡◌, ℕ, ◌^◌, ◌<◌, length, slice_index, List, Option, Some, sym, ap, subst, ◌∙◌, inl, inr, arith, [], None, refl}
use Rattle.std.specs.Prelude.{MatchOption}
use Rattle.std.proofs.lemmas.Bool.Decides.{eqb_tells}
use Rattle.plain_table.specs.declared.events.Event.{Event}
use Rattle.plain_table.specs.declared.events.Field.{Field}
use Rattle.plain_table.specs.declared.reports.Reply.{Reply}
use Rattle.plain_table.specs.declared.reports.Reply.TheVariants as reply
use Rattle.plain_table.specs.Places.{object_of}
use Rattle.plain_table.specs.Table.{Table, Sizes}
use Rattle.plain_table.specs.Rows.{Holds}
use Rattle.plain_table.specs.Sound.{IsSound}
use Rattle.plain_table.specs.Shapes.{Held, IsEmptyCall, WithObject, external_field}
use Rattle.plain_table.specs.Words.{field_place}
use Rattle.plain_table.proofs.WordPlaces.{field_place-below}
use Rattle.entry_word.specs.Image.{image_of}
use Rattle.mutator_calls.specs.declared.heap.Mutator.{Mutator}
use Rattle.mutator_calls.specs.Calls.{IsReady, Sees}

-- an external field is its object's
pub object_of-external_field : (o f : ℕ) → f < 2 → object_of (external_field o f) ≡ o
object_of-external_field o f small = omega arith

-- a mutator may use the fields of an object that its variable holds
pub Holds-variable : (s : Table) (var o : ℕ) (f : Field) → var < 16 → s.vars 0 var ≡ Some o → object_of f ≡ o → Holds s 0 (object_of f)
Holds-variable s var o f small held own = (var, small, held ∙ ap Some (sym own))

-- the words of fields have 32 bits
pub words-few : (s : Table) (f : Field) → IsSound s → s.words f < 2 ^ 32
words-few s f sound = elim (eqb_tells (s.words f) 0) [
  | inl none ↦ let zero = none.1 in omega (arith, zero)
  | inr some ↦ (sound.objects.contents f some.1).1
]

module _ (m : Mutator) (s : Table) (h : Sees (image_of m.image) s) (f : Field) (few : object_of f < m.image.shape.objects) where
  pub field-few : object_of f < s.sizes.objects
  field-few = subst (λ (z : Sizes). object_of f < z.objects) (sym h.shows.sizes) few

  pub field_word-shown : slice_index m.image.words.items (field_place f) ≡ s.words f
  field_word-shown = h.shows.words.fields f field-few

module _ (m : Mutator) (ready : IsReady m) (f : Field) (few : object_of f < m.image.shape.objects) where
  seen : Sees (image_of m.image) ready.lawful.0
  seen = record { sound = ready.lawful.1; shows = ready.lawful.2; covered = ready.lawful.3 }

  pub field_word-few : slice_index m.image.words.items (field_place f) < 2 ^ 32
  field_word-few =
      let shown = field_word-shown m ready.lawful.0 seen f few in
      let small = words-few ready.lawful.0 f ready.lawful.1 in
      omega (arith, shown, small)

  pub field_place-within : field_place f < length m.image.words.items
  field_place-within =
      let whole = ready.lawful.2.words.whole in
      let below = field_place-below f ready.lawful.0.sizes.objects (field-few m ready.lawful.0 seen f few) in
      omega (arith, whole, below)

-- a call by a variable that holds an object has the shape that it has by this object
pub WithObject-some : (held : Held) (var o : ℕ) (said : Reply) (events : List Event) (Shape : ℕ → Type 0) → held var ≡ Some o → Shape o →
    WithObject held var said events Shape
WithObject-some held var o said events Shape is there = subst (λ (x : Option ℕ). MatchOption x (IsEmptyCall said events) Shape) (sym is) there

-- and one by a variable that holds nothing makes no event
pub WithObject-none : (held : Held) (var : ℕ) (Shape : ℕ → Type 0) → None ≡ held var → WithObject held var reply.Empty [] Shape
WithObject-none held var Shape is = subst (λ (x : Option ℕ). MatchOption x (IsEmptyCall reply.Empty []) Shape) is (refl, refl)
