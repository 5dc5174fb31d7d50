-- After each event the words of the objects of a cycle are touched.
use Rattle.std.proofs.Common.{◌≢◌, ℕ, ◌<◌, ◌==◌, nat_lt, Bool, true, Option, IsTrue, IfSome, refl, ap, ◌∙◌, sym, subst, inl, inr, arith, ◌≡◌}
use Rattle.std.proofs.lemmas.Option.{IfSome_then}
use Rattle.plain_table.specs.declared.events.Act.{Act}
use Rattle.plain_table.specs.declared.events.Act.TheVariants.{New, Drop, Get, Link, Take, Below, Bind, Name, Look, Forge, Start, Finish}
use Rattle.plain_table.specs.declared.events.Space.TheVariants.{External}
use Rattle.plain_table.specs.declared.events.Field.{Field}
use Rattle.plain_table.specs.declared.events.Field.TheVariants as field
use Rattle.plain_table.specs.Places.{object_of, put_at, put_field}
use Rattle.plain_table.specs.Cycle.{Cycle, IsTouched, with_birth, with_word, HasStood}
use Rattle.plain_table.specs.Table.{Table, least_free}
use Rattle.plain_table.specs.Finish.{CanFinish}
use Rattle.plain_table.specs.Rows.{object_in, free_below, with_object, with_bound, with_unbound, with_forged, row}
use Rattle.plain_table.specs.Sound.{IsSound, CycleSound, TouchedSound}
use Rattle.plain_table.proofs.PlaceReads.{read_at, read_field, put_at-same, put_field-grows}
use Rattle.plain_table.proofs.CycleParts.{IfSome-changed, IfSome-finished}
use Rattle.plain_table.proofs.Branches.{if_either, with_taken_either, with_linked_either}

-- the words of a table, for a cycle
abbrev pub TouchedIn : Table → Cycle → Type 0
TouchedIn s c = TouchedSound c s.words

TouchedIn-same : (s : Table) (cycle : Option Cycle) → IfSome cycle (CycleSound s) → IfSome cycle (TouchedIn s)
TouchedIn-same s cycle h = IfSome_then cycle h (λ c d. d.touched)

module _ (c : Cycle) (words : Field → ℕ) where
  -- a born object with no word
  TouchedSound-born : (o : ℕ) → ((f : Field) → words f ≢ 0 → object_of f ≢ o) → TouchedSound c words →
      TouchedSound (with_birth o c) words
  TouchedSound-born o none h = record {
    stood = h.stood;
    touched = λ f held full. elim held [
      | inl old ↦ h.touched f (inl old) full
      | inr born ↦ elim (read_at true c.born o (object_of f)) [
        | inl r ↦ absurd (none f full (sym r.0))
        | inr r ↦ h.touched f (inr (sym r.1 ∙ born)) full
      ]
    ];
  }

  -- a word that comes into a field
  IsTrue-came_here : (g : Field) (w : ℕ) → IsTrue (put_field c.came g (put_at (c.came g) w true) g w)
  IsTrue-came_here g w = elim (read_field (put_at (c.came g) w true) c.came g g) [
    | inl r ↦ ap (λ (came : ℕ → Bool). came w) r.1 ∙ put_at-same (c.came g) w true
    | inr r ↦ absurd (r.0 refl)
  ]

  TouchedSound-touched : (g : Field) (w : ℕ) → TouchedSound c words →
      TouchedSound (with_word g w c) (put_field words g w)
  TouchedSound-touched g w h = record {
    stood = λ f. elim (read_field w words g f) [
      | inl r ↦ inr (came f r.0 r.1)
      | inr r ↦ subst (λ (word : ℕ). HasStood (with_word g w c) f word) (sym r.1)
          (elim (h.stood f) [ inl was ↦ inl was | inr before ↦ inr (put_field-grows c.came g w f (words f) before) ])
    ];
    touched = λ f held full. elim (read_field w words g f) [
      | inl r ↦ inr (came f r.0 r.1)
      | inr r ↦ subst (λ (word : ℕ). IsTouched (with_word g w c) f word) (sym r.1)
          (elim (h.touched f held (λ none. full (r.1 ∙ none))) [ inl old ↦ inl old | inr before ↦ inr (put_field-grows c.came g w f (words f) before) ])
    ];
  }
    where
      came : (f : Field) → g ≡ f → put_field words g w f ≡ w → IsTrue ((with_word g w c).came f (put_field words g w f))
      came f same is = subst (λ (word : ℕ). IsTrue ((with_word g w c).came f word)) (sym is)
          (subst (λ (x : Field). IsTrue ((with_word g w c).came x w)) same (IsTrue-came_here g w))

TouchedIn-object : (s : Table) (b var : ℕ) → IsSound s → IfSome (with_object s b var).cycle (TouchedIn (with_object s b var))
TouchedIn-object s b var h =
    IfSome-changed (TouchedIn s) s.cycle h.cycle
    (λ c d. TouchedSound-born c s.words s.count (λ f full e. let below : object_of f < s.count = (h.objects.contents f full).0 in omega arith) d.touched)

TouchedIn-bound : (s : Table) (b : ℕ) (f : Field) (w : ℕ) → IsSound s → IfSome (with_bound s b f w).cycle (TouchedIn (with_bound s b f w))
TouchedIn-bound s b f w h =
    IfSome-changed (TouchedIn (with_bound s b f w)) s.cycle h.cycle (λ c d. TouchedSound-touched c s.words f w d.touched)

-- after any event
pub TouchedIn-next : (s : Table) (b : ℕ) (a : Act) → IsSound s → (row s b a).allowed → IfSome (row s b a).next.cycle (TouchedIn (row s b a).next)
TouchedIn-next s b (New var) h k =
    if_either (λ t. IfSome t.cycle (TouchedIn t)) (nat_lt s.count s.sizes.objects) (with_object s b var) s
    (TouchedIn-object s b var h) (TouchedIn-same s s.cycle h.cycle)
TouchedIn-next s b (Drop var) h k = TouchedIn-same s s.cycle h.cycle
TouchedIn-next s b (Get var spot) h k = TouchedIn-same s s.cycle h.cycle
TouchedIn-next s b (Link spot var) h k =
    with_linked_either (λ t. IfSome t.cycle (TouchedIn t)) s spot (object_in s b var)
    (λ g. TouchedIn-same s s.cycle h.cycle) (λ object i. TouchedIn-same s s.cycle h.cycle)
TouchedIn-next s b (Take p) h k =
    with_taken_either (λ t. IfSome t.cycle (TouchedIn t)) s b p (least_free s p)
    (TouchedIn-same s s.cycle h.cycle) (λ i. TouchedIn-same s s.cycle h.cycle)
TouchedIn-next s b (Below start) h k =
    with_taken_either (λ t. IfSome t.cycle (TouchedIn t)) s b External (free_below s start)
    (TouchedIn-same s s.cycle h.cycle) (λ i. TouchedIn-same s s.cycle h.cycle)
TouchedIn-next s b (Bind f w) h k =
    if_either (λ t. IfSome t.cycle (TouchedIn t)) (s.words f == 0) (with_bound s b f w) (with_unbound s b f w)
    (TouchedIn-bound s b f w h) (TouchedIn-same s s.cycle h.cycle)
TouchedIn-next s b (Name f) h k = TouchedIn-same s s.cycle h.cycle
TouchedIn-next s b (Look p w first last) h k = TouchedIn-same s s.cycle h.cycle
TouchedIn-next s b (Forge number w) h k =
    IfSome-changed (TouchedIn (with_forged s number w)) s.cycle h.cycle (λ c d. TouchedSound-touched c s.words (field.External number) w d.touched)
TouchedIn-next s b (Start policy) h k = record {
  stood = λ f. inl refl;
  touched = λ f held full. elim held [ inl old ↦ inl (old, refl, full) | inr born ↦ absurd (cc) ];
}
TouchedIn-next s b Finish h k = IfSome-finished (CanFinish s) _ s s.cycle k.1
-- all others leave words and births alone
TouchedIn-next s b _ h k =
    IfSome-changed (TouchedIn s) s.cycle h.cycle (λ c d. record { stood = d.touched.stood; touched = d.touched.touched })
