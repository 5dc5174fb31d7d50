-- A marker's load of a field of an object of its hands: the word is the field's, and touched where it isn't 0; and where it
-- can name no cell, there is nothing to mark or to move.
use Rattle.std.proofs.Common.{◌≡◌, ℕ, zero, suc, ◌+◌, ◌*◌, ◌^◌, ◌<◌, ◌≤◌, ◌==◌, nat_le, Bool, true, false, List, get_or, None, refl, sym, ap, subst, ◌∙◌, inl, inr, arith}
use Rattle.std.proofs.lemmas.Bool.{or_cases}
use Rattle.std.proofs.lemmas.Bool.Decides.{eqb_tells, nat_tests}
use mathlib.Core.Option.{some}
use lib.ListN.{get_elem?}
use Rattle.atomic_table.specs.Table.{Me}
use Rattle.plain_table.specs.declared.events.Cell.{Cell}
use Rattle.plain_table.specs.declared.events.Field.{Field}
use Rattle.plain_table.specs.declared.events.Space.{Space}
use Rattle.plain_table.specs.Cycle.{IsTouched}
use Rattle.plain_table.specs.History.{after}
use Rattle.plain_table.specs.Index.{index_of}
use Rattle.plain_table.specs.Places.{object_of, space_of}
use Rattle.plain_table.specs.Sound.{IsSound}
use Rattle.plain_table.specs.Table.{Table, Sizes, limit_in, limit_of}
use Rattle.plain_table.specs.Words.{field_place}
use Rattle.plain_table.proofs.Options.{IsSomeAnd-by, None-if_not_some, is_some-option_map}
use Rattle.plain_table.proofs.SpacesShown.{cell-below}
use Rattle.plain_table.proofs.WordPlaces.{field_place-below}
use Rattle.entry_base.specs.declared.view.Opening.{Opening}
use Rattle.entry_base.specs.declared.view.View.{View}
use Rattle.entry_base.specs.Callers.{IsCaller}
use Rattle.entry_base.specs.Facts.{IsKnown}
use Rattle.entry_base.specs.Lists.{Each}
use Rattle.entry_base.specs.Openings.{IsBase, sizes_in}
use Rattle.entry_base.specs.Passed.{field_of}
use Rattle.entry_base.specs.Rule.{Kept}
use Rattle.entry_base.proofs.Steps.{Given, Keeps, given, keeps_by}
use Rattle.mark_rule.specs.Marking.{InHands, WordLoaded, is_out, out_facts, word_facts}
use Rattle.mark_rule.proofs.EmptyIndexes.{nothing_there}
use Rattle.mark_rule.proofs.FactLoads.{learner, loads_facts}
use Rattle.entry_base.proofs.HandTells.{HandTells, hand_tells}

object_is : (o n : ℕ) → n < 3 → object_of (field_of o n) ≡ o
object_is o zero few = omega arith
object_is o (suc zero) few = omega arith
object_is o (suc (suc n)) few = refl

place_is : (o n : ℕ) → n < 3 → 37 + 8 * o + n ≡ field_place (field_of o n)
place_is o zero few = omega arith
place_is o (suc zero) few = omega arith
place_is o (suc (suc zero)) few = omega arith
place_is o (suc (suc (suc n))) few = absurd (omega (arith, few))

-- no cell stands at index 0, and none beyond the limit
pub out_empty : (s : Table) (p : Space) (w : ℕ) → IsSound s → is_out (limit_of s p) w ≡ true → s.cells p (index_of w) ≡ None
out_empty s p w sound out = None-if_not_some (s.cells p (index_of w)) (λ stands. elim (or_cases (index_of w == 0) (nat_le (limit_of s p) (index_of w)) out) [
  | inl first ↦
      let ids = is_some-option_map (λ (cell : Cell). cell.id) (s.cells p (index_of w)) ∙ stands in
      (sound.used.cells p (index_of w) ids).1 (let e : index_of w ≡ 0 = grind (arith, nat_tests) in e)
  | inr beyond ↦ let l : limit_of s p ≤ index_of w = grind (arith, nat_tests) in let low = cell-below s p (index_of w) sound stands in absurd (omega (arith, l, low))
])

module _ (key : Opening) (v : View) (o n : ℕ) (caller : IsCaller key v) (has : InHands v o) (few : n < 3) where
  abbrev f : Field
  f = field_of o n

  abbrev limit : ℕ
  limit = limit_in (sizes_in v.opening) (space_of f)

  has_field : InHands v (object_of f)
  has_field = subst (InHands v) (sym (object_is o n few)) has

  module _ (words : List ℕ) (views : List View) (id : ℕ) (k : Kept key words views) (at : get_elem? views id ≡ some v) where
    abbrev found : ℕ
    found = get_or words (37 + 8 * o + n) 0

    module _ (s : Table) (g : Given key k.log k.shown words v s) where
      hand : HandTells s (object_of f)
      hand = hand_tells key words views id v k at (object_of f) caller has_field s g

      same_limit : limit_of s (space_of f) ≡ limit
      same_limit = ap (λ (x : Sizes). limit_in x (space_of f)) (g.sizes ∙ ap sizes_in (sym caller.opened))

      word_is : found ≡ s.words f
      word_is =
          let low : object_of f < (sizes_in key).objects = subst (λ (x : Sizes). object_of f < x.objects) g.sizes hand.made in
          ap (λ i. get_or words i 0) (place_is o n few)
          ∙ (k.near.low (field_place f) (field_place-below f (sizes_in key).objects low) ∙ g.shows.fields f hand.made)

      out_tells : (w : ℕ) (b : Bool) → is_out limit w ≡ b → Each (IsKnown (sizes_in key) k.log s k.shown words) (out_facts b f w)
      out_tells w false is = tt
      out_tells w true is =
          nothing_there (sizes_in key) k.log s k.shown words hand.cycle hand.under_way hand.sure f w
          (out_empty s (space_of f) w g.sound (ap (λ m. is_out m w) same_limit ∙ is)) (inr hand.old)

      word_tells : (w : ℕ) → w ≡ s.words f → Each (IsKnown (sizes_in key) k.log s k.shown words) (word_facts limit f w)
      word_tells zero is = ((IsSomeAnd-by s.cycle hand.cycle _ hand.under_way (inl (sym is)), tt), out_tells 0 (is_out limit 0) refl)
      word_tells (suc w) is = (
        (IsSomeAnd-by s.cycle hand.cycle _ hand.under_way (inl (sym is)), tt),
        (
          (
            IsSomeAnd-by s.cycle hand.cycle _ hand.under_way
                (subst (IsTouched hand.cycle f) (sym is) (hand.sure.touched.touched f (inl hand.old) (λ zero_word. omega (arith, is, zero_word)))),
            tt,
          ),
          out_tells (suc w) (is_out limit (suc w)) refl,
        ),
      )

      small : found < 2 ^ 32
      small = elim (eqb_tells (s.words f) 0) [
        | inl zero_word ↦ omega (arith, word_is, zero_word.1)
        | inr there ↦ let low = (g.sound.objects.contents f there.1).1 in omega (arith, word_is, low)
      ]

pub loads_word : (key : Opening) (slots id : ℕ) (me : Me (Unit {0}) View) (o n : ℕ) → IsCaller key me.0 → InHands me.0 o → n < 3
    → Keeps key slots id me (37 + 8 * o + n) (λ n. n) (λ found w. WordLoaded me.0 (limit_in (sizes_in me.0.opening) (space_of (field_of o n))) (field_of o n) found w)
loads_word key slots id me o n caller has few =
    keeps_by key slots id me (37 + 8 * o + n) (λ n. n) (λ found w. WordLoaded me.0 (limit_in (sizes_in me.0.opening) (space_of (field_of o n))) (field_of o n) found w) (λ words views k at.
    let v = me.0 in
    let more = word_facts (limit_in (sizes_in v.opening) (space_of (field_of o n))) (field_of o n) (get_or words (37 + 8 * o + n) 0) in
    let done = loads_facts key words views id v k at more (37 + 8 * o + n) caller.opened
    (λ s g. word_tells key v o n caller has few words views id k at s g (get_or words (37 + 8 * o + n) 0) (word_is key v o n caller has few words views id k at s g)) in (
      learner key words views id v k at more,
      done.0,
      record {
        loaded = done.1;
        small = small key v o n caller has few words views id k at (after k.base k.log) (given key words views id v k at k.base k.is_base);
        stands = λ b base.
            let g = given key words views id v k at b (subst (λ (x : Opening). IsBase x b) caller.opened base) in
            sym (word_is key v o n caller has few words views id k at (after b k.log) g);
      },
    ))
