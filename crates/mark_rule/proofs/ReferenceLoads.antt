-- A marker's load of a reference of an object of its hands: the reference has the word, and the object in it is old or born.
use Rattle.std.proofs.Common.{◌≡◌, ◌⊎◌, ℕ, zero, suc, ◌+◌, ◌<◌, ◌≤◌, List, get_or, Option, Some, None, refl, sym, ap, subst, ◌∙◌, inl, arith}
use mathlib.Core.Option.{some}
use lib.ListN.{get_elem?}
use Rattle.atomic_table.specs.Table.{Me}
use Rattle.plain_table.specs.History.{after}
use Rattle.plain_table.specs.Table.{Table, Sizes}
use Rattle.plain_table.specs.Words.{object_word, reference_place}
use Rattle.plain_table.proofs.Options.{IsSomeAnd-by}
use Rattle.word_laws.specs.CoverLaws.{IsClear}
use Rattle.entry_base.specs.declared.view.Fact.TheVariants as fact
use Rattle.entry_base.specs.declared.view.Opening.{Opening}
use Rattle.entry_base.specs.declared.view.View.{View}
use Rattle.entry_base.specs.Callers.{IsCaller}
use Rattle.entry_base.specs.Facts.{IsKnown}
use Rattle.entry_base.specs.Lists.{Each}
use Rattle.entry_base.specs.Openings.{IsBase, sizes_in}
use Rattle.entry_base.specs.Rule.{Kept}
use Rattle.entry_base.proofs.Steps.{Given, Keeps, given, held_within, keeps_by}
use Rattle.mark_rule.specs.Marking.{InHands, ReferenceLoaded, reference_facts}
use Rattle.mark_rule.proofs.FactLoads.{learner, loads_facts}
use Rattle.entry_base.proofs.HandTells.{HandTells, hand_tells}
use Rattle.mark_rule.proofs.Headers.{IfSome-by}

module _ (key : Opening) (v : View) (o n : ℕ) (caller : IsCaller key v) (has : InHands v o) (few : n < 4) (words : List ℕ) (views : List View) (id : ℕ) (k : Kept key words views)
    (at : get_elem? views id ≡ some v) (s : Table) (g : Given key k.log k.shown words v s) where
  abbrev found : ℕ
  found = get_or words (reference_place o n) 0

  hand : HandTells s o
  hand = hand_tells key words views id v k at o caller has s g

  word_is : found ≡ object_word (s.refs o n)
  word_is =
      let low : o < (sizes_in key).objects = subst (λ (x : Sizes). o < x.objects) g.sizes hand.made in
      k.near.low (reference_place o n) (omega (arith, low, few)) ∙ g.shows.references o n hand.made few

  reads : (w : ℕ) → w ≡ object_word (s.refs o n) → IsKnown (sizes_in key) k.log s k.shown words (fact.Reference o n w)
  reads w is = (
    tt,
    (
      subst (λ (z : Sizes). o < z.objects) g.sizes hand.made,
      IfSome-by s.cycle hand.cycle (λ c. (object_word (s.refs o n) ≡ w) ⊎ IsClear k.shown (s.refs o n)) hand.under_way (inl (sym is)),
    ),
  )

  -- what a reference of an old object holds is old or born
  traced : (q : ℕ) → s.refs o n ≡ Some q → IsKnown (sizes_in key) k.log s k.shown words (fact.Traced q)
  traced q holds = (IsSomeAnd-by s.cycle hand.cycle _ hand.under_way (hand.sure.traced.references o n q (inl hand.old) holds), tt)

  tells : (w : ℕ) (x : Option ℕ) → s.refs o n ≡ x → w ≡ object_word (s.refs o n) → Each (IsKnown (sizes_in key) k.log s k.shown words) (reference_facts o n w)
  tells zero x holds is = (reads 0 is, tt)
  tells (suc m) None holds is = absurd (let e : suc m ≡ 0 = is ∙ ap object_word holds in omega (arith, e))
  tells (suc m) (Some q) holds is =
      let e : suc m ≡ q + 1 = is ∙ ap object_word holds in
      let same : q ≡ m = omega (arith, e) in
      (reads (suc m) is, (traced m (holds ∙ ap Some same), tt))

  -- the number of an object is within the limit
  within : found ≤ (sizes_in key).objects
  within = subst (λ x. x ≤ (sizes_in key).objects) (sym word_is) (most (s.refs o n) (held_within s (sizes_in key) g.sizes g.sound o n))
    where
      most : (x : Option ℕ) → ((q : ℕ) → x ≡ Some q → q < (sizes_in key).objects) → object_word x ≤ (sizes_in key).objects
      most None low = omega arith
      most (Some q) low = let l = low q refl in omega arith

pub loads_reference : (key : Opening) (slots id : ℕ) (me : Me (Unit {0}) View) (o k : ℕ) → IsCaller key me.0 → InHands me.0 o → k < 4
    → Keeps key slots id me (reference_place o k) (λ n. n) (λ found w. ReferenceLoaded me.0 o k found w)
loads_reference key slots id me o n caller has few =
    keeps_by key slots id me (reference_place o n) (λ n. n) (λ found w. ReferenceLoaded me.0 o n found w) (λ words views k at.
    let v = me.0 in
    let more = reference_facts o n (get_or words (reference_place o n) 0) in
    let done = loads_facts key words views id v k at more (reference_place o n) caller.opened
    (λ s g. tells key v o n caller has few words views id k at s g (get_or words (reference_place o n) 0) (s.refs o n) refl (word_is key v o n caller has few words views id k at s g)) in
    let low = within key v o n caller has few words views id k at (after k.base k.log) (given key words views id v k at k.base k.is_base) in (
      learner key words views id v k at more,
      done.0,
      record {
        loaded = done.1;
        low = subst (λ (x : Opening). get_or words (reference_place o n) 0 ≤ (sizes_in x).objects) (sym caller.opened) low;
        holds = λ b base.
            let g = given key words views id v k at b (subst (λ (x : Opening). IsBase x b) caller.opened base) in
            sym (word_is key v o n caller has few words views id k at (after b k.log) g);
      },
    ))
