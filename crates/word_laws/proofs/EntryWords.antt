-- Entry words: the list with a changed word at one used index shows the table with that cell or evacuation entry; and so
-- it is after a put, a store, an exchange, a publish, a mark and an evacuation entry.
use Rattle.std.proofs.Common.{◌≡◌, ◌≢◌, ◌<◌, ◌≤◌, ℕ, Bool, false, List, slice_index, Option, Some, None, IsTrue, sym, subst₂, ◌∙◌, inl, inr, arith}
use Rattle.std.specs.Prelude.{◌⊎◌}
use Rattle.std.proofs.lemmas.Bool.Decides.{eqb_tells}
use Rattle.plain_table.specs.declared.events.Cell.{Cell}
use Rattle.plain_table.specs.declared.events.Space.{Space}
use Rattle.plain_table.specs.declared.events.Field.{Field}
use Rattle.plain_table.specs.Table.{Sizes, limit_in}
use Rattle.plain_table.specs.Words.{entry_place, cell_word, evacuation_word}
use Rattle.plain_table.proofs.PlaceReads.{same_space-tells}
use Rattle.plain_table.proofs.WordPlaces.{entry_place-from, entry_place-same, freelist_place-below}
use Rattle.word_laws.proofs.ShownParts.{SpaceIn, SpacesShown, Shown}
use Rattle.word_laws.proofs.WordChanges.{Changed, AreWithin, LowShown-kept, HeapShown-kept}

-- the word is that of the cell, or of the evacuation entry, and one of them stands there
pub record EntryTells (w : ℕ) (cell : Option Cell) (entry : Option ℕ) (IsMark : Bool → Type 0) : Type 0 where
  pub filled : (c : Cell) → cell ≡ Some c → (marked : Bool) × (w ≡ cell_word c marked) × IsMark marked
  pub evacuated : (number : ℕ) → entry ≡ Some number → w ≡ evacuation_word number
  pub occupied : cell ≡ None → entry ≡ None → ⊥

-- at all other indexes cells, entries and marks are as they were
pub record AreDuringPhase (p : Space) (i : ℕ) (cells cells_new : Space → ℕ → Option Cell) (evac evac_new : Space → ℕ → Option ℕ) (IsMark IsMark_new : Space → ℕ → Bool → Type 0) : Type 0 where
  pub filled : (q : Space) (j : ℕ) → ((p ≡ q) × (i ≡ j) → ⊥) → cells_new q j ≡ cells q j
  pub evacuated : (q : Space) (j : ℕ) → ((p ≡ q) × (i ≡ j) → ⊥) → evac_new q j ≡ evac q j
  pub marked : (q : Space) (j : ℕ) (m : Bool) → ((p ≡ q) × (i ≡ j) → ⊥) → IsMark q j m → IsMark_new q j m

pub index_cases : (p q : Space) (i j : ℕ) → ((p ≡ q) × (i ≡ j)) ⊎ ((p ≡ q) × (i ≡ j) → ⊥)
index_cases p q i j = elim (same_space-tells p q) [
  | inr r ↦ inr (λ same. r.1 same.0)
  | inl r ↦ elim (eqb_tells i j) [ inl e ↦ inl (r.1, e.1) | inr e ↦ inr (λ same. e.1 same.1) ]
]

module _ {words changed : List ℕ} {sizes : Sizes} (p : Space) (i w : ℕ) (h : Changed words changed (entry_place sizes p i) w) where
  SpacesShown-entry : {used : Space → ℕ → Bool} {cells cells_new : Space → ℕ → Option Cell} {evac evac_new : Space → ℕ → Option ℕ} {IsMark IsMark_new : Space → ℕ → Bool → Type 0} →
      AreWithin sizes used cells evac → IsTrue (used p i) → i ≢ 0 → EntryTells w (cells_new p i) (evac_new p i) (IsMark_new p i) →
      AreDuringPhase p i cells cells_new evac evac_new IsMark IsMark_new →
      SpacesShown words sizes used cells evac IsMark → SpacesShown changed sizes used cells_new evac_new IsMark_new
  SpacesShown-entry {used} {cells} {cells_new} {evac} {evac_new} {IsMark} {IsMark_new} inside taken later tells during old = record {
    spaces = λ q. ((old.spaces q).0, space q (old.spaces q).0 (old.spaces q).1);
  }
    where
      here : (q : Space) (j : ℕ) → (p ≡ q) × (i ≡ j) → slice_index changed (entry_place sizes q j) ≡ w
      here q j same = subst₂ (λ r k. slice_index changed (entry_place sizes r k) ≡ w) same.0 same.1 h.here

      there : (q : Space) (j : ℕ) → j < limit_in sizes q → ((p ≡ q) × (i ≡ j) → ⊥) →
          slice_index changed (entry_place sizes q j) ≡ slice_index words (entry_place sizes q j)
      there q j below apart = h.there _ (λ e. apart (entry_place-same sizes p q i j (inside.below p i taken) below (sym e)))

      space : (q : Space) (committed : ℕ) → SpaceIn words sizes q (used q) (cells q) (evac q) (IsMark q) committed →
          SpaceIn changed sizes q (used q) (cells_new q) (evac_new q) (IsMark_new q) committed
      space q committed is = record {
        segments = is.segments;
        within = is.within;
        taken = is.taken;
        null = there q 0 (inside.below q 0 (inside.first q)) (λ same. later same.1) ∙ is.null;
        filled = λ j c stands. elim (index_cases p q i j) [
          | inl same ↦
              let found = tells.filled c (subst₂ (λ r k. cells_new r k ≡ Some c) (sym same.0) (sym same.1) stands) in
              (found.0, here q j same ∙ found.1, subst₂ (λ r k. IsMark_new r k found.0) same.0 same.1 found.2)
          | inr apart ↦
              let was : cells q j ≡ Some c = sym (during.filled q j apart) ∙ stands in
              let found = is.filled j c was in
              (found.0, there q j (inside.below q j (inside.filled q j c was).0) apart ∙ found.1, during.marked q j found.0 apart found.2)
        ];
        evacuated = λ j number stands. elim (index_cases p q i j) [
          | inl same ↦ here q j same ∙ tells.evacuated number (subst₂ (λ r k. evac_new r k ≡ Some number) (sym same.0) (sym same.1) stands)
          | inr apart ↦
              let was : evac q j ≡ Some number = sym (during.evacuated q j apart) ∙ stands in
              there q j (inside.below q j (inside.entries q j number was).0) apart ∙ is.evacuated j number was
        ];
        free = λ j from below free.
            there q j (omega (arith, below, is.within)) (λ same. free_taken (subst₂ (λ r k. IsTrue (used r k)) same.0 same.1 taken) free) ∙ is.free j from below free;
        empty = λ j stands. elim (index_cases p q i j) [
          | inl same ↦ absurd (tells.occupied
              (subst₂ (λ r k. cells_new r k ≡ None) (sym same.0) (sym same.1) stands.no_cell)
              (subst₂ (λ r k. evac_new r k ≡ None) (sym same.0) (sym same.1) stands.no_entry))
          | inr apart ↦
              let found = is.empty j (record {
                taken = stands.taken;
                later = stands.later;
                no_cell = sym (during.filled q j apart) ∙ stands.no_cell;
                no_entry = sym (during.evacuated q j apart) ∙ stands.no_entry;
              }) in
              (found.0, found.1, there q j (inside.below q j stands.taken) apart ∙ found.2)
        ];
        closed = λ j past below.
            there q j below (λ same. past_taken j committed past (is.taken j (subst₂ (λ r k. IsTrue (used r k)) same.0 same.1 taken))) ∙ is.closed j past below;
        list = h.there _ (λ e. omega (arith, e, freelist_place-below q, entry_place-from sizes p i)) ∙ is.list;
      }
        where
          free_taken : {test : Bool} → IsTrue test → test ≡ false → ⊥
          free_taken is free = absurd (cc)

          past_taken : (j committed : ℕ) → committed ≤ j → j < committed → ⊥
          past_taken j committed past below = omega (arith, past, below)

  pub Shown-entry : {count area phase : ℕ} {globals : ℕ → Option ℕ} {IsHead : ℕ → ℕ → Type 0} {refs : ℕ → ℕ → Option ℕ} {names : Field → ℕ} {used : Space → ℕ → Bool} {cells cells_new : Space → ℕ → Option Cell} {evac evac_new : Space → ℕ → Option ℕ} {IsMark IsMark_new : Space → ℕ → Bool → Type 0} →
      AreWithin sizes used cells evac → IsTrue (used p i) → i ≢ 0 → EntryTells w (cells_new p i) (evac_new p i) (IsMark_new p i) →
      AreDuringPhase p i cells cells_new evac evac_new IsMark IsMark_new →
      Shown words sizes count area phase globals IsHead refs names used cells evac IsMark →
      Shown changed sizes count area phase globals IsHead refs names used cells_new evac_new IsMark_new
  Shown-entry inside taken later tells during shown = record {
    whole = h.long ∙ shown.whole;
    low = LowShown-kept h (omega (arith, entry_place-from sizes p i)) shown.low;
    heap = HeapShown-kept h (inr (entry_place-from sizes p i)) shown.heap;
    entries = SpacesShown-entry inside taken later tells during shown.entries;
  }
