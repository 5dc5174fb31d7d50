-- Words near those that show a table: they stay near where one word changes in both, and where an entry that has no access
-- is linked in the present ones; and what stands at an entry of the one list, by what stands there in the other.
use Rattle.std.proofs.Common.{◌≡◌, ◌≢◌, ◌+◌, ◌<◌, ℕ, List, length, slice_index, slice_set, refl, sym, subst, ◌∙◌, inl, inr, arith, length-set, get_or-set_other}
use Rattle.std.proofs.lemmas.Bool.{cases_lt}
use Rattle.std.proofs.lemmas.Bool.Decides.{eqb_tells}
use Rattle.std.proofs.lemmas.List.{get_or_past}
use Rattle.plain_table.specs.declared.events.Space.{Space}
use Rattle.plain_table.specs.Table.{Sizes, limit_in}
use Rattle.plain_table.specs.Words.{entry_place, free_word, no_access_word}
use Rattle.plain_table.specs.Near.{IsNear, IsLinkedEntry}
use Rattle.plain_table.proofs.WordPlaces.{entry_place-from, entry_place-same}
use Rattle.word_laws.specs.SegmentLaws.{ChangedWordsStayNear, LinkedEntriesStayNear}
use Rattle.word_laws.proofs.WordChanges.{Changed, Changed-slice_set}
use Rattle.word_laws.proofs.EntryWords.{index_cases}

pub IsNear-refl : (sizes : Sizes) (words : List ℕ) → IsNear sizes words words
IsNear-refl sizes words = record { whole = refl; low = λ i below. refl; entries = λ p i below. inl refl }

-- one word of both is changed: it is the same at its place, and the others are as they were
module _ (words shown : List ℕ) (place w : ℕ) (long : length words ≡ length shown) where
  set-same : slice_index (slice_set words place w) place ≡ slice_index (slice_set shown place w) place
  set-same = elim (cases_lt place (length words)) [
    | inl within ↦
        (Changed-slice_set words place w within).here
        ∙ sym (Changed-slice_set shown place w (omega (arith, within, long))).here
    | inr past ↦
        get_or_past (slice_set words place w) place 0 (omega (arith, length-set words place w, past))
        ∙ sym (get_or_past (slice_set shown place w) place 0 (omega (arith, length-set shown place w, past, long)))
  ]

  set-same_at : (i : ℕ) → i ≡ place → slice_index (slice_set words place w) i ≡ slice_index (slice_set shown place w) i
  set-same_at i e = subst (λ j. slice_index (slice_set words place w) j ≡ slice_index (slice_set shown place w) j) (sym e) set-same

pub IsNear-set : ChangedWordsStayNear
IsNear-set sizes words shown place w near = record {
  whole = length-set words place w ∙ near.whole ∙ sym (length-set shown place w);
  low = λ i below. elim (eqb_tells i place) [
    | inl e ↦ set-same_at words shown place w near.whole i e.1
    | inr e ↦ get_or-set_other words place i w 0 e.1 ∙ near.low i below ∙ sym (get_or-set_other shown place i w 0 e.1)
  ];
  entries = λ p i below. elim (eqb_tells (entry_place sizes p i) place) [
    | inl e ↦ inl (set-same_at words shown place w near.whole (entry_place sizes p i) e.1)
    | inr e ↦
        let now = get_or-set_other words place (entry_place sizes p i) w 0 e.1 in
        let then_shown = get_or-set_other shown place (entry_place sizes p i) w 0 e.1 in
        elim (near.entries p i below) [
          | inl same ↦ inl (now ∙ same ∙ sym then_shown)
          | inr linked ↦ inr (then_shown ∙ linked.0, now ∙ linked.1)
        ]
  ];
}

module _ {sizes : Sizes} {words shown : List ℕ} (p : Space) (i : ℕ) (near : IsNear sizes words shown) (below : i < limit_in sizes p) where
  -- an entry that has access in the words that show the table
  pub IsNear-open : slice_index shown (entry_place sizes p i) ≢ no_access_word →
      slice_index words (entry_place sizes p i) ≡ slice_index shown (entry_place sizes p i)
  IsNear-open open_there = elim (near.entries p i below) [
    | inl same ↦ same
    | inr linked ↦ absurd (open_there linked.0)
  ]

  -- one that has none
  pub IsNear-linked : slice_index shown (entry_place sizes p i) ≡ no_access_word → slice_index words (entry_place sizes p i) ≢ no_access_word →
      slice_index words (entry_place sizes p i) ≡ free_word (i + 1)
  IsNear-linked closed open_now = elim (near.entries p i below) [
    | inl same ↦ absurd (open_now (same ∙ closed))
    | inr linked ↦ linked.1
  ]

  pub IsNear-closed : slice_index words (entry_place sizes p i) ≡ no_access_word → slice_index shown (entry_place sizes p i) ≡ no_access_word
  IsNear-closed closed = elim (near.entries p i below) [
    | inl same ↦ sym same ∙ closed
    | inr linked ↦ linked.0
  ]

-- an entry is linked
module _ (sizes : Sizes) (words shown : List ℕ) (p : Space) (i : ℕ) (near : IsNear sizes words shown) (below : i < limit_in sizes p)
    (closed : slice_index shown (entry_place sizes p i) ≡ no_access_word) where
  within : entry_place sizes p i < length words
  within = elim (cases_lt (entry_place sizes p i) (length words)) [
    | inl less ↦ less
    | inr past ↦
        let nothing : slice_index shown (entry_place sizes p i) ≡ 0 = get_or_past shown (entry_place sizes p i) 0 (omega (arith, past, near.whole)) in
        absurd (omega (arith, nothing, closed))
  ]

  change : Changed words (slice_set words (entry_place sizes p i) (free_word (i + 1))) (entry_place sizes p i) (free_word (i + 1))
  change = Changed-slice_set words (entry_place sizes p i) (free_word (i + 1)) within

  linked_here : (q : Space) (j : ℕ) → (p ≡ q) × (i ≡ j) →
      IsLinkedEntry j (slice_index (slice_set words (entry_place sizes p i) (free_word (i + 1))) (entry_place sizes q j)) (slice_index shown (entry_place sizes q j))
  linked_here q j same =
      subst (λ (r : Space). IsLinkedEntry j (slice_index (slice_set words (entry_place sizes p i) (free_word (i + 1))) (entry_place sizes r j)) (slice_index shown (entry_place sizes r j))) same.0
      (subst (λ (k : ℕ). IsLinkedEntry k (slice_index (slice_set words (entry_place sizes p i) (free_word (i + 1))) (entry_place sizes p k)) (slice_index shown (entry_place sizes p k))) same.1
      (closed, change.here))

  IsNear-link : IsNear sizes (slice_set words (entry_place sizes p i) (free_word (i + 1))) shown
  IsNear-link = record {
    whole = change.long ∙ near.whole;
    low = λ j low. change.there j (λ e. omega (arith, e, low, entry_place-from sizes p i)) ∙ near.low j low;
    entries = λ q j less. elim (index_cases p q i j) [
      | inl same ↦ inr (linked_here q j same)
      | inr apart ↦
          let as_was = change.there (entry_place sizes q j) (λ e. apart (entry_place-same sizes p q i j below less (sym e))) in
          elim (near.entries q j less) [
            | inl same ↦ inl (as_was ∙ same)
            | inr linked ↦ inr (linked.0, as_was ∙ linked.1)
          ]
    ];
  }

pub LinkedEntriesStayNear-near : LinkedEntriesStayNear
LinkedEntriesStayNear-near sizes words shown p i near below closed = IsNear-link sizes words shown p i near below closed
