-- Classes of change: what a change of one word leaves of the facts about words, by what stands at its place: a header, an
-- entry of a used index, a freelist word, or another word before the entries; or no word changes.
use Rattle.std.proofs.Common.{◌≡◌, ◌≢◌, ℕ, ◌+◌, ◌*◌, ◌%◌, ◌<◌, List, length, slice_index, slice_set, get_or-set_same, get_or-set_other, Option, Some, None, IsTrue, IsSome, IfSome, refl, sym, ap, subst, subst₂, ◌∙◌, inl, inr, arith}
use Rattle.std.specs.Prelude.{◌⊎◌}
use Rattle.std.proofs.lemmas.Bool.Decides.{eqb_tells}
use Rattle.plain_table.specs.declared.events.Event.{Event}
use Rattle.plain_table.specs.declared.events.Space.{Space}
use Rattle.plain_table.specs.Cycle.{Cycle}
use Rattle.plain_table.specs.Table.{Table, Sizes, limit_in}
use Rattle.plain_table.specs.Words.{freelist_place, header_place, entry_place, words_in_all, no_access_word}
use Rattle.plain_table.proofs.WordPlaces.{entry_place-from, entry_place-same, freelist_place-below, freelist_place-same}
use Rattle.word_laws.proofs.EntryWords.{index_cases}
use Rattle.entry_base.specs.Ranks.{takes_in, Rises}
use Rattle.word_laws.specs.CoverLaws.{IsClear, HasSameReferences}
use Rattle.word_laws.proofs.CoverSteps.{IsStep-next}
use Rattle.word_laws.proofs.CoveredWords.{CoveredWordsStay-step}
use Rattle.table_laws.specs.Steady.{IsDuringPhase}
use Rattle.plain_table.specs.History.{next}
use Rattle.plain_table.specs.Shows.{IsCovered}
use Rattle.plain_table.specs.Sound.{IsSound}
use Rattle.entry_base.proofs.FactsStay.{WordsSteady, StaysLinked}

-- no entry without access comes back
pub linked_low : (z : Sizes) (words : List ℕ) (place n : ℕ) → place < 32 + 8 * z.objects → StaysLinked z words (slice_set words place n)
linked_low z words place n low p i below usable e =
    usable (sym (get_or-set_other words place (entry_place z p i) n 0 (λ same. omega (arith, same, low, entry_place-from z p i))) ∙ e)

pub linked_entry : (z : Sizes) (words : List ℕ) (place n : ℕ) → place < length words → n ≢ no_access_word → StaysLinked z words (slice_set words place n)
linked_entry z words place n within usable_now p i below usable e = elim (eqb_tells (entry_place z p i) place) [
  | inl here ↦ usable_now (sym (get_or-set_same words place n 0 within) ∙ (ap (λ j. slice_index (slice_set words place n) j) (sym here.1) ∙ e))
  | inr away ↦ usable (sym (get_or-set_other words place (entry_place z p i) n 0 away.1) ∙ e)
]

-- references after an event that links none
pub references_same : (s t : Table) (later : List ℕ) → HasSameReferences s t → (o k : ℕ) → IfSome t.cycle (λ d. (t.refs o k ≡ s.refs o k) ⊎ IsClear later (t.refs o k))
references_same s t later same o k = go t.cycle
  where
    go : (cycle : Option Cycle) → IfSome cycle (λ d. (t.refs o k ≡ s.refs o k) ⊎ IsClear later (t.refs o k))
    go None = tt
    go (Some c) = inl (same o k)

-- the marking invariant after an event of a phase that changes no header
pub covered_event : (s : Table) (e : Event) (shown later : List ℕ) → IsSound s → IsDuringPhase e.act →
    ((o : ℕ) → o < s.sizes.objects → slice_index later (header_place o) ≡ slice_index shown (header_place o)) →
    ((o k : ℕ) → o < s.sizes.objects → IfSome (next s e).cycle (λ d. ((next s e).refs o k ≡ s.refs o k) ⊎ IsClear later ((next s e).refs o k))) →
    IsCovered shown s → IsCovered later (next s e)
covered_event s e shown later sound during heads refs was =
    CoveredWordsStay-step shown later s (next s e) (IsStep-next s e sound (λ policy is. subst IsDuringPhase is during)) heads
    (all_refs (next s e).cycle refs) was
  where
    all_refs : (cycle : Option Cycle) →
        ((o k : ℕ) → o < s.sizes.objects → IfSome cycle (λ d. ((next s e).refs o k ≡ s.refs o k) ⊎ IsClear later ((next s e).refs o k))) →
        IfSome cycle (λ d. (o k : ℕ) → o < s.sizes.objects → ((next s e).refs o k ≡ s.refs o k) ⊎ IsClear later ((next s e).refs o k))
    all_refs None h = tt
    all_refs (Some d) h = h

module _ (z : Sizes) (log longer : List Event) (s t : Table) (shown : List ℕ) where
  refs_kept : (later : List ℕ) → HasSameReferences s t → (o k : ℕ) → o < z.objects → IfSome t.cycle (λ d. (t.refs o k ≡ s.refs o k) ⊎ IsClear later (t.refs o k))
  refs_kept later same o k below = references_same s t later same o k

  -- no word is changed
  pub still : HasSameReferences s t → ((p : Space) → takes_in p longer ≡ takes_in p log) → WordsSteady z log longer s t shown shown
  still refs takes = record {
    shaded = λ o below h. h;
    entries = λ p i some. inl refl;
    free = λ p i below free usable. refl;
    freelists = λ p. inl (refl, takes p);
    refs = refs_kept shown refs;
  }

  -- a header, whose object is shaded after it
  pub header_steady : (m n : ℕ) → m < z.objects → length shown ≡ words_in_all z → n % 2 ≡ 1 → HasSameReferences s t → ((p : Space) → takes_in p longer ≡ takes_in p log)
      → WordsSteady z log longer s t shown (slice_set shown (header_place m) n)
  header_steady m n made whole odd refs takes = record {
    shaded = λ o below h. elim (eqb_tells o m) [
      | inl e ↦ subst (λ x. slice_index (slice_set shown (header_place m) n) (header_place x) % 2 ≡ 1) (sym e.1)
          (ap (λ x. x % 2) (get_or-set_same shown (header_place m) n 0 (omega (arith, made, whole))) ∙ odd)
      | inr e ↦ let ne : header_place o ≢ header_place m = (λ same. e.1 (omega (arith, same))) in
          ap (λ x. x % 2) (get_or-set_other shown (header_place m) (header_place o) n 0 ne) ∙ h
    ];
    entries = λ p i some. inl (apart p i);
    free = λ p i below free usable. apart p i;
    freelists = λ p. inl (get_or-set_other shown (header_place m) (freelist_place p) n 0 (λ same. omega (arith, same, freelist_place-below p)), takes p);
    refs = refs_kept (slice_set shown (header_place m) n) refs;
  }
    where
      apart : (p : Space) (i : ℕ) → slice_index (slice_set shown (header_place m) n) (entry_place z p i) ≡ slice_index shown (entry_place z p i)
      apart p i = get_or-set_other shown (header_place m) (entry_place z p i) n 0 (λ same. omega (arith, same, made, entry_place-from z p i))

  -- an entry of a used index, which is marked after it where a cell stood there
  pub entry_steady : (p : Space) (i n : ℕ) → i < limit_in z p → IsTrue (t.used p i) → (IsSome (s.cells p i) → IfSome t.cycle (λ d. IsTrue (d.marks p i)))
      → ((q : Space) (j : ℕ) → IsSome (s.cells q j) → j < limit_in z q) → HasSameReferences s t → ((q : Space) → takes_in q longer ≡ takes_in q log)
      → WordsSteady z log longer s t shown (slice_set shown (entry_place z p i) n)
  entry_steady p i n below used marked inside refs takes = record {
    shaded = λ o made h. ap (λ x. x % 2) (get_or-set_other shown (entry_place z p i) (header_place o) n 0 (λ same. omega (arith, same, made, entry_place-from z p i))) ∙ h;
    entries = λ q j some. elim (index_cases p q i j) [
      | inl same ↦ inr (subst₂ (λ r k. IfSome t.cycle (λ d. IsTrue (d.marks r k))) same.0 same.1 (marked (subst₂ (λ r k. IsSome (s.cells r k)) (sym same.0) (sym same.1) some)))
      | inr apart ↦ inl (away q j (inside q j some) apart)
    ];
    free = λ q j low free usable. away q j low (λ same. absurd (let u : IsTrue (t.used q j) = subst₂ (λ r k. IsTrue (t.used r k)) same.0 same.1 used in cc));
    freelists = λ q. inl (get_or-set_other shown (entry_place z p i) (freelist_place q) n 0 (λ same. omega (arith, same, freelist_place-below q, entry_place-from z p i)), takes q);
    refs = refs_kept (slice_set shown (entry_place z p i) n) refs;
  }
    where
      away : (q : Space) (j : ℕ) → j < limit_in z q → ((p ≡ q) × (i ≡ j) → ⊥) → slice_index (slice_set shown (entry_place z p i) n) (entry_place z q j) ≡ slice_index shown (entry_place z q j)
      away q j low apart = get_or-set_other shown (entry_place z p i) (entry_place z q j) n 0 (λ same. apart (entry_place-same z p q i j below low (sym same)))

  -- another word before the entries
  pub low_steady : (place n : ℕ) → place < 32 + 8 * z.objects → ((o : ℕ) → header_place o ≢ place) → ((p : Space) → freelist_place p ≢ place)
      → ((o k : ℕ) → o < z.objects → IfSome t.cycle (λ d. (t.refs o k ≡ s.refs o k) ⊎ IsClear (slice_set shown place n) (t.refs o k))) → ((p : Space) → takes_in p longer ≡ takes_in p log)
      → WordsSteady z log longer s t shown (slice_set shown place n)
  low_steady place n low no_header no_list refs takes = record {
    shaded = λ o made h. ap (λ x. x % 2) (get_or-set_other shown place (header_place o) n 0 (no_header o)) ∙ h;
    entries = λ p i some. inl (apart p i);
    free = λ p i below free usable. apart p i;
    freelists = λ p. inl (get_or-set_other shown place (freelist_place p) n 0 (no_list p), takes p);
    refs = refs;
  }
    where
      apart : (p : Space) (i : ℕ) → slice_index (slice_set shown place n) (entry_place z p i) ≡ slice_index shown (entry_place z p i)
      apart p i = get_or-set_other shown place (entry_place z p i) n 0 (λ same. omega (arith, same, low, entry_place-from z p i))

  -- a freelist word, which rises
  pub list_steady : (p : Space) (n : ℕ) → length shown ≡ words_in_all z → HasSameReferences s t → Rises (slice_index shown (freelist_place p)) (takes_in p log) n (takes_in p longer)
      → ((q : Space) → (p ≡ q → ⊥) → takes_in q longer ≡ takes_in q log) → WordsSteady z log longer s t shown (slice_set shown (freelist_place p) n)
  list_steady p n whole refs up takes = record {
    shaded = λ o made h. ap (λ x. x % 2) (get_or-set_other shown (freelist_place p) (header_place o) n 0 (λ same. omega (arith, same, freelist_place-below p))) ∙ h;
    entries = λ q i some. inl (apart q i);
    free = λ q i below free usable. apart q i;
    freelists = λ q. elim (eqb_tells (freelist_place p) (freelist_place q)) [
      | inl e ↦ let same = freelist_place-same p q e.1 in
          subst (λ r. Rises (slice_index shown (freelist_place r)) (takes_in r log) (slice_index (slice_set shown (freelist_place p) n) (freelist_place r)) (takes_in r longer)) same
          (subst (λ x. Rises (slice_index shown (freelist_place p)) (takes_in p log) x (takes_in p longer)) (sym (get_or-set_same shown (freelist_place p) n 0 (omega (arith, whole, freelist_place-below p)))) up)
      | inr e ↦ inl (get_or-set_other shown (freelist_place p) (freelist_place q) n 0 (λ same. e.1 (sym same)), takes q (λ same. e.1 (ap freelist_place same)))
    ];
    refs = refs_kept (slice_set shown (freelist_place p) n) refs;
  }
    where
      apart : (q : Space) (i : ℕ) → slice_index (slice_set shown (freelist_place p) n) (entry_place z q i) ≡ slice_index shown (entry_place z q i)
      apart q i = get_or-set_other shown (freelist_place p) (entry_place z q i) n 0 (λ same. omega (arith, same, freelist_place-below p, entry_place-from z q i))
