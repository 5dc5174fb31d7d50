-- At the end a freelist leads to the end of the committed entries, and the words show the table once all after it is closed.
use Rattle.std.proofs.Common.{◌≡◌, ◌≢◌, ℕ, ◌+◌, ◌-◌, ◌*◌, ◌/◌, ◌%◌, ◌^◌, ◌<◌, ◌≤◌, List, length, slice_index, Option, Some, None, IsTrue, IsSome, refl, sym, ap, ap₂, subst, ◌∙◌, inl, inr, arith, ext_get_or}
use Rattle.std.proofs.lemmas.Bool.{cases_Bool, cases_lt}
use Rattle.plain_table.specs.declared.events.Cell.{Cell}
use Rattle.plain_table.specs.declared.events.Space.{Space}
use Rattle.plain_table.specs.declared.events.Space.TheVariants.{External, Trusted}
use Rattle.plain_table.specs.Table.{Table, Sizes, limit_of, limit_in}
use Rattle.plain_table.specs.Sound.{IsSound}
use Rattle.plain_table.specs.Words.{freelist_place, entry_place, words_in_all, no_access_word}
use Rattle.plain_table.specs.Shows.{entry_at, SpaceShows, Shows}
use Rattle.plain_table.specs.Near.{IsNear}
use Rattle.plain_table.proofs.SpacesShown.{Shows-space, cell-used}
use Rattle.word_laws.specs.Small.{AreSmall}
use Rattle.word_laws.proofs.EntryBits.{cell_word-open}
use Rattle.free_chain.proofs.Freelists.{IsFreelist-shown}
use Rattle.free_chain.proofs.NextFree.{IsNextFree-next_free}
use Rattle.entry_base.specs.Closing.{walk, end_in, IsClosedFrom, IsTableClosed}

-- what the end needs of one space
pub record Ends (z : Sizes) (words shown : List ℕ) (p : Space) : Type 0 where
  pub committed : ℕ
  pub within : committed ≤ limit_in z p
  pub ends : end_in words z p ≡ committed
  pub open_as_shown : (j : ℕ) → j < committed → slice_index words (entry_place z p j) ≡ slice_index shown (entry_place z p j)
  pub shut : (j : ℕ) → committed ≤ j → j < limit_in z p → slice_index shown (entry_place z p j) ≡ no_access_word

pub place_from : (z : Sizes) (p : Space) (i : ℕ) → entry_place z p i ≡ entry_place z p 0 + i
place_from z External i = omega arith
place_from z Trusted i = omega arith

freelist_low : (z : Sizes) (p : Space) → freelist_place p < 32 + 8 * z.objects
freelist_low z External = omega arith
freelist_low z Trusted = omega arith

module _ (s : Table) (shown words : List ℕ) (few : AreSmall s.sizes) (sound : IsSound s) (shows : Shows shown s) (near : IsNear s.sizes words shown) (p : Space) where
  here : (committed : ℕ) × SpaceShows s p (λ i. slice_index shown (entry_place s.sizes p i)) (slice_index shown (freelist_place p)) committed
  here = Shows-space shown s p shows

  fits : here.0 < 2 ^ 32
  fits = let a = here.1.within in let b = few.few p in omega arith

  -- an entry of a committed segment can be used
  usable : (j : ℕ) → j < here.0 → slice_index shown (entry_place s.sizes p j) ≢ no_access_word
  usable j below e = elim (cases_lt 0 j) [
    | inr none ↦ (let z0 : j ≡ 0 = omega arith in let w : slice_index shown (entry_place s.sizes p j) ≡ 0 = ap (λ i. slice_index shown (entry_place s.sizes p i)) z0 ∙ here.1.null in omega (arith, w, e))
    | inl some ↦ elim (cases_Bool (s.used p j)) [
      | inl used ↦ by_cell some (s.cells p j) refl used
      | inr free ↦ (let w = here.1.free j some below free in let n = (IsNextFree-next_free (s.used p) (j + 1) here.0 (omega arith)).within in let f = fits in omega (arith, w, e, n, f))
    ]
  ]
    where
      by_entry : 0 < j → (o : Option ℕ) → entry_at s p j ≡ o → s.cells p j ≡ None → IsTrue (s.used p j) → ⊥
      by_entry some (Some number) is none used = (let w = here.1.evacuated j number is in omega (arith, w, e))
      by_entry some None is none used = (let w = here.1.empty j (record { used = used; later = some; no_cell = none; no_entry = is }) in let a = w.1 in let b = w.2 in omega (arith, a, b, e))

      by_cell : 0 < j → (o : Option Cell) → s.cells p j ≡ o → IsTrue (s.used p j) → ⊥
      by_cell some (Some cell) is used =
          let w = here.1.cells j cell is in
          let good = sound.cells.tags p j cell is in
          cell_word-open cell w.0 good.0.1 good.1 good.0.0 (sym w.1 ∙ e)
      by_cell some None is used = by_entry some (entry_at s p j) refl is used

  as_shown : (j : ℕ) → j < here.0 → slice_index words (entry_place s.sizes p j) ≡ slice_index shown (entry_place s.sizes p j)
  as_shown j below = elim (near.entries p j (let a = here.1.within in omega arith)) [
    | inl is ↦ is
    | inr other ↦ absurd (usable j below other.0)
  ]

  -- the same table with no segment but the committed ones: the present words show this space of it
  abbrev committed_table : Table
  committed_table = record s { sizes = record { seg = here.0; ext = 1; tru = 1; objects = s.sizes.objects } }

  committed_limit : limit_of committed_table p ≡ here.0
  committed_limit = by_space p
    where
      by_space : (q : Space) → limit_in (record { seg = here.0; ext = 1; tru = 1; objects = s.sizes.objects }) q ≡ here.0
      by_space External = omega arith
      by_space Trusted = omega arith

  abbrev entry : ℕ → ℕ
  entry i = slice_index words (entry_place s.sizes p 0 + i)

  entry_shown : (i : ℕ) → i < here.0 → entry i ≡ slice_index shown (entry_place s.sizes p i)
  entry_shown i below = ap (slice_index words) (sym (place_from s.sizes p i)) ∙ as_shown i below

  entry_low : (i number : ℕ) → entry_at s p i ≡ Some number → i < here.0
  entry_low i number is = here.1.used i (by_space p is)
    where
      by_space : (q : Space) → entry_at s q i ≡ Some number → IsTrue (s.used q i)
      by_space External e = (sound.used.entries i (subst (λ o. IsSome o) (sym e) refl)).0
      by_space Trusted e = absurd (cc)

  committed_shown : SpaceShows committed_table p entry (slice_index words (freelist_place p)) here.0
  committed_shown = record {
    segments = (1, omega arith);
    within = let l = committed_limit in omega arith;
    used = here.1.used;
    null = entry_shown 0 (here.1.used 0 (sound.used.first p)) ∙ here.1.null;
    cells = λ i cell is.
        let found = here.1.cells i cell is in
        (found.0, entry_shown i (here.1.used i (cell-used s p i sound (subst (λ o. IsSome o) (sym is) refl))) ∙ found.1, found.2);
    evacuated = λ i number is. entry_shown i (entry_low i number is) ∙ here.1.evacuated i number is;
    free = λ i low below is. entry_shown i below ∙ here.1.free i low below is;
    empty = λ i is.
        let found = here.1.empty i (record { used = is.used; later = is.later; no_cell = is.no_cell; no_entry = is.no_entry }) in
        (found.0, found.1, entry_shown i (here.1.used i is.used) ∙ found.2);
    closed = λ i from below. absurd (let l = committed_limit in omega arith);
    list = near.low (freelist_place p) (freelist_low s.sizes p) ∙ here.1.list;
  }

  pub space_ends : Ends s.sizes words shown p
  space_ends = record {
    committed = here.0;
    within = here.1.within;
    ends = (IsFreelist-shown committed_table p entry (slice_index words (freelist_place p)) here.0 committed_shown (sound.used.first p) (subst (λ n. n < 2 ^ 32) (sym committed_limit) fits)).last;
    open_as_shown = as_shown;
    shut = here.1.closed;
  }

-- the words that are left are those that show the table
pub closed_words : (z : Sizes) (s : Table) (shown words later : List ℕ) → s.sizes ≡ z → AreSmall z → IsSound s → Shows shown s → IsNear z words shown → IsTableClosed z words later → later ≡ shown
closed_words z s shown words later same few sound shows near closed = ext_get_or 0 later shown whole each
  where
    ext : Ends z words shown External
    ext = subst (λ x. Ends x words shown External) same (space_ends s shown words (subst AreSmall (sym same) few) sound shows (subst (λ x. IsNear x words shown) (sym same) near) External)

    tru : Ends z words shown Trusted
    tru = subst (λ x. Ends x words shown Trusted) same (space_ends s shown words (subst AreSmall (sym same) few) sound shows (subst (λ x. IsNear x words shown) (sym same) near) Trusted)

    whole : length later ≡ length shown
    whole = closed.trusted.long ∙ (closed.external.long ∙ near.whole)

    sized : length shown ≡ words_in_all z
    sized = shows.whole ∙ ap words_in_all same

    -- a place of a space
    ahead : (p : Space) (i : ℕ) → entry_place z p 0 ≤ i → entry_place z p (i - entry_place z p 0) ≡ i
    ahead p i from = place_from z p (i - entry_place z p 0) ∙ omega arith

    each : (i : ℕ) → i < length later → slice_index later i ≡ slice_index shown i
    each i below = elim (cases_lt i (entry_place z External 0)) [
      | inl low ↦ closed.trusted.other i (inl (omega arith)) ∙ (closed.external.other i (inl (omega arith)) ∙ near.low i (omega arith))
      | inr from ↦ elim (cases_lt i (entry_place z Trusted 0)) [
        | inl first ↦ elim (cases_lt i (entry_place z External 0 + end_in words z External)) [
          | inl near_open ↦ closed.trusted.other i (inl (omega arith)) ∙ (closed.external.other i (inl near_open) ∙ subst (λ x. slice_index words x ≡ slice_index shown x) (ahead External i from) (ext.open_as_shown (i - entry_place z External 0) (let e = ext.ends in omega arith)))
          | inr shut ↦ closed.trusted.other i (inl (omega arith)) ∙ (closed.external.closed i shut (omega arith) ∙ sym (subst (λ x. slice_index shown x ≡ no_access_word) (ahead External i from) (ext.shut (i - entry_place z External 0) (let e = ext.ends in omega arith) (omega arith))))
        ]
        | inr second ↦ elim (cases_lt i (entry_place z Trusted 0 + end_in words z Trusted)) [
          | inl near_open ↦ closed.trusted.other i (inl near_open) ∙ (closed.external.other i (inr (omega arith)) ∙ subst (λ x. slice_index words x ≡ slice_index shown x) (ahead Trusted i second) (tru.open_as_shown (i - entry_place z Trusted 0) (let e = tru.ends in omega arith)))
          | inr shut ↦ closed.trusted.closed i shut (let w = whole in let s = sized in omega arith) ∙ sym (subst (λ x. slice_index shown x ≡ no_access_word) (ahead Trusted i second) (tru.shut (i - entry_place z Trusted 0) (let e = tru.ends in omega arith) (let w = whole in let s = sized in omega arith)))
        ]
      ]
    ]

pub table_closed : (z : Sizes) (words middle later : List ℕ) (first second ext_end tru_end end : ℕ) → first ≡ entry_place z External 0 → second ≡ entry_place z Trusted 0 → end ≡ entry_place z Trusted 0 + limit_in z Trusted
    → ext_end ≡ walk words first (slice_index words 0 / 2 ^ 32) (slice_index words 0 % 2 ^ 32) → tru_end ≡ walk words second (slice_index words 2 / 2 ^ 32) (slice_index words 2 % 2 ^ 32)
    → IsClosedFrom words (first + ext_end) second middle → IsClosedFrom middle (second + tru_end) end later → IsTableClosed z words later
table_closed z words middle later first second ext_end tru_end end f s l ext tru a b = record {
  middle = middle;
  external =
      let e : first + ext_end ≡ entry_place z External 0 + end_in words z External = ap₂ (λ x y. x + y) f (ext ∙ ap (λ x. walk words x (slice_index words 0 / 2 ^ 32) (slice_index words 0 % 2 ^ 32)) f) in
      let t : second ≡ entry_place z External 0 + limit_in z External = omega (arith, s) in
      subst (λ x. IsClosedFrom words x (entry_place z External 0 + limit_in z External) middle) e (subst (λ x. IsClosedFrom words (first + ext_end) x middle) t a);
  trusted =
      let e : second + tru_end ≡ entry_place z Trusted 0 + end_in words z Trusted = ap₂ (λ x y. x + y) s (tru ∙ ap (λ x. walk words x (slice_index words 2 / 2 ^ 32) (slice_index words 2 % 2 ^ 32)) s) in
      subst (λ x. IsClosedFrom middle x (entry_place z Trusted 0 + limit_in z Trusted) later) e (subst (λ x. IsClosedFrom middle (second + tru_end) x later) l b);
}
