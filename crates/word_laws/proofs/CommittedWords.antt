-- A commit of a segment: there are words in which it is committed, and these show the same table and are near the present
-- words, whose entries were linked before.
use Rattle.std.proofs.Common.{◌≡◌, ◌≢◌, ◌⊎◌, ℕ, zero, suc, ◌+◌, ◌-◌, ◌*◌, ◌^◌, ◌<◌, ◌≤◌, List, length, slice_index, slice_set, Option, Some, None, IsTrue, refl, sym, subst, ◌∙◌, inl, inr, arith, length-set, get_or-set_same, get_or-set_other}
use Rattle.std.proofs.lemmas.Bool.{cases_lt}
use Rattle.std.proofs.lemmas.Bool.Decides.{eqb_tells}
use Rattle.std.proofs.lemmas.List.{get_or_past}
use Rattle.plain_table.specs.declared.events.Space.{Space}
use Rattle.plain_table.specs.declared.events.Space.TheVariants.{External, Trusted}
use Rattle.plain_table.specs.Table.{Table, Sizes, limit_in, limit_of, least_from}
use Rattle.plain_table.specs.Words.{freelist_place, global_place, header_place, reference_place, field_place, entry_place, words_in_all, free_word, freelist_word}
use Rattle.plain_table.specs.Near.{IsNear}
use Rattle.plain_table.specs.Shows.{IsHeader, SpaceShows, SpaceShownBy, Shows}
use Rattle.plain_table.proofs.PlaceReads.{same_space-tells}
use Rattle.plain_table.proofs.SegmentEnds.{segment-fits, segment-some}
use Rattle.plain_table.proofs.SpacesShown.{Shows-space}
use Rattle.plain_table.proofs.WordPlaces.{field_place-from, field_place-below, entry_place-from, entry_place-below, entry_place-same, freelist_place-below, freelist_place-same, freelist-apart-area}
use Rattle.word_laws.specs.WordLaws.{HasSoundIndexes}
use Rattle.word_laws.specs.SegmentLaws.{IsCommitted, SegmentsCanBeCommitted, CommittedWordsFollow, CommittedWordsStayNear}
use Rattle.word_laws.proofs.CommittedSpaces.{SpaceShows-same, SpaceShows-grown}
use Rattle.word_laws.proofs.FreelistReads.{list-none, list-some}

-- the entries of a segment, from an index on, linked one after another
abbrev linked_from : Sizes → Space → ℕ → ℕ → List ℕ → List ℕ
linked_from sizes p head zero words = words
linked_from sizes p head (suc m) words =
    slice_set (linked_from sizes p head m words) (entry_place sizes p (head + m)) (free_word (head + m + 1))

module _ (sizes : Sizes) (p : Space) (head : ℕ) (words : List ℕ) where
  linked_from-length : (m : ℕ) → length (linked_from sizes p head m words) ≡ length words
  linked_from-length zero = refl
  linked_from-length (suc m) =
      length-set (linked_from sizes p head m words) (entry_place sizes p (head + m)) (free_word (head + m + 1)) ∙ linked_from-length m

  linked_from-other : (m place : ℕ) → ((i : ℕ) → head ≤ i → i < head + m → place ≢ entry_place sizes p i) →
      slice_index (linked_from sizes p head m words) place ≡ slice_index words place
  linked_from-other zero place apart = refl
  linked_from-other (suc m) place apart =
      get_or-set_other (linked_from sizes p head m words) (entry_place sizes p (head + m)) place (free_word (head + m + 1)) 0
      (apart (head + m) (omega arith) (omega arith))
      ∙ linked_from-other m place (λ i from below. apart i from (omega (arith, below)))

  module _ (whole : length words ≡ words_in_all sizes) where
    linked_from-at : (m i : ℕ) → head + m ≤ limit_in sizes p → head ≤ i → i < head + m →
        slice_index (linked_from sizes p head m words) (entry_place sizes p i) ≡ free_word (i + 1)
    linked_from-at zero i room from below = absurd (omega (arith, from, below))
    linked_from-at (suc m) i room from below = elim (eqb_tells i (head + m)) [
      | inl e ↦
          subst (λ j. slice_index (linked_from sizes p head (suc m) words) (entry_place sizes p j) ≡ free_word (j + 1)) (sym e.1)
          (get_or-set_same (linked_from sizes p head m words) (entry_place sizes p (head + m)) (free_word (head + m + 1)) 0
          (omega (arith, linked_from-length m, whole, entry_place-below sizes p (head + m) (omega (arith, room)))))
      | inr e ↦
          get_or-set_other (linked_from sizes p head m words) (entry_place sizes p (head + m)) (entry_place sizes p i) (free_word (head + m + 1)) 0
          (λ same. e.1 (entry_place-same sizes p p i (head + m) (omega (arith, room, below)) (omega (arith, room)) same).1)
          ∙ linked_from-at m i (omega (arith, room)) from (omega (arith, below, e.1))
    ]

    IsCommitted-linked : head + sizes.seg ≤ limit_in sizes p →
        IsCommitted sizes p head words (slice_set (linked_from sizes p head sizes.seg words) (freelist_place p) (freelist_word head sizes.seg))
    IsCommitted-linked room = record {
      whole = length-set (linked_from sizes p head sizes.seg words) (freelist_place p) (freelist_word head sizes.seg) ∙ linked_from-length sizes.seg;
      list = get_or-set_same (linked_from sizes p head sizes.seg words) (freelist_place p) (freelist_word head sizes.seg) 0
          (omega (arith, linked_from-length sizes.seg, whole, freelist_place-below p));
      linked = λ i from below.
          get_or-set_other (linked_from sizes p head sizes.seg words) (freelist_place p) (entry_place sizes p i) (freelist_word head sizes.seg) 0
          (λ same. omega (arith, same, freelist_place-below p, entry_place-from sizes p i))
          ∙ linked_from-at sizes.seg i room from below;
      others = λ place apart away.
          get_or-set_other (linked_from sizes p head sizes.seg words) (freelist_place p) place (freelist_word head sizes.seg) 0 apart
          ∙ linked_from-other sizes.seg place away;
    }

pub SegmentsCanBeCommitted-linked : SegmentsCanBeCommitted
SegmentsCanBeCommitted-linked sizes words p head whole room =
    (slice_set (linked_from sizes p head sizes.seg words) (freelist_place p) (freelist_word head sizes.seg), IsCommitted-linked sizes p head words whole room)

-- what a commit leaves as it was: words before the entries, and entries of other segments
module _ {sizes : Sizes} {p : Space} {head : ℕ} {words committed : List ℕ} (is : IsCommitted sizes p head words committed) where
  pub IsCommitted-low : (place : ℕ) → place < 32 + 8 * sizes.objects → place ≢ freelist_place p → slice_index committed place ≡ slice_index words place
  IsCommitted-low place low apart = is.others place apart (λ i from below same. omega (arith, same, low, entry_place-from sizes p i))

  pub IsCommitted-entry : head + sizes.seg ≤ limit_in sizes p → (q : Space) (j : ℕ) → j < limit_in sizes q →
      ((p ≡ q) × (head ≤ j) × (j < head + sizes.seg) → ⊥) → slice_index committed (entry_place sizes q j) ≡ slice_index words (entry_place sizes q j)
  IsCommitted-entry room q j less apart =
      is.others (entry_place sizes q j) (λ same. omega (arith, same, entry_place-from sizes q j, freelist_place-below p))
      (λ i from below same.
      let one = entry_place-same sizes p q i j (omega (arith, room, below)) less (sym same) in
      apart (one.0, omega (arith, one.1, from), omega (arith, one.1, below)))

-- the table is shown
module _ (words committed : List ℕ) (s : Table) (p : Space) (head : ℕ) (sound : HasSoundIndexes s) (few : limit_of s p < 2 ^ 32) (shows : Shows words s)
    (empty : slice_index words (freelist_place p) ≡ freelist_word head 0) (below : head < limit_of s p) (is : IsCommitted s.sizes p head words committed) where
  -- an empty list ends where the committed segments do, and all indexes below are used
  ends : (end : ℕ) → SpaceShows s p (λ i. slice_index words (entry_place s.sizes p i)) (slice_index words (freelist_place p)) end →
      (end ≡ head) × ((j : ℕ) → j < end → IsTrue (s.used p j))
  ends end space = by_case (least_from (s.used p) 1 (end - 1)) refl
    where
      by_case : (found : Option ℕ) → least_from (s.used p) 1 (end - 1) ≡ found → (end ≡ head) × ((j : ℕ) → j < end → IsTrue (s.used p j))
      by_case None found =
          let known = list-none (s.used p) (limit_of s p) end (slice_index words (freelist_place p)) space.list space.within few (sound.first p) found in
          (omega (arith, known.2, empty, below, few), known.1)
      by_case (Some k) found =
          let known = list-some (s.used p) (limit_of s p) end (slice_index words (freelist_place p)) space.list space.within few k found in
          absurd (known.2 (omega (arith, known.1, empty, below, few)))

  own : SpaceShownBy words s p
  own = Shows-space words s p shows

  room : head + s.sizes.seg ≤ limit_of s p
  room = segment-fits s.sizes p head own.1.segments.0 (sym (ends own.0 own.1).0 ∙ own.1.segments.1) below

  low : (place : ℕ) → place < 32 + 8 * s.sizes.objects → place ≢ freelist_place p → slice_index committed place ≡ slice_index words place
  low = IsCommitted-low is

  entry : (q : Space) (j : ℕ) → j < limit_of s q → ((p ≡ q) × (head ≤ j) × (j < head + s.sizes.seg) → ⊥) →
      slice_index committed (entry_place s.sizes q j) ≡ slice_index words (entry_place s.sizes q j)
  entry = IsCommitted-entry is room

  grown : SpaceShownBy committed s p
  grown =
      let end = ends own.0 own.1 in
      let first = own.1.used 0 (sound.first p) in (
        head + s.sizes.seg,
        subst (λ x. SpaceShows s p (λ i. slice_index committed (entry_place s.sizes p i)) x (head + s.sizes.seg)) (sym is.list)
            (SpaceShows-grown s p sound (λ i. slice_index words (entry_place s.sizes p i)) (λ i. slice_index committed (entry_place s.sizes p i)) head
            (omega (arith, end.0, first)) (segment-some s.sizes p head below) room (λ j less. end.1 j (omega (arith, end.0, less)))
            (λ j less. entry p j (omega (arith, less, below)) (λ inside. omega (arith, inside.1, less)))
            (λ j from less. entry p j less (λ inside. omega (arith, inside.2, from))) is.linked (slice_index words (freelist_place p))
            (subst (λ x. SpaceShows s p (λ i. slice_index words (entry_place s.sizes p i)) (slice_index words (freelist_place p)) x) end.0 own.1)),
      )

  space : (q : Space) → SpaceShownBy committed s q
  space q = elim (same_space-tells p q) [
    | inl same ↦ subst (SpaceShownBy committed s) same.1 grown
    | inr apart ↦
        let was = Shows-space words s q shows in (
          was.0,
          SpaceShows-same s q sound (λ i. slice_index words (entry_place s.sizes q i)) (λ i. slice_index committed (entry_place s.sizes q i))
              (slice_index words (freelist_place q)) (slice_index committed (freelist_place q)) was.0
              (λ j less. entry q j less (λ inside. apart.1 inside.0))
              (low (freelist_place q) (omega (arith, freelist_place-below q)) (λ same. apart.1 (freelist_place-same p q (sym same)))) was.1,
        )
  ]

  Shows-committed : Shows committed s
  Shows-committed = record {
    whole = is.whole ∙ shows.whole;
    area = low 1 (omega arith) (λ e. freelist-apart-area p (sym e)) ∙ shows.area;
    count = low 3 (omega arith) (λ e. omega (arith, e, freelist_place-below p)) ∙ shows.count;
    phase = low 4 (omega arith) (λ e. omega (arith, e, freelist_place-below p)) ∙ shows.phase;
    spare = λ i from less. low i (omega (arith, less)) (λ e. omega (arith, e, freelist_place-below p, from)) ∙ shows.spare i from less;
    globals = λ g least. low (global_place g) (omega (arith, least)) (λ e. omega (arith, e, freelist_place-below p)) ∙ shows.globals g least;
    headers = λ o made. subst (λ x. IsHeader s s.cycle o x)
        (sym (low (header_place o) (omega (arith, made)) (λ e. omega (arith, e, freelist_place-below p)))) (shows.headers o made);
    references = λ o k made least.
        low (reference_place o k) (omega (arith, made, least)) (λ e. omega (arith, e, freelist_place-below p)) ∙ shows.references o k made least;
    fields = λ f made.
        low (field_place f) (field_place-below f s.sizes.objects made) (λ e. omega (arith, e, freelist_place-below p, field_place-from f)) ∙ shows.fields f made;
    external = space External;
    trusted = space Trusted;
  }

pub CommittedWordsFollow-shown : CommittedWordsFollow
CommittedWordsFollow-shown words committed s p head sound few shows empty below is = Shows-committed words committed s p head sound few shows empty below is

-- the present words are near
module _ (sizes : Sizes) (words shown committed : List ℕ) (p : Space) (head : ℕ) (near : IsNear sizes words shown) (room : head + sizes.seg ≤ limit_in sizes p)
    (is : IsCommitted sizes p head shown committed)
    (linked : (i : ℕ) → head ≤ i → i < head + sizes.seg → slice_index words (entry_place sizes p i) ≡ free_word (i + 1)) where
  abbrev now : List ℕ
  now = slice_set words (freelist_place p) (freelist_word head sizes.seg)

  now-list : slice_index now (freelist_place p) ≡ slice_index committed (freelist_place p)
  now-list = elim (cases_lt (freelist_place p) (length words)) [
    | inl within ↦ get_or-set_same words (freelist_place p) (freelist_word head sizes.seg) 0 within ∙ sym is.list
    | inr past ↦
        get_or_past now (freelist_place p) 0 (omega (arith, length-set words (freelist_place p) (freelist_word head sizes.seg), past))
        ∙ sym (get_or_past committed (freelist_place p) 0 (omega (arith, is.whole, near.whole, past)))
  ]

  now-entry : (q : Space) (j : ℕ) → slice_index now (entry_place sizes q j) ≡ slice_index words (entry_place sizes q j)
  now-entry q j = get_or-set_other words (freelist_place p) (entry_place sizes q j) (freelist_word head sizes.seg) 0
      (λ same. omega (arith, same, entry_place-from sizes q j, freelist_place-below p))

  in_segment : (q : Space) (j : ℕ) → ((p ≡ q) × (head ≤ j) × (j < head + sizes.seg)) ⊎ ((p ≡ q) × (head ≤ j) × (j < head + sizes.seg) → ⊥)
  in_segment q j = elim (same_space-tells p q) [
    | inr apart ↦ inr (λ t. apart.1 t.0)
    | inl same ↦ elim (cases_lt j head) [
      | inl low ↦ inr (λ t. omega (arith, t.1, low))
      | inr from ↦ elim (cases_lt j (head + sizes.seg)) [
        | inl below ↦ inl (same.1, from, below)
        | inr past ↦ inr (λ t. omega (arith, t.2, past))
      ]
    ]
  ]

  IsNear-committed : IsNear sizes now committed
  IsNear-committed = record {
    whole = length-set words (freelist_place p) (freelist_word head sizes.seg) ∙ near.whole ∙ sym is.whole;
    low = λ i below. elim (eqb_tells i (freelist_place p)) [
      | inl e ↦ subst (λ j. slice_index now j ≡ slice_index committed j) (sym e.1) now-list
      | inr e ↦
          get_or-set_other words (freelist_place p) i (freelist_word head sizes.seg) 0 e.1 ∙ near.low i below ∙ sym (IsCommitted-low is i below e.1)
    ];
    entries = λ q j below. elim (in_segment q j) [
      | inl inside ↦ inl (subst (λ r. slice_index now (entry_place sizes r j) ≡ slice_index committed (entry_place sizes r j)) inside.0
          (now-entry p j ∙ linked j inside.1 inside.2 ∙ sym (is.linked j inside.1 inside.2)))
      | inr outside ↦
          let stays = IsCommitted-entry is room q j below outside in
          elim (near.entries q j below) [
            | inl same ↦ inl (now-entry q j ∙ same ∙ sym stays)
            | inr ahead ↦ inr (stays ∙ ahead.0, now-entry q j ∙ ahead.1)
          ]
    ];
  }

pub CommittedWordsStayNear-near : CommittedWordsStayNear
CommittedWordsStayNear-near sizes words shown committed p head near room is linked = IsNear-committed sizes words shown committed p head near room is linked
