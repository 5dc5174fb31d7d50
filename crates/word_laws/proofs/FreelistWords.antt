-- Freelist words: after a take, the list with the word of the shorter list shows the table.
use Rattle.std.proofs.Common.{◌≡◌, ◌≢◌, ◌+◌, ◌-◌, ◌/◌, ◌^◌, ◌<◌, ◌≤◌, ℕ, Bool, true, false, not, List, slice_index, slice_set, Option, Some, None, unwrap_or, IsTrue, refl, sym, ap, ap₂, subst, subst₂, ◌∙◌, inl, inr, arith, true≢false}
use Rattle.std.specs.Option.{option_map_or}
use Rattle.std.proofs.lemmas.Bool.{cases_lt, not_from_true, not_from_false}
use Rattle.std.proofs.lemmas.Bool.Decides.{eqb_tells}
use Rattle.std.proofs.lemmas.Option.{same_Some}
use Rattle.plain_table.specs.declared.events.Act.{Act}
use Rattle.plain_table.specs.declared.events.Act.TheVariants.{Take, Below}
use Rattle.plain_table.specs.declared.events.Cell.{Cell}
use Rattle.plain_table.specs.declared.events.Space.{Space}
use Rattle.plain_table.specs.declared.events.Field.{Field}
use Rattle.plain_table.specs.declared.reports.Reply.{Reply}
use Rattle.plain_table.specs.declared.reports.Reply.TheVariants as reply
use Rattle.plain_table.specs.Places.{put_entry}
use Rattle.plain_table.specs.Area.{count_below}
use Rattle.plain_table.specs.Table.{Table, Sizes, limit_of, least_from, least_free, limit_in}
use Rattle.plain_table.specs.Rows.{row, free_below, with_taken}
use Rattle.plain_table.specs.Words.{freelist_place, entry_place, free_word, freelist_word, next_free}
use Rattle.plain_table.specs.Shows.{Shows}
use Rattle.word_laws.specs.WordLaws.{TakesFrom, FreelistWordsFollow}
use Rattle.plain_table.proofs.PlaceReads.{same_space-tells, read_entry}
use Rattle.plain_table.proofs.FreeReads.{next_free-le, least_from-some, free_below-some}
use Rattle.plain_table.proofs.FreeLists.{least_from-before, least_from-same, least_from-past, count_below-less}
use Rattle.plain_table.proofs.WordPlaces.{entry_place-from, freelist_place-below, freelist_place-same, freelist-apart-area}
use Rattle.word_laws.proofs.ShownParts.{SpaceIs, SpaceIn, LowShown, SpacesShown, Shown, ShownParts, ShownParts-Shows, Shows-ShownParts}
use Rattle.word_laws.proofs.WordChanges.{Changed, Changed-slice_set, HeapShown-kept}
use Rattle.word_laws.proofs.FreelistReads.{list-none, list-some}

-- a space after a take of the head of its list: the index is used and links the next one, which becomes the head
module _ {seg limit : ℕ} {used other : ℕ → Bool} {cells : ℕ → Option Cell} {evac : ℕ → Option ℕ} {IsMark : ℕ → Bool → Type 0} {entry entry_new : ℕ → ℕ} {freelist freelist_new committed : ℕ} (i link len : ℕ) where
  SpaceIs-taken : limit < 2 ^ 32 → least_from used 1 (committed - 1) ≡ Some i → other i ≡ true → ((k : ℕ) → i ≢ k → other k ≡ used k) →
      count_below (λ k. not (used k)) committed ≡ len + 1 → entry i ≡ free_word link → freelist_new ≡ freelist_word link len → ((k : ℕ) → entry_new k ≡ entry k) →
      SpaceIs seg limit used cells evac IsMark entry freelist committed → SpaceIs seg limit other cells evac IsMark entry_new freelist_new committed
  SpaceIs-taken few found now same count links list reads is = record {
    segments = is.segments;
    within = is.within;
    taken = λ k stands. elim (eqb_tells i k) [
      | inl e ↦ omega (arith, e.1, below)
      | inr e ↦ is.taken k (sym (same k e.1) ∙ stands)
    ];
    null = reads 0 ∙ is.null;
    filled = λ k cell stands. ((is.filled k cell stands).0, reads k ∙ (is.filled k cell stands).1, (is.filled k cell stands).2);
    evacuated = λ k number stands. reads k ∙ is.evacuated k number stands;
    free = λ k later under free.
        let apart : i ≢ k = not_same k free in
        let was : used k ≡ false = sym (same k apart) ∙ free in
        reads k ∙ is.free k later under was ∙ ap free_word (ap (λ o. unwrap_or o committed) (sym (least_from-same used other (k + 1) (committed - (k + 1)) (λ m from. same m (past k m later was from)))));
    empty = λ k stands. elim (eqb_tells i k) [
      | inl e ↦ (
        next_free used (i + 1) committed,
        omega (arith, next_free-le used (i + 1) committed, is.within, few),
        reads k ∙ ap entry (sym e.1) ∙ is.free i some below free,
      )
      | inr e ↦
          let known = is.empty k (record { taken = sym (same k e.1) ∙ stands.taken; later = stands.later; no_cell = stands.no_cell; no_entry = stands.no_entry }) in
          (known.0, known.1, reads k ∙ known.2)
    ];
    closed = λ k past under. reads k ∙ is.closed k past under;
    list = list ∙ ap₂ freelist_word (link_next ∙ sym head) (sym shorter);
  }
    where
      free : used i ≡ false
      free = (least_from-some used 1 (committed - 1) i found).0

      some : 1 ≤ i
      some = (least_from-some used 1 (committed - 1) i found).1

      below : i < committed
      below = omega (arith, some, (least_from-some used 1 (committed - 1) i found).2)

      not_same : (k : ℕ) → other k ≡ false → i ≢ k
      not_same k is_free e = absurd (true≢false (sym now ∙ ap other e ∙ is_free))

      -- what is not used stands after the head
      past : (k m : ℕ) → 1 ≤ k → used k ≡ false → k + 1 ≤ m → i ≢ m
      past k m later was from e = elim (cases_lt k i) [
        | inl less ↦ true≢false (sym (least_from-before used 1 (committed - 1) i found k later less) ∙ was)
        | inr more ↦ omega (arith, more, from, e)
      ]

      link_next : link ≡ next_free used (i + 1) committed
      link_next = let words : free_word link ≡ free_word (next_free used (i + 1) committed) = sym links ∙ is.free i some below free in omega (arith, words)

      passed : (k : ℕ) → 1 ≤ k → k < 1 + i → other k ≡ true
      passed k from to = elim (eqb_tells i k) [
        | inl e ↦ ap other (sym e.1) ∙ now
        | inr e ↦ same k e.1 ∙ least_from-before used 1 (committed - 1) i found k from (omega (arith, to, e.1))
      ]

      head : next_free other 1 committed ≡ next_free used (i + 1) committed
      head =
          let one_more : 1 + i ≡ i + 1 = omega arith in
          ap (λ o. unwrap_or o committed)
          (least_from-past other 1 i committed passed (omega (arith, below))
          ∙ ap (λ k. least_from other k (committed - k)) one_more
          ∙ least_from-same used other (i + 1) (committed - (i + 1)) (λ m from. same m (λ e. omega (arith, e, from))))

      shorter : count_below (λ k. not (other k)) committed ≡ len
      shorter =
          let less : count_below (λ k. not (used k)) committed ≡ count_below (λ k. not (other k)) committed + 1 =
          count_below-less (λ k. not (used k)) (λ k. not (other k)) committed i below (not_from_false (used i) free) (not_from_true (other i) now) (λ k apart. ap not (same k apart)) in
          omega (arith, less, count)

-- a space whose used indexes and words are the same
SpaceIs-same : {seg limit : ℕ} {used other : ℕ → Bool} {cells : ℕ → Option Cell} {evac : ℕ → Option ℕ} {IsMark : ℕ → Bool → Type 0} {entry entry_new : ℕ → ℕ} {freelist freelist_new committed : ℕ} →
    used ≡ other → entry ≡ entry_new → freelist ≡ freelist_new →
    SpaceIs seg limit used cells evac IsMark entry freelist committed → SpaceIs seg limit other cells evac IsMark entry_new freelist_new committed
SpaceIs-same {seg} {limit} {other} {cells} {evac} {IsMark} {entry_new} {freelist} {committed} u e f is =
    subst (λ l. SpaceIs seg limit other cells evac IsMark entry_new l committed) f
    (subst₂ (λ v r. SpaceIs seg limit v cells evac IsMark r freelist committed) u e is)

module _ {words changed : List ℕ} (p : Space) (w : ℕ) (h : Changed words changed (freelist_place p) w) where
  LowShown-freelist : {count area phase : ℕ} {globals : ℕ → Option ℕ} → LowShown words count area phase globals → LowShown changed count area phase globals
  LowShown-freelist low = record {
    at_area = h.there _ (λ e. freelist-apart-area p (sym e)) ∙ low.at_area;
    at_count = h.there _ (λ e. omega (arith, e, freelist_place-below p)) ∙ low.at_count;
    at_phase = h.there _ (λ e. omega (arith, e, freelist_place-below p)) ∙ low.at_phase;
    spare = λ k from to. h.there k (λ e. omega (arith, e, from, freelist_place-below p)) ∙ low.spare k from to;
    at_globals = λ g few. h.there _ (λ e. omega (arith, e, freelist_place-below p)) ∙ low.at_globals g few;
  }

module _ {words changed : List ℕ} {sizes : Sizes} (p : Space) (i link len : ℕ) (h : Changed words changed (freelist_place p) (freelist_word link len)) where
  SpacesShown-taken : {used : Space → ℕ → Bool} {cells : Space → ℕ → Option Cell} {evac : Space → ℕ → Option ℕ} {IsMark : Space → ℕ → Bool → Type 0} →
      limit_in sizes p < 2 ^ 32 → slice_index words (entry_place sizes p i) ≡ free_word link →
      (old : SpacesShown words sizes used cells evac IsMark) → least_from (used p) 1 ((old.spaces p).0 - 1) ≡ Some i →
      count_below (λ k. not (used p k)) (old.spaces p).0 ≡ len + 1 →
      SpacesShown changed sizes (put_entry used p i true) cells evac IsMark
  SpacesShown-taken {used} {cells} {evac} {IsMark} few links old found count = record {
    spaces = λ q. elim (same_space-tells p q) [
      | inl r ↦ subst (λ r. (committed : ℕ) × SpaceIn changed sizes r (put_entry used p i true r) (cells r) (evac r) (IsMark r) committed) r.1 ((old.spaces p).0, own)
      | inr r ↦ (
        (old.spaces q).0,
        SpaceIs-same
            (λ t k. sym (elsewhere q k r.1) t) (λ t k. sym (reads q k) t) (sym (h.there _ (λ e. r.1 (sym (freelist_place-same q p e))))) (old.spaces q).1,
      )
    ];
  }
    where
      reads : (q : Space) (k : ℕ) → slice_index changed (entry_place sizes q k) ≡ slice_index words (entry_place sizes q k)
      reads q k = h.there _ (λ e. omega (arith, e, entry_place-from sizes q k, freelist_place-below p))

      elsewhere : (q : Space) (k : ℕ) → (p ≡ q → ⊥) → put_entry used p i true q k ≡ used q k
      elsewhere q k apart = elim (read_entry true used p i q k) [
        | inl r ↦ absurd (apart r.0.0)
        | inr r ↦ r.1
      ]

      here : put_entry used p i true p i ≡ true
      here = elim (read_entry true used p i p i) [
        | inl r ↦ r.1
        | inr r ↦ absurd (r.0 (refl, refl))
      ]

      there : (k : ℕ) → i ≢ k → put_entry used p i true p k ≡ used p k
      there k apart = elim (read_entry true used p i p k) [
        | inl r ↦ absurd (apart r.0.1)
        | inr r ↦ r.1
      ]

      own : SpaceIn changed sizes p (put_entry used p i true p) (cells p) (evac p) (IsMark p) (old.spaces p).0
      own = SpaceIs-taken i link len few found here there count links h.here (reads p) (old.spaces p).1

  Shown-taken : {count area phase : ℕ} {globals : ℕ → Option ℕ} {IsHead : ℕ → ℕ → Type 0} {refs : ℕ → ℕ → Option ℕ} {names : Field → ℕ} {used : Space → ℕ → Bool} {cells : Space → ℕ → Option Cell} {evac : Space → ℕ → Option ℕ} {IsMark : Space → ℕ → Bool → Type 0} →
      limit_in sizes p < 2 ^ 32 → slice_index words (entry_place sizes p i) ≡ free_word link →
      (shown : Shown words sizes count area phase globals IsHead refs names used cells evac IsMark) → least_from (used p) 1 ((shown.entries.spaces p).0 - 1) ≡ Some i →
      count_below (λ k. not (used p k)) (shown.entries.spaces p).0 ≡ len + 1 →
      Shown changed sizes count area phase globals IsHead refs names (put_entry used p i true) cells evac IsMark
  Shown-taken few links shown found count = record {
    whole = h.long ∙ shown.whole;
    low = LowShown-freelist p (freelist_word link len) h shown.low;
    heap = HeapShown-kept h (inl (omega (arith, freelist_place-below p))) shown.heap;
    entries = SpacesShown-taken few links shown.entries found count;
  }

-- a take of the least free index, where the list has one
module _ (words : List ℕ) (s : Table) (b : ℕ) (p : Space) (i link len : ℕ) (first : IsTrue (s.used p 0)) (few : limit_of s p < 2 ^ 32)
    (long : slice_index words (freelist_place p) / 2 ^ 32 ≡ len + 1) (links : slice_index words (entry_place s.sizes p i) ≡ free_word link) where
  Shows-take_by : (least : least_free s p ≡ Some i) (shown : ShownParts words s) (found : Option ℕ) → least_from (s.used p) 1 ((shown.entries.spaces p).0 - 1) ≡ found →
      Changed words (slice_set words (freelist_place p) (freelist_word link len)) (freelist_place p) (freelist_word link len) →
      Shows (slice_set words (freelist_place p) (freelist_word link len)) (with_taken s b p (Some i))
  Shows-take_by least shown None is changed =
      let space = (shown.entries.spaces p).1 in
      let known = list-none (s.used p) (limit_of s p) (shown.entries.spaces p).0 (slice_index words (freelist_place p)) space.list space.within few first is in
      absurd (omega (arith, known.0, long))
  Shows-take_by least shown (Some k) is changed =
      let space = (shown.entries.spaces p).1 in
      let known = list-some (s.used p) (limit_of s p) (shown.entries.spaces p).0 (slice_index words (freelist_place p)) space.list space.within few k is in
      let same : k ≡ i = same_Some k i (sym known.4 ∙ least) in
      Shows-ShownParts _ _ (Shown-taken p i link len changed few links shown (is ∙ ap Some same) (sym known.1 ∙ long))

  Shows-take : Shows words s → (said : Reply) (none : Reply) (found : Option ℕ) → ((k : ℕ) → found ≡ Some k → least_free s p ≡ Some k) → none ≢ reply.Index i →
      said ≡ option_map_or reply.Index found none → said ≡ reply.Index i →
      Shows (slice_set words (freelist_place p) (freelist_word link len)) (with_taken s b p found)
  Shows-take shows said none None least other is index = absurd (other (sym is ∙ index))
  Shows-take shows said none (Some k) least other is index =
      let same : i ≡ k = cc in
      subst (λ m. Shows (slice_set words (freelist_place p) (freelist_word link len)) (with_taken s b p (Some m))) same
      (Shows-take_by (least k refl ∙ ap Some (sym same)) (ShownParts-Shows words s shows) (least_from (s.used p) 1 (((ShownParts-Shows words s shows).entries.spaces p).0 - 1)) refl
      (Changed-slice_set words (freelist_place p) (freelist_word link len) (omega (arith, freelist_place-below p, shows.whole))))

FreelistWords-row : (words : List ℕ) (s : Table) (b : ℕ) (a : Act) (said : Reply) (p : Space) (i link len : ℕ) → IsTrue (s.used p 0) → Shows words s → limit_of s p < 2 ^ 32 →
    said ≡ (row s b a).reply → TakesFrom a p → said ≡ reply.Index i →
    slice_index words (freelist_place p) / 2 ^ 32 ≡ len + 1 → slice_index words (entry_place s.sizes p i) ≡ free_word link →
    Shows (slice_set words (freelist_place p) (freelist_word link len)) (row s b a).next
FreelistWords-row words s b (Take q) said p i link len h shows few replied space index long links =
    subst (λ r. Shows (slice_set words (freelist_place p) (freelist_word link len)) (with_taken s b r (least_free s r))) (sym space)
    (Shows-take words s b p i link len h few long links shows said reply.Full (least_free s p) (λ k is. is) (λ e. absurd (cc))
    (replied ∙ ap (λ r. option_map_or reply.Index (least_free s r) reply.Full) space) index)
FreelistWords-row words s b (Below start) said p i link len h shows few replied space index long links =
    subst (λ r. Shows (slice_set words (freelist_place p) (freelist_word link len)) (with_taken s b r (free_below s start))) (sym space)
    (Shows-take words s b p i link len h few long links shows said reply.NoRoom (free_below s start)
    (λ k is. subst (λ r. least_free s r ≡ Some k) space (free_below-some s start k is)) (λ e. absurd (cc)) replied index)
FreelistWords-row words s b _ said p i link len h shows few replied wrong index long links = absurd wrong

pub FreelistWordsFollow-row : FreelistWordsFollow
FreelistWordsFollow-row words s e p i link len h shows few legal takes index long links =
    FreelistWords-row words s e.by e.act e.said p i link len h shows few legal.1 takes index long links
