-- A list of words with one changed word: what is read at its place and at others, and that what is shown by words at
-- other places stays shown.
use Rattle.std.proofs.Common.{◌≡◌, ◌≢◌, ◌+◌, ◌*◌, ◌<◌, ◌≤◌, ℕ, Bool, List, length, slice_index, slice_set, Option, Some, None, IsTrue, is_some, refl, sym, ap, subst, ◌∙◌, inl, inr, arith, get_or-set_same, get_or-set_other, length-set}
use Rattle.std.specs.Prelude.{◌⊎◌}
use Rattle.std.specs.Option.{option_map}
use Rattle.plain_table.specs.declared.events.Cell.{Cell}
use Rattle.plain_table.specs.declared.events.Space.{Space}
use Rattle.plain_table.specs.declared.events.Space.TheVariants.{External, Trusted}
use Rattle.plain_table.specs.declared.events.Field.{Field}
use Rattle.plain_table.specs.Table.{Table, Sizes, limit_in}
use Rattle.plain_table.specs.Words.{freelist_place, header_place, reference_place, field_place, entry_place}
use Rattle.plain_table.specs.Shows.{entry_at}
use Rattle.word_laws.specs.WordLaws.{HasSoundIndexes}
use Rattle.plain_table.proofs.PlaceReads.{Read}
use Rattle.plain_table.proofs.WordPlaces.{field_place-from, field_place-below, entry_place-from}
use Rattle.word_laws.proofs.ShownParts.{SpaceIs, LowShown, HeapShown, SpacesShown}

pub record Changed (words changed : List ℕ) (place w : ℕ) : Type 0 where
  pub long : length changed ≡ length words
  pub here : slice_index changed place ≡ w
  pub there : (other : ℕ) → other ≢ place → slice_index changed other ≡ slice_index words other

pub Changed-slice_set : (words : List ℕ) (place w : ℕ) → place < length words → Changed words (slice_set words place w) place w
Changed-slice_set words place w within = record {
  long = length-set words place w;
  here = get_or-set_same words place w 0 within;
  there = λ other apart. get_or-set_other words place other w 0 apart;
}

-- a place that is the changed one just where a map has its new value
module _ {A : Type 0} (code : A → ℕ) (P : Type 0) (now new old : A) where
  pub Changed-read : {words changed : List ℕ} {place : ℕ} (other : ℕ) → Changed words changed place (code new) → Read P now new old →
      (P → other ≡ place) → ((P → ⊥) → other ≢ place) → slice_index words other ≡ code old → slice_index changed other ≡ code now
  Changed-read {changed} other h read same apart was = elim read [
    | inl r ↦ ap (slice_index changed) (same r.0) ∙ h.here ∙ ap code (sym r.1)
    | inr r ↦ h.there other (apart r.0) ∙ was ∙ ap code (sym r.1)
  ]

-- cells and entries stand at used indexes, and these below the limit
pub record AreWithin (sizes : Sizes) (used : Space → ℕ → Bool) (cells : Space → ℕ → Option Cell) (evac : Space → ℕ → Option ℕ) : Type 0 where
  pub first : (p : Space) → IsTrue (used p 0)
  pub below : (p : Space) (i : ℕ) → IsTrue (used p i) → i < limit_in sizes p
  pub filled : (p : Space) (i : ℕ) (cell : Cell) → cells p i ≡ Some cell → IsTrue (used p i) × (i ≢ 0)
  pub entries : (p : Space) (i number : ℕ) → evac p i ≡ Some number → IsTrue (used p i) × (i ≢ 0) × (cells p i ≡ None)

pub no_cell-id : (found : Option Cell) → option_map (λ (cell : Cell). cell.id) found ≡ None → found ≡ None
no_cell-id None e = refl
no_cell-id (Some c) e = absurd (cc)

pub AreWithin-HasSoundIndexes : (s : Table) → HasSoundIndexes s → AreWithin s.sizes s.used s.cells (entry_at s)
AreWithin-HasSoundIndexes s h = record {
  first = h.first;
  below = below;
  filled = λ p i cell is. h.cells p i (ap (λ found. is_some (option_map (λ (c : Cell). c.id) found)) is);
  entries = entries;
}
  where
    below : (p : Space) (i : ℕ) → IsTrue (s.used p i) → i < limit_in s.sizes p
    below External i is = h.below External i is
    below Trusted i is = h.below Trusted i is

    entries : (p : Space) (i number : ℕ) → entry_at s p i ≡ Some number → IsTrue (s.used p i) × (i ≢ 0) × (s.cells p i ≡ None)
    entries External i number is =
        let found = h.entries i (ap is_some is) in (found.0, found.1, no_cell-id (s.cells External i) found.2)
    entries Trusted i number is = absurd (cc)

-- words that agree on the places of a part show it alike
module _ {words changed : List ℕ} {place w : ℕ} (h : Changed words changed place w) where
  pub LowShown-kept : {count area phase : ℕ} {globals : ℕ → Option ℕ} → 32 ≤ place →
      LowShown words count area phase globals → LowShown changed count area phase globals
  LowShown-kept high low = record {
    at_area = h.there _ (λ e. omega (arith, high, e)) ∙ low.at_area;
    at_count = h.there _ (λ e. omega (arith, high, e)) ∙ low.at_count;
    at_phase = h.there _ (λ e. omega (arith, high, e)) ∙ low.at_phase;
    spare = λ i from to. h.there i (λ e. omega (arith, high, e, to)) ∙ low.spare i from to;
    at_globals = λ g few. h.there _ (λ e. omega (arith, high, e, few)) ∙ low.at_globals g few;
  }

  pub HeapShown-kept : {objects : ℕ} {IsHead : ℕ → ℕ → Type 0} {refs : ℕ → ℕ → Option ℕ} {names : Field → ℕ} →
      (place < 32) ⊎ (32 + 8 * objects ≤ place) → HeapShown words objects IsHead refs names → HeapShown changed objects IsHead refs names
  HeapShown-kept {objects} {IsHead} out heap = record {
    headers = λ o made. subst (IsHead o) (sym (h.there (header_place o) (λ e. outside (header_place o) (omega arith) (omega (arith, made)) e))) (heap.headers o made);
    references = λ o k made few. h.there _ (λ e. outside (reference_place o k) (omega arith) (omega (arith, made, few)) e) ∙ heap.references o k made few;
    fields = λ f made. h.there _ (λ e. outside (field_place f) (omega (arith, field_place-from f)) (field_place-below f objects made) e) ∙ heap.fields f made;
  }
    where
      outside : (other : ℕ) → 32 ≤ other → other < 32 + 8 * objects → other ≢ place
      outside other from to e = elim out [ inl low ↦ omega (arith, from, e, low) | inr high ↦ omega (arith, to, e, high) ]

  pub SpacesShown-kept : {sizes : Sizes} {used : Space → ℕ → Bool} {cells : Space → ℕ → Option Cell} {evac : Space → ℕ → Option ℕ} {IsMark : Space → ℕ → Bool → Type 0} →
      place < 32 + 8 * sizes.objects → ((p : Space) → freelist_place p ≢ place) →
      SpacesShown words sizes used cells evac IsMark → SpacesShown changed sizes used cells evac IsMark
  SpacesShown-kept {sizes} {used} {cells} {evac} {IsMark} low apart old = record {
    spaces = λ p. ((old.spaces p).0, SpaceIs-read p (old.spaces p).0 (old.spaces p).1);
  }
    where
      same : (p : Space) (i : ℕ) → slice_index changed (entry_place sizes p i) ≡ slice_index words (entry_place sizes p i)
      same p i = h.there _ (λ e. omega (arith, low, e, entry_place-from sizes p i))

      SpaceIs-read : (p : Space) (committed : ℕ) →
          SpaceIs sizes.seg (limit_in sizes p) (used p) (cells p) (evac p) (IsMark p) (λ i. slice_index words (entry_place sizes p i)) (slice_index words (freelist_place p)) committed →
          SpaceIs sizes.seg (limit_in sizes p) (used p) (cells p) (evac p) (IsMark p) (λ i. slice_index changed (entry_place sizes p i)) (slice_index changed (freelist_place p)) committed
      SpaceIs-read p committed is = record {
        segments = is.segments;
        within = is.within;
        taken = is.taken;
        null = same p 0 ∙ is.null;
        filled = λ i cell stands. ((is.filled i cell stands).0, same p i ∙ (is.filled i cell stands).1, (is.filled i cell stands).2);
        evacuated = λ i number stands. same p i ∙ is.evacuated i number stands;
        free = λ i later below free. same p i ∙ is.free i later below free;
        empty = λ i stands. ((is.empty i stands).0, (is.empty i stands).1, same p i ∙ (is.empty i stands).2);
        closed = λ i past below. same p i ∙ is.closed i past below;
        list = h.there _ (apart p) ∙ is.list;
      }
