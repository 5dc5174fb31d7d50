-- Header words: after a scan the list with a black header shows the table, and shading an object shows the same table.
use Rattle.std.proofs.Common.{◌≡◌, ◌≢◌, ◌<◌, ℕ, Bool, true, List, slice_index, slice_set, Option, Some, None, IsSomeAnd, refl, sym, ap, subst, ◌∙◌, inl, inr, arith}
use Rattle.std.specs.Prelude.{◌||◌, nat_le}
use Rattle.std.proofs.lemmas.Bool.Decides.{eqb_tells}
use Rattle.plain_table.specs.declared.events.Cell.{Cell}
use Rattle.plain_table.specs.declared.events.Space.{Space}
use Rattle.plain_table.specs.declared.events.Field.{Field}
use Rattle.plain_table.specs.Cycle.{Cycle, with_scan, scanned_in}
use Rattle.plain_table.specs.Table.{Table, Sizes}
use Rattle.plain_table.specs.Rows.{row}
use Rattle.plain_table.specs.Words.{header_place, header_word}
use Rattle.plain_table.specs.Shows.{Shows, IsHeader, is_black}
use Rattle.word_laws.specs.WordLaws.{ScanWordsFollow, ShadedWordsStay}
use Rattle.plain_table.proofs.PlaceReads.{put_at-same, put_at-other}
use Rattle.plain_table.proofs.WordPlaces.{header-apart-field, header-apart-reference, freelist_place-below}
use Rattle.word_laws.proofs.ShownParts.{HeapShown, Shown, ShownParts-Shows, Shows-ShownParts}
use Rattle.word_laws.proofs.WordChanges.{Changed, Changed-slice_set, LowShown-kept, SpacesShown-kept}

module _ {words changed : List ℕ} (o w : ℕ) (h : Changed words changed (header_place o) w) where
  HeapShown-header : {objects : ℕ} {IsHead IsHead_new : ℕ → ℕ → Type 0} {refs : ℕ → ℕ → Option ℕ} {names : Field → ℕ} →
      IsHead_new o w → ((m word : ℕ) → o ≢ m → IsHead m word → IsHead_new m word) →
      HeapShown words objects IsHead refs names → HeapShown changed objects IsHead_new refs names
  HeapShown-header {IsHead} {IsHead_new} tells like heap = record {
    headers = λ m made. elim (eqb_tells o m) [
      | inl e ↦ subst (λ k. IsHead_new k (slice_index changed (header_place k))) e.1 (subst (IsHead_new o) (sym h.here) tells)
      | inr e ↦ subst (IsHead_new m) (sym (h.there _ (λ same. e.1 (omega (arith, same))))) (like m _ e.1 (heap.headers m made))
    ];
    references = λ m k made few. h.there _ (λ e. header-apart-reference o m k few (sym e)) ∙ heap.references m k made few;
    fields = λ f made. h.there _ (λ e. header-apart-field o f (sym e)) ∙ heap.fields f made;
  }

  Shown-header : {sizes : Sizes} {count area phase : ℕ} {globals : ℕ → Option ℕ} {IsHead IsHead_new : ℕ → ℕ → Type 0} {refs : ℕ → ℕ → Option ℕ} {names : Field → ℕ} {used : Space → ℕ → Bool} {cells : Space → ℕ → Option Cell} {evac : Space → ℕ → Option ℕ} {IsMark : Space → ℕ → Bool → Type 0} →
      o < sizes.objects → IsHead_new o w → ((m word : ℕ) → o ≢ m → IsHead m word → IsHead_new m word) →
      Shown words sizes count area phase globals IsHead refs names used cells evac IsMark →
      Shown changed sizes count area phase globals IsHead_new refs names used cells evac IsMark
  Shown-header made tells like shown = record {
    whole = h.long ∙ shown.whole;
    low = LowShown-kept h (omega arith) shown.low;
    heap = HeapShown-header tells like shown.heap;
    entries = SpacesShown-kept h (omega (arith, made)) (λ p e. omega (arith, freelist_place-below p, e)) shown.entries;
  }

-- a scanned object is black, and all others are what they were
black-scanned : (s : Table) (c : Cycle) (o : ℕ) → is_black s (with_scan o c) o ≡ true
black-scanned s c o = ap (λ b. b || c.born o || nat_le s.count o) (put_at-same c.scans o true)

black-other : (s : Table) (c : Cycle) (o m : ℕ) → o ≢ m → is_black s (with_scan o c) m ≡ is_black s c m
black-other s c o m apart = ap (λ b. b || c.born m || nat_le s.count m) (put_at-other c.scans o m true apart)

Shows-scanned : (words : List ℕ) (s : Table) (o : ℕ) (cycle : Option Cycle) (P : Cycle → Type 0) → IsSomeAnd cycle P → o < s.sizes.objects →
    Shows words (record s { cycle = cycle }) → Shows (slice_set words (header_place o) (header_word true true)) (record s { cycle = scanned_in cycle o })
Shows-scanned words s o None P is made shows = absurd is
Shows-scanned words s o (Some c) P is made shows =
    Shows-ShownParts _ _ (Shown-header o (header_word true true)
    (Changed-slice_set words (header_place o) (header_word true true) (omega (arith, made, shows.whole))) made
    (true, ap (header_word true) (sym (black-scanned s c o)), λ black. refl)
    (λ m word apart was. (was.0, was.1 ∙ ap (header_word was.0) (sym (black-other s c o m apart)), λ black. was.2 (sym (black-other s c o m apart) ∙ black)))
    (ShownParts-Shows _ _ shows))

pub ScanWordsFollow-row : ScanWordsFollow
ScanWordsFollow-row words s e o made shows legal is =
    subst (λ a. (row s e.by a).allowed → Shows (slice_set words (header_place o) (header_word true true)) (row s e.by a).next) (sym is)
    (λ allowed. Shows-scanned words s o s.cycle _ allowed made shows) legal.0

pub ShadedWordsStay-header : ShadedWordsStay
ShadedWordsStay-header words s c o shows is made =
    Shows-ShownParts _ _ (Shown-header o (header_word true (is_black s c o))
    (Changed-slice_set words (header_place o) (header_word true (is_black s c o)) (omega (arith, made, shows.whole))) made
    (subst (λ cycle. IsHeader s cycle o (header_word true (is_black s c o))) (sym is) (true, refl, λ black. refl))
    (λ m word apart was. was) (ShownParts-Shows _ _ shows))
