-- The count and the area word: after a new object and after an abort, the list with the new word shows the table.
use Rattle.std.proofs.Common.{◌≡◌, ◌≢◌, ◌+◌, ◌<◌, ℕ, Bool, true, false, List, slice_set, Option, Some, None, refl, sym, ap, ap₂, subst, ◌∙◌, inl, inr, arith}
use Rattle.std.specs.Prelude.{◌||◌, if◌then◌else◌, nat_lt, nat_le}
use Rattle.std.proofs.lemmas.Bool.{cases_lt, le-leb, lt-leb}
use Rattle.plain_table.specs.declared.events.Cell.{Cell}
use Rattle.plain_table.specs.declared.events.Space.{Space}
use Rattle.plain_table.specs.declared.events.Field.{Field}
use Rattle.plain_table.specs.declared.reports.Reply.{Reply}
use Rattle.plain_table.specs.declared.reports.Reply.TheVariants as reply
use Rattle.plain_table.specs.Places.{put_at}
use Rattle.plain_table.specs.Cycle.{Cycle, with_birth, born_in, aborted_in}
use Rattle.plain_table.specs.Table.{Table, Sizes}
use Rattle.plain_table.specs.Rows.{row, with_object}
use Rattle.plain_table.specs.Words.{area_place, count_place, area_word, header_word}
use Rattle.plain_table.specs.Shows.{Shows, IsHeader, is_black}
use Rattle.word_laws.specs.WordLaws.{CountWordsFollow, AreaWordsFollow}
use Rattle.plain_table.proofs.PlaceReads.{read_at}
use Rattle.plain_table.proofs.WordPlaces.{freelist-apart-area, freelist_place-below}
use Rattle.word_laws.proofs.ShownParts.{HeapShown, Shown, ShownParts-Shows, Shows-ShownParts}
use Rattle.word_laws.proofs.WordChanges.{Changed, Changed-slice_set, HeapShown-kept, SpacesShown-kept}

-- headers that stay as they are, where another table tells them alike
pub HeapShown-heads : {words : List ℕ} {objects : ℕ} {IsHead IsHead_new : ℕ → ℕ → Type 0} {refs : ℕ → ℕ → Option ℕ} {names : Field → ℕ} →
    ((o word : ℕ) → IsHead o word → IsHead_new o word) → HeapShown words objects IsHead refs names → HeapShown words objects IsHead_new refs names
HeapShown-heads like heap = record {
  headers = λ o made. like o _ (heap.headers o made);
  references = heap.references;
  fields = heap.fields;
}

module _ {words changed : List ℕ} (w : ℕ) (h : Changed words changed count_place w) where
  Shown-count : {sizes : Sizes} {count area phase : ℕ} {globals : ℕ → Option ℕ} {IsHead IsHead_new : ℕ → ℕ → Type 0} {refs : ℕ → ℕ → Option ℕ} {names : Field → ℕ} {used : Space → ℕ → Bool} {cells : Space → ℕ → Option Cell} {evac : Space → ℕ → Option ℕ} {IsMark : Space → ℕ → Bool → Type 0} →
      ((o word : ℕ) → IsHead o word → IsHead_new o word) → Shown words sizes count area phase globals IsHead refs names used cells evac IsMark →
      Shown changed sizes w area phase globals IsHead_new refs names used cells evac IsMark
  Shown-count like shown = record {
    whole = h.long ∙ shown.whole;
    low = record {
      at_area = h.there _ (λ e. omega (arith, e)) ∙ shown.low.at_area;
      at_count = h.here;
      at_phase = h.there _ (λ e. omega (arith, e)) ∙ shown.low.at_phase;
      spare = λ i from to. h.there i (λ e. omega (arith, e, from)) ∙ shown.low.spare i from to;
      at_globals = λ g few. h.there _ (λ e. omega (arith, e)) ∙ shown.low.at_globals g few;
    };
    heap = HeapShown-heads like (HeapShown-kept h (inl (omega arith)) shown.heap);
    entries = SpacesShown-kept h (omega arith) (λ p e. omega (arith, freelist_place-below p, e)) shown.entries;
  }

module _ {words changed : List ℕ} (w : ℕ) (h : Changed words changed area_place w) where
  Shown-area : {sizes : Sizes} {count area phase : ℕ} {globals : ℕ → Option ℕ} {IsHead : ℕ → ℕ → Type 0} {refs : ℕ → ℕ → Option ℕ} {names : Field → ℕ} {used : Space → ℕ → Bool} {cells : Space → ℕ → Option Cell} {evac : Space → ℕ → Option ℕ} {IsMark : Space → ℕ → Bool → Type 0} →
      Shown words sizes count area phase globals IsHead refs names used cells evac IsMark →
      Shown changed sizes count w phase globals IsHead refs names used cells evac IsMark
  Shown-area shown = record {
    whole = h.long ∙ shown.whole;
    low = record {
      at_area = h.here;
      at_count = h.there _ (λ e. omega (arith, e)) ∙ shown.low.at_count;
      at_phase = h.there _ (λ e. omega (arith, e)) ∙ shown.low.at_phase;
      spare = λ i from to. h.there i (λ e. omega (arith, e, from)) ∙ shown.low.spare i from to;
      at_globals = λ g few. h.there _ (λ e. omega (arith, e)) ∙ shown.low.at_globals g few;
    };
    heap = HeapShown-kept h (inl (omega arith)) shown.heap;
    entries = SpacesShown-kept h (omega arith) freelist-apart-area shown.entries;
  }

-- a new object was black before it was made, and is black as one that is born in the cycle
or-middle : (x y z : Bool) → (x || true || y) ≡ (x || z || true)
or-middle true y z = refl
or-middle false y true = refl
or-middle false y false = refl

nat_le-next : (n o : ℕ) → n ≢ o → nat_le (n + 1) o ≡ nat_le n o
nat_le-next n o apart = elim (cases_lt n o) [
  | inl less ↦ le-leb (n + 1) o (omega (arith, less)) ∙ sym (le-leb n o (omega (arith, less)))
  | inr more ↦
      let past : o < n = omega (arith, more, apart) in
      lt-leb (n + 1) o (omega (arith, past)) ∙ sym (lt-leb n o past)
]

black-new : (scanned : Bool) (born : ℕ → Bool) (n o : ℕ) → (scanned || put_at born n true o || nat_le (n + 1) o) ≡ (scanned || born o || nat_le n o)
black-new scanned born n o = elim (read_at true born n o) [
  | inl r ↦
      ap (λ b. scanned || b || nat_le (n + 1) o) r.1 ∙ or-middle scanned (nat_le (n + 1) o) (born o)
      ∙ ap (λ b. scanned || born o || b) (sym (le-leb n o (omega (arith, r.0))))
  | inr r ↦ ap₂ (λ a b. scanned || a || b) r.1 (nat_le-next n o r.0)
]

IsHeader-new : (s t : Table) (cycle : Option Cycle) (o word : ℕ) → t.count ≡ s.count + 1 → IsHeader s cycle o word → IsHeader t (born_in cycle s.count) o word
IsHeader-new s t None o word one_more is = is
IsHeader-new s t (Some c) o word one_more is =
    let same : is_black t (with_birth s.count c) o ≡ is_black s c o =
    ap (λ n. c.scans o || put_at c.born s.count true o || nat_le n o) one_more ∙ black-new (c.scans o) c.born s.count o in
    (is.0, is.1 ∙ ap (header_word is.0) (sym same), λ black. is.2 (sym same ∙ black))

module _ (words : List ℕ) (s : Table) where
  Shows-new : (cycle : Option Cycle) (vars : ℕ → ℕ → Option ℕ) → Shows words (record s { cycle = cycle }) →
      Shows (slice_set words count_place (s.count + 1)) (record s { vars = vars; count = s.count + 1; cycle = born_in cycle s.count })
  Shows-new None vars shows =
      Shows-ShownParts _ _ (Shown-count (s.count + 1) (Changed-slice_set words count_place (s.count + 1) (omega (arith, shows.whole)))
      (λ o word. IsHeader-new s (record s { count = s.count + 1 }) None o word refl) (ShownParts-Shows _ _ shows))
  Shows-new (Some c) vars shows =
      Shows-ShownParts _ _ (Shown-count (s.count + 1) (Changed-slice_set words count_place (s.count + 1) (omega (arith, shows.whole)))
      (λ o word. IsHeader-new s (record s { count = s.count + 1 }) (Some c) o word refl) (ShownParts-Shows _ _ shows))

  Shows-aborted : (cycle : Option Cycle) → Shows words (record s { cycle = cycle }) →
      Shows (slice_set words area_place (area_word (aborted_in cycle))) (record s { cycle = aborted_in cycle })
  Shows-aborted None shows =
      Shows-ShownParts _ _ (Shown-area 0 (Changed-slice_set words area_place 0 (omega (arith, shows.whole))) (ShownParts-Shows _ _ shows))
  Shows-aborted (Some c) shows =
      Shows-ShownParts _ _ (Shown-area (area_word (aborted_in (Some c))) (Changed-slice_set words area_place (area_word (aborted_in (Some c))) (omega (arith, shows.whole)))
      (ShownParts-Shows _ _ shows))

  Shows-made : (b var o : ℕ) (said : Reply) (room : Bool) → Shows words s → said ≡ (if room then reply.Obj s.count else reply.HeapFull) → said ≡ reply.Obj o →
      Shows (slice_set words count_place (s.count + 1)) (if room then with_object s b var else s)
  Shows-made b var o said true shows is made = Shows-new s.cycle _ shows
  Shows-made b var o said false shows is made = absurd (cc)

pub CountWordsFollow-row : CountWordsFollow
CountWordsFollow-row words s e var o shows legal is said =
    subst (λ a. e.said ≡ (row s e.by a).reply → Shows (slice_set words count_place (s.count + 1)) (row s e.by a).next) (sym is)
    (λ replied. Shows-made words s e.by var o e.said (nat_lt s.count s.sizes.objects) shows replied said) legal.1

pub AreaWordsFollow-row : AreaWordsFollow
AreaWordsFollow-row words s e shows legal is =
    subst (λ a. Shows (slice_set words area_place (area_word (row s e.by a).next.cycle)) (row s e.by a).next) (sym is) (Shows-aborted words s s.cycle shows)
