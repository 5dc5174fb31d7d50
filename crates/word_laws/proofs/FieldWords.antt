-- Field words: after a bind that says ok, and after a forge, the list with the word at the field's place shows the table.
use Rattle.std.proofs.Common.{◌≡◌, ◌<◌, ◌==◌, if◌then◌else◌, ℕ, Bool, true, false, List, slice_set, Option, Some, None, sym, ap, subst, ◌∙◌, arith}
use Rattle.plain_table.specs.declared.events.Act.{Act}
use Rattle.plain_table.specs.declared.events.Act.TheVariants.{Bind, Forge}
use Rattle.plain_table.specs.declared.events.Cell.{Cell}
use Rattle.plain_table.specs.declared.events.Space.{Space}
use Rattle.plain_table.specs.declared.events.Field.{Field}
use Rattle.plain_table.specs.declared.events.Field.TheVariants as field
use Rattle.plain_table.specs.declared.reports.Reply.{Reply}
use Rattle.plain_table.specs.declared.reports.Reply.TheVariants as reply
use Rattle.plain_table.specs.Places.{object_of, put_field}
use Rattle.plain_table.specs.Cycle.{Cycle, touched_in}
use Rattle.plain_table.specs.Table.{Table, Sizes}
use Rattle.plain_table.specs.Rows.{row, with_bound, with_unbound}
use Rattle.plain_table.specs.Words.{field_place}
use Rattle.plain_table.specs.Shows.{Shows}
use Rattle.word_laws.specs.WordLaws.{WritesField, FieldWordsFollow}
use Rattle.plain_table.proofs.PlaceReads.{read_field}
use Rattle.plain_table.proofs.WordPlaces.{field_place-from, field_place-below, field_place-same, header-apart-field, reference-apart-field, freelist_place-below}
use Rattle.word_laws.proofs.ShownParts.{HeapShown, Shown, ShownParts-Shows, Shows-ShownParts}
use Rattle.word_laws.proofs.WordChanges.{Changed, Changed-slice_set, Changed-read, LowShown-kept, SpacesShown-kept}

module _ {words changed : List ℕ} (f : Field) (w : ℕ) (h : Changed words changed (field_place f) w) where
  HeapShown-field : {objects : ℕ} {IsHead : ℕ → ℕ → Type 0} {refs : ℕ → ℕ → Option ℕ} {names : Field → ℕ} →
      HeapShown words objects IsHead refs names → HeapShown changed objects IsHead refs (put_field names f w)
  HeapShown-field {IsHead} {names} heap = record {
    headers = λ o made. subst (IsHead o) (sym (h.there _ (header-apart-field o f))) (heap.headers o made);
    references = λ o k made few. h.there _ (reference-apart-field o k f few) ∙ heap.references o k made few;
    fields = λ g made.
        Changed-read (λ (v : ℕ). v) (f ≡ g) (put_field names f w g) w (names g) (field_place g) h (read_field w names f g)
        (λ e. ap field_place (sym e)) (λ apart e. apart (sym (field_place-same g f e))) (heap.fields g made);
  }

  Shown-field : {sizes : Sizes} {count area phase : ℕ} {globals : ℕ → Option ℕ} {IsHead : ℕ → ℕ → Type 0} {refs : ℕ → ℕ → Option ℕ} {names : Field → ℕ} {used : Space → ℕ → Bool} {cells : Space → ℕ → Option Cell} {evac : Space → ℕ → Option ℕ} {IsMark : Space → ℕ → Bool → Type 0} →
      object_of f < sizes.objects → Shown words sizes count area phase globals IsHead refs names used cells evac IsMark →
      Shown changed sizes count area phase globals IsHead refs (put_field names f w) used cells evac IsMark
  Shown-field {sizes} made shown = record {
    whole = h.long ∙ shown.whole;
    low = LowShown-kept h (omega (arith, field_place-from f)) shown.low;
    heap = HeapShown-field shown.heap;
    entries = SpacesShown-kept h (field_place-below f sizes.objects made)
        (λ p e. omega (arith, freelist_place-below p, field_place-from f, e)) shown.entries;
  }

-- the list with the word of a field, where words show a table with its object
Changed-field : (words : List ℕ) (s : Table) (f : Field) (w : ℕ) → object_of f < s.sizes.objects → Shows words s →
    Changed words (slice_set words (field_place f) w) (field_place f) w
Changed-field words s f w made shows =
    Changed-slice_set words (field_place f) w (omega (arith, field_place-below f s.sizes.objects made, shows.whole))

module _ (words : List ℕ) (s : Table) (f : Field) (w : ℕ) (made : object_of f < s.sizes.objects) where
  -- whatever becomes of fresh cells, bindings and tickets
  pub Shows-field : (cycle : Option Cycle) (fresh : ℕ → Space → ℕ → Bool) (bound : Field → Option ℕ) (ticket : ℕ → Option ℕ) →
      Shows words (record s { cycle = cycle }) →
      Shows (slice_set words (field_place f) w) (record s { words = put_field s.words f w; bound = bound; fresh = fresh; ticket = ticket; cycle = touched_in cycle f w })
  Shows-field None fresh bound ticket shows =
      Shows-ShownParts _ _ (Shown-field f w (Changed-field words (record s { cycle = None }) f w made shows) made (ShownParts-Shows _ _ shows))
  Shows-field (Some c) fresh bound ticket shows =
      Shows-ShownParts _ _ (Shown-field f w (Changed-field words (record s { cycle = Some c }) f w made shows) made (ShownParts-Shows _ _ shows))

-- a bind, by whether its field holds 0
Shows-bind : (words : List ℕ) (s : Table) (b : ℕ) (f : Field) (w : ℕ) (said : Reply) (empty : Bool) → object_of f < s.sizes.objects → Shows words s →
    said ≡ reply.Ok → said ≡ (if empty then reply.Ok else reply.Taken (s.words f)) →
    Shows (slice_set words (field_place f) w) (if empty then with_bound s b f w else with_unbound s b f w)
Shows-bind words s b f w said true made shows ok is = Shows-field words s f w made s.cycle _ _ _ shows
Shows-bind words s b f w said false made shows ok is = absurd (cc)

FieldWords-row : (words : List ℕ) (s : Table) (b : ℕ) (a : Act) (said : Reply) (f : Field) (w : ℕ) → object_of f < s.sizes.objects → Shows words s →
    said ≡ (row s b a).reply → WritesField a said f w → Shows (slice_set words (field_place f) w) (row s b a).next
FieldWords-row words s b (Bind g v) said f w made shows is (same, names, ok) =
    subst (λ x. Shows (slice_set words (field_place x) w) (row s b (Bind g v)).next) same
    (subst (λ x. Shows (slice_set words (field_place g) x) (row s b (Bind g v)).next) names
    (Shows-bind words s b g v said (s.words g == 0) (subst (λ x. object_of x < s.sizes.objects) (sym same) made) shows ok is))
FieldWords-row words s b (Forge number v) said f w made shows is (same, names) =
    subst (λ x. Shows (slice_set words (field_place x) w) (row s b (Forge number v)).next) same
    (subst (λ x. Shows (slice_set words (field_place (field.External number)) x) (row s b (Forge number v)).next) names
    (Shows-field words s (field.External number) v (subst (λ x. object_of x < s.sizes.objects) (sym same) made) s.cycle _ _ _ shows))
FieldWords-row words s b _ said f w made shows is wrong = absurd wrong

pub FieldWordsFollow-row : FieldWordsFollow
FieldWordsFollow-row words s e f w made shows legal writes = FieldWords-row words s e.by e.act e.said f w made shows legal.1 writes
