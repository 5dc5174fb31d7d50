-- The words of globals and references: after a link, the list with the object's word at its place shows the table.
use Rattle.std.proofs.Common.{◌≡◌, ◌<◌, ℕ, Bool, List, slice_set, Option, sym, ap, ap₂, subst, ◌∙◌, inl, arith}
use Rattle.plain_table.specs.declared.events.Cell.{Cell}
use Rattle.plain_table.specs.declared.events.Space.{Space}
use Rattle.plain_table.specs.declared.events.Spot.{Spot}
use Rattle.plain_table.specs.declared.events.Spot.TheVariants.{Global, Ref}
use Rattle.plain_table.specs.declared.events.Field.{Field}
use Rattle.plain_table.specs.Places.{put_at, put_pair}
use Rattle.plain_table.specs.Table.{Table, Sizes}
use Rattle.plain_table.specs.Rows.{row, IsSpotOf, object_in, with_linked}
use Rattle.plain_table.specs.Words.{global_place, reference_place, object_word}
use Rattle.plain_table.specs.Shows.{Shows}
use Rattle.word_laws.specs.WordLaws.{spot_place, LinkWordsFollow, IsWithin}
use Rattle.plain_table.proofs.PlaceReads.{read_at, read_pair}
use Rattle.plain_table.proofs.WordPlaces.{header-apart-reference, reference-apart-field, reference_place-same, freelist_place-below}
use Rattle.word_laws.proofs.ShownParts.{LowShown, HeapShown, Shown, ShownParts-Shows, Shows-ShownParts}
use Rattle.word_laws.proofs.WordChanges.{Changed, Changed-slice_set, Changed-read, LowShown-kept, HeapShown-kept, SpacesShown-kept}

module _ {words changed : List ℕ} (g : ℕ) (x : Option ℕ) (h : Changed words changed (global_place g) (object_word x)) where
  LowShown-global : {count area phase : ℕ} {globals : ℕ → Option ℕ} → LowShown words count area phase globals → LowShown changed count area phase (put_at globals g x)
  LowShown-global {globals} low = record {
    at_area = h.there _ (λ e. omega (arith, e)) ∙ low.at_area;
    at_count = h.there _ (λ e. omega (arith, e)) ∙ low.at_count;
    at_phase = h.there _ (λ e. omega (arith, e)) ∙ low.at_phase;
    spare = λ i from to. h.there i (λ e. omega (arith, e, to)) ∙ low.spare i from to;
    at_globals = λ k few.
        Changed-read object_word (g ≡ k) (put_at globals g x k) x (globals k) (global_place k) h (read_at x globals g k)
        (λ e. ap global_place (sym e)) (λ apart e. apart (omega (arith, e))) (low.at_globals k few);
  }

  Shown-global : {sizes : Sizes} {count area phase : ℕ} {globals : ℕ → Option ℕ} {IsHead : ℕ → ℕ → Type 0} {refs : ℕ → ℕ → Option ℕ} {names : Field → ℕ} {used : Space → ℕ → Bool} {cells : Space → ℕ → Option Cell} {evac : Space → ℕ → Option ℕ} {IsMark : Space → ℕ → Bool → Type 0} →
      g < 16 → Shown words sizes count area phase globals IsHead refs names used cells evac IsMark →
      Shown changed sizes count area phase (put_at globals g x) IsHead refs names used cells evac IsMark
  Shown-global few shown = record {
    whole = h.long ∙ shown.whole;
    low = LowShown-global shown.low;
    heap = HeapShown-kept h (inl (omega (arith, few))) shown.heap;
    entries = SpacesShown-kept h (omega (arith, few)) (λ p e. omega (arith, freelist_place-below p, e)) shown.entries;
  }

module _ {words changed : List ℕ} (o k : ℕ) (x : Option ℕ) (few : k < 4) (h : Changed words changed (reference_place o k) (object_word x)) where
  HeapShown-reference : {objects : ℕ} {IsHead : ℕ → ℕ → Type 0} {refs : ℕ → ℕ → Option ℕ} {names : Field → ℕ} →
      HeapShown words objects IsHead refs names → HeapShown changed objects IsHead (put_pair refs o k x) names
  HeapShown-reference {IsHead} {refs} heap = record {
    headers = λ m made. subst (IsHead m) (sym (h.there _ (header-apart-reference m o k few))) (heap.headers m made);
    references = λ m i made small.
        Changed-read object_word ((o ≡ m) × (k ≡ i)) (put_pair refs o k x m i) x (refs m i) (reference_place m i) h (read_pair x refs o k m i)
        (λ e. ap₂ reference_place (sym e.0) (sym e.1)) (λ apart e. apart (reference_place-same o k m i few small (sym e))) (heap.references m i made small);
    fields = λ f made. h.there _ (λ e. reference-apart-field o k f few (sym e)) ∙ heap.fields f made;
  }

  Shown-reference : {sizes : Sizes} {count area phase : ℕ} {globals : ℕ → Option ℕ} {IsHead : ℕ → ℕ → Type 0} {refs : ℕ → ℕ → Option ℕ} {names : Field → ℕ} {used : Space → ℕ → Bool} {cells : Space → ℕ → Option Cell} {evac : Space → ℕ → Option ℕ} {IsMark : Space → ℕ → Bool → Type 0} →
      o < sizes.objects → Shown words sizes count area phase globals IsHead refs names used cells evac IsMark →
      Shown changed sizes count area phase globals IsHead (put_pair refs o k x) names used cells evac IsMark
  Shown-reference made shown = record {
    whole = h.long ∙ shown.whole;
    low = LowShown-kept h (omega arith) shown.low;
    heap = HeapShown-reference shown.heap;
    entries = SpacesShown-kept h (omega (arith, made, few)) (λ p e. omega (arith, freelist_place-below p, e)) shown.entries;
  }

Shows-link : (words : List ℕ) (s : Table) (b : ℕ) (spot : Spot) (x : Option ℕ) → IsWithin s spot → Shows words s → IsSpotOf s b spot →
    Shows (slice_set words (spot_place spot) (object_word x)) (with_linked s spot x)
Shows-link words s b (Global g) x h shows few =
    Shows-ShownParts _ _ (Shown-global g x (Changed-slice_set words (global_place g) (object_word x) (omega (arith, few, shows.whole))) few (ShownParts-Shows _ _ shows))
Shows-link words s b (Ref o k) x made shows holds =
    let few : k < 4 = holds.1 in
    Shows-ShownParts _ _ (Shown-reference o k x few (Changed-slice_set words (reference_place o k) (object_word x) (omega (arith, made, few, shows.whole))) made (ShownParts-Shows _ _ shows))

pub LinkWordsFollow-row : LinkWordsFollow
LinkWordsFollow-row words s e spot var h shows legal is =
    subst (λ a. (row s e.by a).allowed → Shows (slice_set words (spot_place spot) (object_word (object_in s e.by var))) (row s e.by a).next)
    (sym is) (λ allowed. Shows-link words s e.by spot (object_in s e.by var) h shows allowed.0) legal.0
