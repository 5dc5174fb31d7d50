-- What a look answers by the strip of the entry's word: the value of a cell that can be seen, where its tag lies in the
-- range, and else a fault.
use Rattle.std.proofs.Common.{◌≡◌, ◌≢◌, ◌⊎◌, ℕ, ◌+◌, ◌^◌, ◌<◌, Bool, true, false, List, slice_index, Option, Some, None, IsTrue, refl, sym, ap, subst, ◌∙◌, inl, inr, arith, leb-true, le-leb, ne_eqb}
use Rattle.std.specs.Prelude.{IsSomeAnd, if◌then◌else◌, ◌&&◌, ◌==◌, nat_le}
use Rattle.std.specs.Option.{option_map_or, SomeIff}
use Rattle.std.proofs.lemmas.Bool.{cases_Bool, and_from, and_parts}
use Rattle.plain_table.specs.declared.events.Cell.{Cell}
use Rattle.plain_table.specs.declared.events.Space.{Space}
use Rattle.plain_table.specs.declared.reports.Reply.{Reply}
use Rattle.plain_table.specs.declared.reports.Reply.TheVariants as reply
use Rattle.plain_table.specs.Index.{index_of}
use Rattle.plain_table.specs.Table.{Table, Sizes, limit_in}
use Rattle.plain_table.specs.Rows.{IsTag, is_asked, look, seen_under, value_at}
use Rattle.plain_table.specs.Shapes.{IsMiss}
use Rattle.plain_table.specs.Sound.{CellsSound}
use Rattle.plain_table.specs.Words.{cell_word, entry_place}
use Rattle.tag_set.specs.Range.{IsRange, IsWithin}
use Rattle.tag_set.specs.Strip.{IsStripped, regular_word}
use Rattle.tag_set.proofs.StrippedWords.{refuses_no_tag, stripped-flagged, stripped-regular}
use Rattle.word_laws.specs.ReadLaws.{EntryTells, has_mark}
use Rattle.word_laws.specs.Small.{AreSmall}
use Rattle.word_laws.proofs.EntryReads.{EntryWordsTell-near}
use Rattle.word_laws.proofs.NearWords.{IsNear-refl}
use Rattle.entry_word.specs.declared.image.Shape.{Shape}
use Rattle.entry_word.specs.Image.{IsValidShape, sizes_of}
use Rattle.mutator_calls.specs.Words.{IsShownAs, LooksAt}
use Rattle.mutator_calls.proofs.ValidShapes.{AreSmall-valid}

-- a tag that is asked lies in the range, and a tag in the range is asked
IsWithin-asked : (first last tag : ℕ) → IsTrue (is_asked first last tag) → IsWithin first last tag
IsWithin-asked first last tag asked =
    let parts = and_parts (nat_le first tag) (nat_le tag last) asked in
    (leb-true first tag parts.0, leb-true tag last parts.1)

is_asked-within : (first last tag : ℕ) → IsWithin first last tag → is_asked first last tag ≡ true
is_asked-within first last tag within = and_from (nat_le first tag) (nat_le tag last) (le-leb first tag within.0) (le-leb tag last within.1)

is_asked-outside : (first last tag : ℕ) → (IsWithin first last tag → ⊥) → is_asked first last tag ≡ false
is_asked-outside first last tag outside = elim (cases_Bool (is_asked first last tag)) [
  | inl asked ↦ absurd (outside (IsWithin-asked first last tag asked))
  | inr other ↦ other
]

-- what is answered of a cell
abbrev seen_if : Bool → Bool → ℕ → Reply
seen_if shown asked value = if shown && asked then reply.Value value else reply.Fault

answer-shown : (answer : Option ℕ) (cell : Cell) (first last : ℕ) → SomeIff answer (IsWithin first last cell.tag) cell.value → cell.shown ≡ true →
    option_map_or reply.Value answer reply.Fault ≡ seen_under (Some cell) first last
answer-shown None cell first last outside shown =
    sym (ap (λ (b : Bool). seen_if b (is_asked first last cell.tag) cell.value) shown
    ∙ ap (λ (b : Bool). seen_if true b cell.value) (is_asked-outside first last cell.tag outside))
answer-shown (Some v) cell first last within shown =
    ap reply.Value within.1
    ∙ sym (ap (λ (b : Bool). seen_if b (is_asked first last cell.tag) cell.value) shown
    ∙ ap (λ (b : Bool). seen_if true b cell.value) (is_asked-within first last cell.tag within.0))

answer-hidden : (answer : Option ℕ) (cell : Cell) (first last : ℕ) → answer ≡ None → cell.shown ≡ false →
    option_map_or reply.Value answer reply.Fault ≡ seen_under (Some cell) first last
answer-hidden answer cell first last none hidden =
    ap (λ (a : Option ℕ). option_map_or reply.Value a reply.Fault) none
    ∙ sym (ap (λ (b : Bool). seen_if b (is_asked first last cell.tag) cell.value) hidden)

module _ (word first last : ℕ) (answer : Option ℕ) (stripped : IsStripped word first last answer) where
  answer-cell : (cell : Cell) (marked : Bool) → IsTag cell.tag → cell.value < 2 ^ 48 → word ≡ cell_word cell marked →
      option_map_or reply.Value answer reply.Fault ≡ seen_under (Some cell) first last
  answer-cell cell marked tag value is = by_shown cell.shown refl
    where
      mark : ℕ
      mark = if marked then 2 ^ 62 else 0

      marks : (b : Bool) → ((if b then 2 ^ 62 else 0) ≡ 0) ⊎ ((if b then 2 ^ 62 else 0) ≡ 2 ^ 62)
      marks true = inr refl
      marks false = inl refl

      by_shown : (shown : Bool) → cell.shown ≡ shown → option_map_or reply.Value answer reply.Fault ≡ seen_under (Some cell) first last
      by_shown true shown =
          let same : word ≡ 0 + regular_word cell.tag cell.value marked =
          is ∙ ap (λ (b : Bool). (if b then 0 else 2 ^ 59) + regular_word cell.tag cell.value marked) shown in
          let regular : word ≡ regular_word cell.tag cell.value marked = omega (arith, same) in
          answer-shown answer cell first last (stripped-regular word cell.tag cell.value first last marked answer regular tag value stripped) shown
      by_shown false hidden =
          let same : word ≡ 2 ^ 59 + regular_word cell.tag cell.value marked =
          is ∙ ap (λ (b : Bool). (if b then 0 else 2 ^ 59) + regular_word cell.tag cell.value marked) hidden in
          let bit = marks marked in
          let low = tag.1 in
          answer-hidden answer cell first last
          (stripped-flagged word first last answer (omega (arith, same, bit, low, value)) (omega (arith, same, bit, low, value)) stripped) hidden

  pub seen_under-stripped : (s : Table) (p : Space) (i : ℕ) → CellsSound s.cells → EntryTells s p i word → IsRange first last →
      option_map_or reply.Value answer reply.Fault ≡ seen_under (s.cells p i) first last
  seen_under-stripped s p i sound tells range = by_cell (s.cells p i) refl
    where
      by_cell : (found : Option Cell) → s.cells p i ≡ found → option_map_or reply.Value answer reply.Fault ≡ seen_under found first last
      by_cell None none =
          ap (λ (a : Option ℕ). option_map_or reply.Value a reply.Fault) (refuses_no_tag word first last answer range (tells.none none) stripped)
      by_cell (Some cell) stands =
          let good = sound.tags p i cell stands in
          answer-cell cell (has_mark word) good.0 good.1 (tells.cell cell stands).whole

-- an entry that the words show, at an index of its space
pub entry-tells : (words : List ℕ) (shape : Shape) (s : Table) (p : Space) (i : ℕ) → IsValidShape shape → IsShownAs words (sizes_of shape) s →
    i < limit_in (sizes_of shape) p → EntryTells s p i (slice_index words (entry_place (sizes_of shape) p i))
entry-tells words shape s p i valid h below =
    subst (λ (z : Sizes). EntryTells s p i (slice_index words (entry_place z p i))) h.same
    (EntryWordsTell-near words words s p i h.sound (subst AreSmall (sym h.same) (AreSmall-valid shape valid)) h.shows (IsNear-refl s.sizes words)
    (subst (λ (z : Sizes). i < limit_in z p) (sym h.same) below))

-- a look at an index of the space, other than 0
pub look-stripped : (words : List ℕ) (shape : Shape) (p : Space) (w first last : ℕ) (answer : Option ℕ) → IsValidShape shape → IsRange first last →
    index_of w ≢ 0 → index_of w < limit_in (sizes_of shape) p →
    IsStripped (slice_index words (entry_place (sizes_of shape) p (index_of w))) first last answer →
    LooksAt words (sizes_of shape) p w first last (option_map_or reply.Value answer reply.Fault)
look-stripped words shape p w first last answer valid range some below stripped s h =
    seen_under-stripped (slice_index words (entry_place (sizes_of shape) p (index_of w))) first last answer stripped s p (index_of w) h.sound.cells
    (entry-tells words shape s p (index_of w) valid h below) range
    ∙ sym (ap (λ (test : Bool). if test then reply.Null else seen_under (s.cells p (index_of w)) first last) (ne_eqb (index_of w) 0 some))

-- a look answers a value, or misses
pub look-cases : (s : Table) (p : Space) (w first last : ℕ) (said : Reply) → said ≡ look s p w first last →
    IsMiss said ⊎ ((v : ℕ) × (said ≡ reply.Value v))
look-cases s p w first last said is = by_index (index_of w == 0) (s.cells p (index_of w)) is
  where
    by_test : (test : Bool) (value : ℕ) → said ≡ (if test then reply.Value value else reply.Fault) → IsMiss said ⊎ ((v : ℕ) × (said ≡ reply.Value v))
    by_test true value h = inr (value, h)
    by_test false value h = inl (inr h)

    by_index : (null : Bool) (found : Option Cell) → said ≡ (if null then reply.Null else seen_under found first last) →
        IsMiss said ⊎ ((v : ℕ) × (said ≡ reply.Value v))
    by_index true found h = inl (inl h)
    by_index false None h = inl (inr h)
    by_index false (Some c) h = by_test (c.shown && is_asked first last c.tag) c.value h

-- a look that answers a value found a cell whose tag is asked
seen_under-value : (cell : Option Cell) (first last v : ℕ) → reply.Value v ≡ seen_under cell first last →
    IsSomeAnd cell (λ c. IsTrue (is_asked first last c.tag)) × (v ≡ value_at cell)
seen_under-value None first last v is = absurd (cc)
seen_under-value (Some c) first last v is = by_shown c.shown (is_asked first last c.tag) refl is
  where
    by_shown : (shown asked : Bool) → is_asked first last c.tag ≡ asked → reply.Value v ≡ seen_if shown asked c.value →
        IsTrue (is_asked first last c.tag) × (v ≡ c.value)
    by_shown true true test h = (test, cc)
    by_shown true false test h = absurd (cc)
    by_shown false asked test h = absurd (cc)

pub look-value : (s : Table) (p : Space) (w first last v : ℕ) → reply.Value v ≡ look s p w first last →
    IsSomeAnd (s.cells p (index_of w)) (λ c. IsTrue (is_asked first last c.tag)) × (v ≡ value_at (s.cells p (index_of w)))
look-value s p w first last v is = by_index (index_of w == 0) is
  where
    by_index : (null : Bool) → reply.Value v ≡ (if null then reply.Null else seen_under (s.cells p (index_of w)) first last) →
        IsSomeAnd (s.cells p (index_of w)) (λ c. IsTrue (is_asked first last c.tag)) × (v ≡ value_at (s.cells p (index_of w)))
    by_index true h = absurd (cc)
    by_index false h = seen_under-value (s.cells p (index_of w)) first last v h
