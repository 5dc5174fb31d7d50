-- A commit of a segment, entry by entry, from an index on.
use Rattle.std.proofs.Common.{◌≡◌, ◌≢◌, ℕ, ◌+◌, ◌<◌, ◌≤◌, List, length, slice_index, slice_set, sym, ap, ◌∙◌, inl, inr, arith, length-set, get_or-set_same, get_or-set_other}
use Rattle.std.proofs.lemmas.Bool.{cases_eq}
use Rattle.plain_table.specs.declared.events.Space.{Space}
use Rattle.plain_table.specs.declared.events.Space.TheVariants.{External, Trusted}
use Rattle.plain_table.specs.Table.{Sizes, limit_in}
use Rattle.plain_table.specs.Words.{entry_place, free_word, freelist_place, freelist_word, words_in_all}
use Rattle.plain_table.proofs.WordPlaces.{entry_place-below, entry_place-from, freelist_place-below}
use Rattle.word_laws.specs.SegmentLaws.{IsCommitted}

-- entries stand one after another from entry 0 on
pub entry_place-first : (sizes : Sizes) (p : Space) (i : ℕ) → entry_place sizes p 0 + i ≡ entry_place sizes p i
entry_place-first sizes External i = omega arith
entry_place-first sizes Trusted i = omega arith

-- each entry from an index on, before another one, links the next index; `first` is the place of entry 0
abbrev pub AreLinked : List ℕ → (first start end : ℕ) → Type 0
AreLinked words first start end = (i : ℕ) → start ≤ i → i < end → slice_index words (first + i) ≡ free_word (i + 1)

-- and all other words stay
abbrev pub AreOthersKept : (old now : List ℕ) → (first start end : ℕ) → Type 0
AreOthersKept old now first start end = (place : ℕ) → ((i : ℕ) → start ≤ i → i < end → place ≢ first + i) → slice_index now place ≡ slice_index old place

pub AreLinked-next : (words : List ℕ) (first start index w : ℕ) → first + index < length words → w ≡ free_word (index + 1) →
    AreLinked words first start index → AreLinked (slice_set words (first + index) w) first start (index + 1)
AreLinked-next words first start index w within is linked i from below = elim (cases_eq index i) [
  | inl same ↦
      ap (λ j. slice_index (slice_set words (first + index) w) (first + j)) (sym same)
      ∙ get_or-set_same words (first + index) w 0 within ∙ is ∙ ap (λ j. free_word (j + 1)) same
  | inr apart ↦
      get_or-set_other words (first + index) (first + i) w 0 (λ e. apart (omega (arith, e)))
      ∙ linked i from (omega (arith, below, apart))
]

pub AreOthersKept-next : (old words : List ℕ) (first start index w : ℕ) → start ≤ index →
    AreOthersKept old words first start index → AreOthersKept old (slice_set words (first + index) w) first start (index + 1)
AreOthersKept-next old words first start index w from kept place apart =
    get_or-set_other words (first + index) place w 0 (apart index from (omega arith))
    ∙ kept place (λ i low high. apart i low (omega (arith, high)))

-- with the freelist word of all entries that are linked, the segment is committed
pub IsCommitted-linked_all : (sizes : Sizes) (p : Space) (start : ℕ) (old words : List ℕ) (first : ℕ) → first ≡ entry_place sizes p 0 →
    length old ≡ words_in_all sizes → length words ≡ length old → AreLinked words first start (start + sizes.seg) →
    AreOthersKept old words first start (start + sizes.seg) →
    IsCommitted sizes p start old (slice_set words (freelist_place p) (freelist_word start sizes.seg))
IsCommitted-linked_all sizes p start old words first begins whole long linked kept =
    let word = freelist_word start sizes.seg in
    let at : (i : ℕ) → first + i ≡ entry_place sizes p i = λ i. ap (λ n. n + i) begins ∙ entry_place-first sizes p i in
    record {
      whole = length-set words (freelist_place p) word ∙ long;
      list = get_or-set_same words (freelist_place p) word 0 (omega (arith, freelist_place-below p, whole, long));
      linked = λ i from below.
          get_or-set_other words (freelist_place p) (entry_place sizes p i) word 0
          (λ same. omega (arith, same, freelist_place-below p, entry_place-from sizes p i))
          ∙ ap (slice_index words) (sym (at i)) ∙ linked i from below;
      others = λ place apart away.
          get_or-set_other words (freelist_place p) place word 0 apart
          ∙ kept place (λ i from below same. away i from below (same ∙ at i));
    }

pub entry-within : (sizes : Sizes) (p : Space) (words : List ℕ) (first i : ℕ) → first ≡ entry_place sizes p 0 → length words ≡ words_in_all sizes →
    i < limit_in sizes p → first + i < length words
entry-within sizes p words first i begins whole below =
    omega (arith, begins, entry_place-first sizes p i, entry_place-below sizes p i below, whole)
