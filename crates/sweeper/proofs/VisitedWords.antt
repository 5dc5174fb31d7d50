-- Visits of fields write words of entries, the freelist and the area alone.
use Rattle.std.proofs.Common.{◌≡◌, ◌≢◌, ◌+◌, ◌-◌, ◌*◌, ◌/◌, ◌%◌, ◌^◌, ◌<◌, ℕ, Bool, true, false, List, slice_index, slice_set, Option, Some, None, refl, ◌∙◌, arith, get_or-set_other}
use Rattle.std.specs.Prelude.{nat_lt, nat_le, ◌&&◌, if◌then◌else◌}
use Rattle.plain_table.specs.declared.events.Field.TheVariants as field
use Rattle.plain_table.specs.Index.{index_of}
use Rattle.plain_table.specs.Table.{Sizes}
use Rattle.plain_table.specs.Words.{evacuation_word, freelist_word, field_place}
use Rattle.sweeper.specs.Marking.{external_visits, all_visited}
use Rattle.word_laws.specs.Kinds.{is_cell_word}
use Rattle.word_laws.specs.Runs.{marked_after, with_bit}
use Rattle.sweeper.specs.Visits.{entry_taken, entered, moved_by, visited}
use Rattle.sweeper.specs.Whole.{moving_of}

-- a word that is not written
kept-if : (test : Bool) (words : List ℕ) (place other w : ℕ) → other ≢ place → slice_index (if test then slice_set words place w else words) other ≡ slice_index words other
kept-if true words place other w apart = get_or-set_other words place other w 0 apart
kept-if false words place other w apart = refl

marked_after-low : (words : List ℕ) (base limit i place : ℕ) → place < base → slice_index (marked_after words base limit i) place ≡ slice_index words place
marked_after-low words base limit i place below =
    kept-if (nat_lt i limit && is_cell_word (slice_index words (base + i))) words (base + i) place (with_bit (slice_index words (base + i))) (λ e. omega (arith, e, below))

entered-low : (words : List ℕ) (base start number place : ℕ) → place < base → place ≢ 0 → place ≢ 1 → slice_index (entered words base start number) place ≡ slice_index words place
entered-low words base start number place below off_0 off_1 = by (nat_lt 0 (slice_index words 0 / 2 ^ 32) && nat_lt (slice_index words 0 % 2 ^ 32) start)
  where
    by : (test : Bool) → slice_index (if test then entry_taken words base (slice_index words 0 % 2 ^ 32) number else slice_set words 1 (start + 2 ^ 32)) place ≡ slice_index words place
    by true =
        get_or-set_other (slice_set words 0 (freelist_word (slice_index words (base + slice_index words 0 % 2 ^ 32) % 2 ^ 32) (slice_index words 0 / 2 ^ 32 - 1))) (base + slice_index words 0 % 2 ^ 32) place (evacuation_word number) 0
        (λ e. omega (arith, e, below))
        ∙ get_or-set_other words 0 place (freelist_word (slice_index words (base + slice_index words 0 % 2 ^ 32) % 2 ^ 32) (slice_index words 0 / 2 ^ 32 - 1)) 0 off_0
    by false = get_or-set_other words 1 place (start + 2 ^ 32) 0 off_1

moved_by-low : (found : Option ℕ) (words : List ℕ) (base limit number i place : ℕ) → place < base → place ≢ 0 → place ≢ 1 → slice_index (moved_by found words base limit number i) place ≡ slice_index words place
moved_by-low None words base limit number i place below off_0 off_1 = refl
moved_by-low (Some start) words base limit number i place below off_0 off_1 = by (nat_le start i && nat_lt i limit && is_cell_word (slice_index words (base + i)))
  where
    by : (test : Bool) → slice_index (if test then entered words base start number else words) place ≡ slice_index words place
    by true = entered-low words base start number place below off_0 off_1
    by false = refl

visited-low : (words : List ℕ) (base limit number place : ℕ) → place < base → place ≢ 0 → place ≢ 1 → slice_index (visited words base limit number) place ≡ slice_index words place
visited-low words base limit number place below off_0 off_1 =
    let i = index_of (slice_index words (field_place (field.External number))) in
    let marked = marked_after words base limit i in
    moved_by-low (moving_of (slice_index marked 1)) marked base limit number i place below off_0 off_1
    ∙ marked_after-low words base limit i place below

pub external_visits-low : (words : List ℕ) (z : Sizes) (o place : ℕ) → place < 32 + 8 * z.objects → place ≢ 0 → place ≢ 1 → slice_index (external_visits words z o) place ≡ slice_index words place
external_visits-low words z o place below off_0 off_1 =
    let base = 32 + 8 * z.objects in
    let limit = z.seg * z.ext in
    visited-low (visited words base limit (2 * o)) base limit (2 * o + 1) place below off_0 off_1 ∙ visited-low words base limit (2 * o) place below off_0 off_1

pub all_visited-low : (words : List ℕ) (z : Sizes) (o place : ℕ) → place < 32 + 8 * z.objects → place ≢ 0 → place ≢ 1 → slice_index (all_visited words z o) place ≡ slice_index words place
all_visited-low words z o place below off_0 off_1 =
    marked_after-low (external_visits words z o) (32 + 8 * z.objects + z.seg * z.ext) (z.seg * z.tru) (index_of (slice_index (external_visits words z o) (field_place (field.Trusted o)))) place (omega (arith, below))
    ∙ external_visits-low words z o place below off_0 off_1
