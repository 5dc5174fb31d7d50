-- The bits of entry words: those of a cell's word are its parts, and the tag bits of all other words are 0.
use Rattle.std.proofs.Common.{◌≡◌, ◌≢◌, ◌+◌, ◌*◌, ◌/◌, ◌%◌, ◌^◌, ◌<◌, ◌≤◌, ◌==◌, ℕ, Bool, true, false, refl, sym, ap, ◌∙◌, arith}
use Rattle.std.specs.Prelude.{if◌then◌else◌}
use Rattle.plain_table.specs.declared.events.Cell.{Cell}
use Rattle.plain_table.specs.Words.{cell_word, free_word, evacuation_word, no_access_word}
use Rattle.word_laws.specs.ReadLaws.{tag_bits, value_bits, has_shown, has_mark}

module _ (cell : Cell) (marked : Bool) (tag : cell.tag < 256) (value : cell.value < 2 ^ 48) where
  abbrev word_at : Bool → Bool → ℕ
  word_at shown bit = (if shown then 0 else 2 ^ 59) + (cell.value + 2 ^ 48 * cell.tag + (if bit then 2 ^ 62 else 0))

  pub tag_bits-cell : tag_bits (cell_word cell marked) ≡ cell.tag
  tag_bits-cell = by_flags cell.shown marked
    where
      by_flags : (shown bit : Bool) → tag_bits (word_at shown bit) ≡ cell.tag
      by_flags true true = omega (arith, tag, value)
      by_flags true false = omega (arith, tag, value)
      by_flags false true = omega (arith, tag, value)
      by_flags false false = omega (arith, tag, value)

  pub value_bits-cell : value_bits (cell_word cell marked) ≡ cell.value
  value_bits-cell = by_flags cell.shown marked
    where
      by_flags : (shown bit : Bool) → value_bits (word_at shown bit) ≡ cell.value
      by_flags true true = omega (arith, tag, value)
      by_flags true false = omega (arith, tag, value)
      by_flags false true = omega (arith, tag, value)
      by_flags false false = omega (arith, tag, value)

  pub has_shown-cell : has_shown (cell_word cell marked) ≡ cell.shown
  has_shown-cell = by_flags cell.shown marked
    where
      clear : (bit : Bool) → word_at true bit / 2 ^ 59 % 2 ≡ 0
      clear true = omega (arith, tag, value)
      clear false = omega (arith, tag, value)

      set_there : (bit : Bool) → word_at false bit / 2 ^ 59 % 2 ≡ 1
      set_there true = omega (arith, tag, value)
      set_there false = omega (arith, tag, value)

      by_flags : (shown bit : Bool) → has_shown (word_at shown bit) ≡ shown
      by_flags true bit = ap (λ n. n == 0) (clear bit)
      by_flags false bit = ap (λ n. n == 0) (set_there bit)

  pub has_mark-cell : has_mark (cell_word cell marked) ≡ marked
  has_mark-cell = by_flags cell.shown marked
    where
      set_there : (shown : Bool) → word_at shown true / 2 ^ 62 % 2 ≡ 1
      set_there true = omega (arith, tag, value)
      set_there false = omega (arith, tag, value)

      clear : (shown : Bool) → word_at shown false / 2 ^ 62 % 2 ≡ 0
      clear true = omega (arith, tag, value)
      clear false = omega (arith, tag, value)

      by_flags : (shown bit : Bool) → has_mark (word_at shown bit) ≡ bit
      by_flags shown true = ap (λ n. n == 1) (set_there shown)
      by_flags shown false = ap (λ n. n == 1) (clear shown)

  -- the word of a cell is no other one
  pub cell_word-open : 1 ≤ cell.tag → cell_word cell marked ≢ no_access_word
  cell_word-open some closed =
      let none : tag_bits no_access_word ≡ 0 = refl in
      let same : cell.tag ≡ 0 = sym tag_bits-cell ∙ ap tag_bits closed ∙ none in
      omega (arith, same, some)

pub tag_bits-free : (next : ℕ) → next < 2 ^ 48 → tag_bits (free_word next) ≡ 0
tag_bits-free next few = omega (arith, few)

pub tag_bits-evacuation : (number : ℕ) → number < 2 ^ 48 → tag_bits (evacuation_word number) ≡ 0
tag_bits-evacuation number few = omega (arith, few)

-- the mark of an entry that was not marked
pub cell_word-marked : (cell : Cell) (bit : Bool) (word : ℕ) → word < 2 ^ 62 → cell_word cell bit ≡ word → word + 2 ^ 62 ≡ cell_word cell true
cell_word-marked cell true word low is = absurd (omega (arith, low, is))
cell_word-marked cell false word low is = omega (arith, is)
