-- Which words a strip answers, by what a word is made of: its flags, its tag byte and its low 48 bits.
use Rattle.std.proofs.Common.{◌≡◌, ◌≢◌, ◌⊎◌, inl, inr, ℕ, ◌+◌, ◌-◌, ◌*◌, ◌%◌, ◌/◌, ◌^◌, ◌<◌, ◌≤◌, Bool, true, false, Some, None, refl, ap, sym, ◌∙◌, subst, arith}
use Rattle.std.specs.Prelude.{if◌then◌else◌, Option, IsBitSet}
use Rattle.std.specs.Option.{SomeIff}
use Rattle.std.proofs.lemmas.Nat.{shr-shr}
use Rattle.std.proofs.lemmas.Nat.Bits.{and_pow, bit_at-zero, bit_at-pow_other}
use Rattle.std.proofs.Math.Nat.{zero-mul}
use Rattle.std.specs.Int.{bit_at}
use Rattle.tag_set.specs.Tag.{IsTag}
use Rattle.tag_set.specs.Range.{IsRange, IsWithin}
use Rattle.tag_set.specs.Strip.{IsStripped, tag_byte, flag_byte, regular_word, HasNoFlagButMark, AnswersTagsWithin, RefusesFlags, RefusesNoTag}

-- a fact in the place of another that comes to the same, and an equal value
some_iff : (o : Option ℕ) (P Q : Type 0) (v w : ℕ) → (P → Q) → (Q → P) → v ≡ w → SomeIff o P v → SomeIff o Q w
some_iff None P Q v w there back e h = λ q. h (back q)
some_iff (Some x) P Q v w there back e h = (there h.0, h.1 ∙ e)

from_none : (o : Option ℕ) (P : Type 0) (v : ℕ) → SomeIff o P v → (P → ⊥) → o ≡ None
from_none None P v h not_p = refl
from_none (Some x) P v h not_p = absurd (not_p h.0)

-- ---- the word of a regular entry

-- what a regular entry's word is made of
record IsRegularWord (word tag value : ℕ) : Type 0 where
  low : word % 2 ^ 48 ≡ value
  tag_is : tag_byte word ≡ tag
  plain : HasNoFlagButMark word

regular_word-parts : (tag value : ℕ) (marked : Bool) → tag < 2 ^ 8 → value < 2 ^ 48 → IsRegularWord (regular_word tag value marked) tag value
regular_word-parts tag value true t v = record { low = omega arith; tag_is = omega arith; plain = inr (omega arith) }
regular_word-parts tag value false t v = record { low = omega arith; tag_is = omega arith; plain = inl (omega arith) }

pub answers_tags_within : AnswersTagsWithin
answers_tags_within tag value first last marked answer is_tag v stripped =
    let word = regular_word tag value marked in
    let parts = regular_word-parts tag value marked is_tag.1 v in
    some_iff answer (IsWithin first last (tag_byte word) × HasNoFlagButMark word) (IsWithin first last tag) (word % 2 ^ 48) value
    (λ h. subst (λ (t : ℕ). IsWithin first last t) parts.tag_is h.0)
    (λ h. (subst (λ (t : ℕ). IsWithin first last t) (sym parts.tag_is) h, parts.plain))
    parts.low stripped

-- the same for a word that is known to be a regular entry's
pub stripped-regular : (word tag value first last : ℕ) (marked : Bool) (answer : Option ℕ) → word ≡ regular_word tag value marked
    → IsTag tag → value < 2 ^ 48 → IsStripped word first last answer → SomeIff answer (IsWithin first last tag) value
stripped-regular word tag value first last marked answer e is_tag v stripped =
    answers_tags_within tag value first last marked answer is_tag v
    (subst (λ (w : ℕ). IsStripped w first last answer) e stripped)

-- ---- other words

-- a word with a flag that isn't the mark
pub stripped-flagged : (word first last : ℕ) (answer : Option ℕ) → flag_byte word ≢ 0 → flag_byte word ≢ 2 ^ 6
    → IsStripped word first last answer → answer ≡ None
stripped-flagged word first last answer some other stripped =
    from_none answer (IsWithin first last (tag_byte word) × HasNoFlagButMark word) (word % 2 ^ 48) stripped
    (λ h. elim h.1 [ inl e ↦ some e | inr e ↦ other e ])

-- the same by the word's range
pub stripped-unmarked_flagged : (word first last : ℕ) (answer : Option ℕ) → 2 ^ 56 ≤ word → word < 2 ^ 62
    → IsStripped word first last answer → answer ≡ None
stripped-unmarked_flagged word first last answer low high stripped =
    stripped-flagged word first last answer (omega arith) (omega arith) stripped

-- a bit of the flags, where there is none but the mark
plain_bit : (flags place : ℕ) → (flags ≡ 0) ⊎ (flags ≡ 2 ^ 6) → place ≢ 6 → bit_at flags place ≡ 0
plain_bit flags place plain apart =
    elim plain [
      | inl e ↦ ap (λ (x : ℕ). bit_at x place) e ∙ bit_at-zero place
      | inr e ↦ ap (λ (x : ℕ). bit_at x place) e ∙ bit_at-pow_other 6 place apart
    ]

-- a word with a bit from 56 on that isn't the marking bit
pub refuses_flags : RefusesFlags
refuses_flags word first last bit answer low apart set stripped =
    from_none answer (IsWithin first last (tag_byte word) × HasNoFlagButMark word) (word % 2 ^ 48) stripped
    (λ h.
    let place : bit ≡ 56 + (bit - 56) = omega arith in
    let same : bit_at word bit ≡ bit_at (flag_byte word) (bit - 56) =
    ap (λ (b : ℕ). bit_at word b) place ∙ ap (λ (x : ℕ). x % 2) (sym (shr-shr word 56 (bit - 56))) in
    let zero_there : bit_at (flag_byte word) (bit - 56) ≡ 0 = plain_bit (flag_byte word) (bit - 56) h.1 (omega arith) in
    set (and_pow word bit ∙ ap (λ (x : ℕ). x * 2 ^ bit) (same ∙ zero_there) ∙ zero-mul (2 ^ bit)))

-- a word without a tag
pub refuses_no_tag : RefusesNoTag
refuses_no_tag word first last answer range none stripped =
    from_none answer (IsWithin first last (tag_byte word) × HasNoFlagButMark word) (word % 2 ^ 48) stripped
    (λ h. omega (arith, h.0.0, range.0.0, none))
