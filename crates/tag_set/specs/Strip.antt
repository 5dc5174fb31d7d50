-- What is left of an entry's word under a range of tags: the low 48 bits, where the word's tag is in the range and no
-- flag is set but the mark. And the laws of it: which words are answered, and which are refused.
use Rattle.std.specs.Prelude.{◌≡◌, ◌≢◌, ◌⊎◌, ℕ, ◌+◌, ◌*◌, ◌/◌, ◌%◌, ◌^◌, ◌<◌, ◌≤◌, Bool, if◌then◌else◌, Option, None, IsBitSet}
use Rattle.std.specs.Option.{SomeIff}
use Rattle.tag_set.specs.Tag.{IsTag}
use Rattle.tag_set.specs.Range.{IsRange, IsWithin}

-- bits 48 to 55 of a word
abbrev pub tag_byte : ℕ → ℕ
tag_byte word = word / 2 ^ 48 % 2 ^ 8

-- bits 56 to 63 of a word of 64 bits
abbrev pub flag_byte : ℕ → ℕ
flag_byte word = word / 2 ^ 56

-- no bit from 56 on is set, but for the marking bit, which is bit 62
abbrev pub HasNoFlagButMark : ℕ → Type 0
HasNoFlagButMark word = (flag_byte word ≡ 0) ⊎ (flag_byte word ≡ 2 ^ 6)

-- what a strip of a word answers under a range: the low 48 bits exactly where the tag byte lies in the range and no flag
-- is set but the mark, and nothing elsewhere
abbrev pub IsStripped : ℕ → ℕ → ℕ → Option ℕ → Type 0
IsStripped word first last answer =
    SomeIff answer (IsWithin first last (tag_byte word) × HasNoFlagButMark word) (word % 2 ^ 48)

-- the word of a regular entry: the value in bits 0 to 47, the tag in bits 48 to 55, and bit 62 where marked
abbrev pub regular_word : ℕ → ℕ → Bool → ℕ
regular_word tag value marked = value + 2 ^ 48 * tag + (if marked then 2 ^ 62 else 0)

-- a regular entry's word is answered exactly where the entry's tag lies in the range, and then by the entry's value
abbrev pub AnswersTagsWithin : Type 0
AnswersTagsWithin =
    (tag value first last : ℕ) (marked : Bool) (answer : Option ℕ) → IsTag tag → value < 2 ^ 48
    → IsStripped (regular_word tag value marked) first last answer
    → SomeIff answer (IsWithin first last tag) value

-- a word with a bit from 56 on that isn't the marking bit is refused under every range
abbrev pub RefusesFlags : Type 0
RefusesFlags =
    (word first last bit : ℕ) (answer : Option ℕ) → 56 ≤ bit → bit ≢ 62 → IsBitSet word bit
    → IsStripped word first last answer → answer ≡ None

-- a word without a tag is refused under every range
abbrev pub RefusesNoTag : Type 0
RefusesNoTag =
    (word first last : ℕ) (answer : Option ℕ) → IsRange first last → tag_byte word ≡ 0
    → IsStripped word first last answer → answer ≡ None
