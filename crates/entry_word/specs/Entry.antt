-- The machine word of a table entry: which entries are valid, the word of each, and which words are
-- an entry's. The value stands in bits 0 to 47, the tag in bits 48 to 55, each flag in a bit above.
use Rattle.std.specs.Prelude.{◌≡◌, ◌≢◌, ◌⊎◌, ℕ, ◌+◌, ◌*◌, ◌^◌, ◌<◌, ◌≤◌, Bool, if◌then◌else◌}
use Rattle.entry_word.specs.declared.Entry.{Entry}
use Rattle.entry_word.specs.declared.Entry.TheVariants.{Null, NoAccess, Free, Evac, Regular, Unshown}

-- bit 56: the entry is free
abbrev pub free_bit : ℕ
free_bit = 2 ^ 56

-- bit 57: the entry may not be used
abbrev pub no_access_bit : ℕ
no_access_bit = 2 ^ 57

-- bit 58: the entry is an evacuation entry
abbrev pub evacuation_bit : ℕ
evacuation_bit = 2 ^ 58

-- bit 59: the entry isn't published yet
abbrev pub unpublished_bit : ℕ
unpublished_bit = 2 ^ 59

-- bit 62: the entry is marked
abbrev pub marking_bit : ℕ
marking_bit = 2 ^ 62

-- a tag and a value that fit their bits, the tag not 0
abbrev pub IsTagged : ℕ → ℕ → Type 0
IsTagged tag value = (1 ≤ tag) × (tag ≤ 255) × (value < 2 ^ 48)

-- an entry that has a word
abbrev pub IsValid : Entry → Type 0
IsValid Null = Unit {0}
IsValid NoAccess = Unit {0}
IsValid (Free next) = next < 2 ^ 32
IsValid (Evac field) = field < 2 ^ 32
IsValid (Regular tag value marked) = IsTagged tag value
IsValid (Unshown tag value marked) = IsTagged tag value

-- the value in bits 0 to 47, the tag in bits 48 to 55, and the marking bit where marked
abbrev pub tagged_word : ℕ → ℕ → Bool → ℕ
tagged_word tag value marked = value + 2 ^ 48 * tag + (if marked then marking_bit else 0)

-- the word of a valid entry
abbrev pub entry_word : Entry → ℕ
entry_word Null = 0
entry_word NoAccess = no_access_bit
entry_word (Free next) = free_bit + next
entry_word (Evac field) = evacuation_bit + field
entry_word (Regular tag value marked) = tagged_word tag value marked
entry_word (Unshown tag value marked) = unpublished_bit + tagged_word tag value marked

-- no valid entry has this word
abbrev pub IsNoEntry : ℕ → Type 0
IsNoEntry word = (e : Entry) → IsValid e → entry_word e ≢ word

-- no two valid entries have one word
abbrev pub WordsAreUnique : Type 0
WordsAreUnique = (a b : Entry) → IsValid a → IsValid b → entry_word a ≡ entry_word b → a ≡ b

-- the flag, and a number in bits 0 to 31: bits 32 to 55 are zero
abbrev pub IsLinkWord : ℕ → ℕ → Type 0
IsLinkWord flag word = (flag ≤ word) × (word < flag + 2 ^ 32)

-- the flags, a tag that isn't 0 in bits 48 to 55, and a value in bits 0 to 47
abbrev pub IsTaggedWord : ℕ → ℕ → Type 0
IsTaggedWord flags word = (flags + 2 ^ 48 ≤ word) × (word < flags + 2 ^ 56)

-- the word of some valid entry, stated by the ranges that the words stand in
abbrev pub IsEntryWord : ℕ → Type 0
IsEntryWord word =
    (word ≡ 0)
    ⊎ (word ≡ no_access_bit)
    ⊎ IsLinkWord free_bit word
    ⊎ IsLinkWord evacuation_bit word
    ⊎ IsTaggedWord 0 word
    ⊎ IsTaggedWord marking_bit word
    ⊎ IsTaggedWord unpublished_bit word
    ⊎ IsTaggedWord (unpublished_bit + marking_bit) word
