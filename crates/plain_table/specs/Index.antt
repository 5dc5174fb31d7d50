-- Index words: the upper 16 bits of a word of 32 bits name an entry of a space, and the lower 16 bits are ignored. A
-- field of an object holds such a word and never an address. The word of an index has its lower 16 bits zero, and index 0
-- is the null entry.
use Rattle.std.specs.Prelude.{ℕ, ◌*◌, ◌/◌}

-- the index that a word names
abbrev pub index_of : ℕ → ℕ
index_of word = word / 65536

-- the word of an index, with its low 16 bits zero
abbrev pub word_of : ℕ → ℕ
word_of index = 65536 * index
