-- Single bits of words.
use Rattle.std.specs.Prelude.{ℕ, Bool, ◌-◌, ◌/◌, ◌%◌, ◌^◌, ◌==◌, ◌&&◌, not, bit_and}

-- whether bit k stands in n
abbrev pub bit : ℕ → ℕ → Bool
bit n k = n / 2 ^ k % 2 == 1

-- a marked entry has bit 62, and an evacuation entry bit 58
abbrev pub is_marked : ℕ → Bool
is_marked w = bit w 62

abbrev pub is_moved : ℕ → Bool
is_moved w = bit w 58

-- a cell has none of the bits 56, 57 and 58, and a tag in bits 48 to 55
abbrev pub is_cell_bits : ℕ → Bool
is_cell_bits w = bit_and w 504403158265495552 == 0 && not (bit_and w 71776119061217280 == 0)

-- a word without the marking bit
abbrev pub without_mark : ℕ → ℕ
without_mark w = bit_and w (2 ^ 64 - 1 - 2 ^ 62)
