-- Shading: white objects become shaded, and are listed in the order in which that happens. It speaks of words alone.
use Rattle.std.specs.Prelude.{◌≡◌, ◌≢◌, ◌⊎◌, ℕ, ◌+◌, ◌==◌, ◌<◌, ◌≤◌, Bool, List, length, slice_index}
use Rattle.plain_table.specs.Area.{count_below}
use Rattle.plain_table.specs.Words.{header_place}

-- an object is white where its header is 0, and shaded but not scanned where it is 1
abbrev pub header_of : List ℕ → ℕ → ℕ
header_of words o = slice_index words (header_place o)

abbrev pub is_white : List ℕ → ℕ → Bool
is_white words o = header_of words o == 0

-- how many of the objects below n are white
abbrev pub white_in : List ℕ → ℕ → ℕ
white_in words n = count_below (is_white words) n

-- the object of a word, and of one of the words from a place on
abbrev pub names : ℕ → ℕ → Type 0
names word o = word ≡ o + 1

abbrev pub named_at : List ℕ → (first many : ℕ) → ℕ → Type 0
named_at words first many o = (k : ℕ) × (k < many) × (slice_index words (first + k) ≡ o + 1)

-- the object stands in the list, at one of the places from `len` on below `end`
abbrev pub IsListed : List ℕ → (len end o : ℕ) → Type 0
IsListed list len end o = (j : ℕ) × (len ≤ j) × (j < end) × (slice_index list j ≡ o)

-- the objects of which `held` speaks are shaded, and those that were white are listed, each once, from `len` on
pub record Shades (old now list listed : List ℕ) (len end : ℕ) (held : ℕ → Type 0) : Type 0 where
  pub long : length now ≡ length old
  pub list_long : length listed ≡ length list
  pub headers : (o : ℕ) → o < length list → (header_of now o ≡ header_of old o)
      ⊎ ((header_of old o ≡ 0) × (header_of now o ≡ 1) × IsListed listed len end o)
  pub rest : (place : ℕ) → ((o : ℕ) → o < length list → place ≢ header_place o) → slice_index now place ≡ slice_index old place
  pub grown : len ≤ end
  pub kept : (j : ℕ) → j < len → slice_index listed j ≡ slice_index list j
  pub new : (j : ℕ) → len ≤ j → j < end →
      (slice_index listed j < length list) × (header_of old (slice_index listed j) ≡ 0) × (header_of now (slice_index listed j) ≡ 1) × held (slice_index listed j)
  pub differ : (i j : ℕ) → len ≤ i → i < j → j < end → slice_index listed i ≢ slice_index listed j
  pub done : (o : ℕ) → o < length list → held o → header_of now o ≢ 0
  pub room : end + white_in now (length list) ≡ len + white_in old (length list)
