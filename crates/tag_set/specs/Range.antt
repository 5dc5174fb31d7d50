-- What a range of tags is: all the tags from a first one to a last one.
use Rattle.std.specs.Prelude.{ℕ, ◌≤◌}
use Rattle.tag_set.specs.Tag.{IsTag}

-- a range, by its ends
pub record TagRange : Type 0 where
  pub first : ℕ
  pub last : ℕ

-- two tags are the ends of a range where the first is not above the last
abbrev pub IsRange : ℕ → ℕ → Type 0
IsRange first last = IsTag first × IsTag last × (first ≤ last)

-- a byte lies in a range
abbrev pub IsWithin : ℕ → ℕ → ℕ → Type 0
IsWithin first last byte = (first ≤ byte) × (byte ≤ last)
