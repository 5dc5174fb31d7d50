-- What a tag is, and which tags are old: those that a script of version 1 may name. There are 255 tags, and 70 old ones.
use Rattle.std.specs.Prelude.{◌≡◌, ℕ, ◌<◌, ◌≤◌, count_ones}

-- a tag is a byte other than 0
abbrev pub IsTag : ℕ → Type 0
IsTag byte = (1 ≤ byte) × (byte < 256)

-- an old tag is a byte with exactly four set bits
abbrev pub IsOldTag : ℕ → Type 0
IsOldTag byte = (byte < 256) × (count_ones byte ≡ 4)
