-- The word of a seed: a number below 2^64 in decimal digits, with no leading zero.
use Rattle.std.specs.Prelude.{ℕ, ◌+◌, ◌*◌, ◌^◌, ◌==◌, nat_lt, if◌then◌else◌, List, [], ◌∷◌, length, Option, Some, None}
use Rattle.std.specs.Option.{option_and_then}
use Rattle.script_reader.specs.Spelling.{digit_of, number_onto, when}

-- a number that has room in 64 bits
abbrev pub fitting : Option ℕ → Option ℕ
fitting number = option_and_then (λ n. when (nat_lt n (2 ^ 64)) (Some n)) number

-- the number with one decimal digit more after its own
abbrev pub with_digit : ℕ → ℕ → Option ℕ
with_digit n byte = option_and_then (λ digit. when (nat_lt digit 10) (Some (10 * n + digit))) (digit_of byte)

-- the seed that a word spells: 0, or decimal digits of which the first is not 0
abbrev pub seed_of : List ℕ → Option ℕ
seed_of [] = None
seed_of (first ∷ more) =
    if first == 48 then when (length more == 0) (Some 0)
    else fitting (number_onto 10 0 (first ∷ more))
