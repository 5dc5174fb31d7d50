-- How the places of a line are spelled: a variable is one letter from a to p, a small number has no leading zero and
-- at most nine digits, and tags, index words and values are lower-case hexadecimal digits of a fixed number. A range of
-- tags is one tag, or in version 2 two of them with `-` between.
use Rattle.std.specs.Prelude.{ℕ, ◌+◌, ◌-◌, ◌*◌, ◌==◌, nat_lt, nat_le, ◌&&◌, if◌then◌else◌, Bool, List, [], ◌∷◌, length, Option, Some, None, count_ones}
use Rattle.std.specs.Option.{option_and_then, option_map}
use Rattle.std.specs.List.{slice_split}
use Rattle.tag_set.specs.Range.{TagRange}

-- the parts of a line between its spaces, and the parts of a text between its ends of line
abbrev pub words : List ℕ → List (List ℕ)
words line = slice_split (λ byte. byte == 32) line

abbrev pub pieces : List ℕ → List (List ℕ)
pieces text = slice_split (λ byte. byte == 10) text

-- the digits 0 to 9 and a to f
abbrev pub digit_of : ℕ → Option ℕ
digit_of byte =
    if nat_le 48 byte && nat_lt byte 58 then Some (byte - 48)
    else (if nat_le 97 byte && nat_lt byte 103 then Some (byte - 87) else None)

-- the number that digits of a base spell after those that spell n
abbrev pub number_onto : ℕ → ℕ → List ℕ → Option ℕ
number_onto base n [] = Some n
number_onto base n (byte ∷ bytes) =
    option_and_then (λ digit. if nat_lt digit base then number_onto base (base * n + digit) bytes else None)
    (digit_of byte)

-- the value that passes a test
abbrev pub when : Bool → Option ℕ → Option ℕ
when test number = if test then number else None

-- a letter from a to p, numbered from 0
abbrev pub variable_of : List ℕ → Option ℕ
variable_of (letter ∷ []) = when (nat_le 97 letter && nat_lt letter 113) (Some (letter - 97))
variable_of _ = None

-- 0, or a digit from 1 to 9 and at most eight more digits
abbrev pub small_of : List ℕ → Option ℕ
small_of [] = None
small_of (first ∷ more) =
    if first == 48 then when (length more == 0) (Some 0)
    else when (nat_le (length more) 8) (number_onto 10 0 (first ∷ more))

-- lower-case hexadecimal digits, just so many
abbrev pub hex_of : ℕ → List ℕ → Option ℕ
hex_of digits word = when (length word == digits) (number_onto 16 0 word)

-- in version 2 a tag is any byte but 0, and in version 1 one with exactly four set bits
abbrev pub is_tag : ℕ → ℕ → Bool
is_tag version byte = if version == 2 then nat_le 1 byte else count_ones byte == 4

-- two hexadecimal digits of a tag
abbrev pub tag_of : ℕ → List ℕ → Option ℕ
tag_of version word = option_and_then (λ byte. when (is_tag version byte) (Some byte)) (hex_of 2 word)

-- the range of one tag, and that of two where the first is below the last
abbrev pub range_of_one : ℕ → TagRange
range_of_one tag = record { first = tag; last = tag }

abbrev pub range_of_two : ℕ → ℕ → Option TagRange
range_of_two first last = if nat_lt first last then Some (record { first = first; last = last }) else None

-- a tag, for the range of one; in version 2 also two tags with `-` between, for the range of two
abbrev pub range_of : ℕ → List ℕ → Option TagRange
range_of version (a ∷ b ∷ dash ∷ c ∷ d ∷ []) =
    if version == 2 && dash == 45
    then option_and_then (λ first. option_and_then (λ last. range_of_two first last) (tag_of version (c ∷ d ∷ [])))
    (tag_of version (a ∷ b ∷ []))
    else None
range_of version word = option_map range_of_one (tag_of version word)

-- an index word has eight hexadecimal digits, and a value twelve
abbrev pub index_word_of : List ℕ → Option ℕ
index_word_of word = hex_of 8 word

abbrev pub value_of : List ℕ → Option ℕ
value_of word = hex_of 12 word
