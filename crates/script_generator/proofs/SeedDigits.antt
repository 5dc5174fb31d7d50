-- A number that has no room in 64 bits has none with more digits after it.
use Rattle.std.proofs.Common.{◌≡◌, ℕ, ◌+◌, ◌*◌, ◌^◌, ◌≤◌, ◌<◌, nat_lt, Bool, true, false, cond, List, [], ◌∷◌, length, drop, get_or, Some, None, refl, ap, ◌∙◌, arith}
use Rattle.std.specs.Option.{option_and_then}
use Rattle.std.proofs.lemmas.Grind.{common_steps}
use Rattle.std.proofs.lemmas.List.{at_drop_more, drop_all}
use Rattle.std.proofs.lemmas.Bool.Decides.{nat_tests}
use Rattle.script_reader.specs.Spelling.{digit_of, number_onto, when}
use Rattle.script_generator.specs.Seed.{fitting, with_digit}

lt-false : (m b : ℕ) → b ≤ m → nat_lt m b ≡ false
lt-false m b h = grind (arith, common_steps, nat_tests)

le-from_false : (m b : ℕ) → nat_lt m b ≡ false → b ≤ m
le-from_false m b e = grind (arith, common_steps, nat_tests)

fitting-large : (m : ℕ) → 2 ^ 64 ≤ m → fitting (Some m) ≡ None
fitting-large m h = rw (lt-false m (2 ^ 64) h) refl

number_onto-large : (bytes : List ℕ) (n : ℕ) → 2 ^ 64 ≤ n → fitting (number_onto 10 n bytes) ≡ None
number_onto-large [] n h = fitting-large n h
number_onto-large (byte ∷ bytes) n h =
    elim (digit_of byte)
    as (λ o. fitting (option_and_then (λ d. cond (nat_lt d 10) (number_onto 10 (10 * n + d) bytes) None) o) ≡ None) [
      | None ↦ refl
      | Some d ↦ elim (nat_lt d 10) as (λ b. fitting (cond b (number_onto 10 (10 * n + d) bytes) None) ≡ None)
          [ true ↦ number_onto-large bytes (10 * n + d) (omega (arith, h)) | false ↦ refl ]
    ]

number_onto-room : (m : ℕ) (bytes : List ℕ) (b : Bool) → nat_lt m (2 ^ 64) ≡ b
    → fitting (number_onto 10 m bytes) ≡ option_and_then (λ k. fitting (number_onto 10 k bytes)) (when b (Some m))
number_onto-room m bytes true e = refl
number_onto-room m bytes false e = number_onto-large bytes m (le-from_false m (2 ^ 64) e)

-- one digit after another
pub number_onto-digit : (n byte : ℕ) (bytes : List ℕ)
    → fitting (number_onto 10 n (byte ∷ bytes))
    ≡ option_and_then (λ m. fitting (number_onto 10 m bytes)) (fitting (with_digit n byte))
number_onto-digit n byte bytes =
    elim (digit_of byte)
    as (λ o. fitting (option_and_then (λ d. cond (nat_lt d 10) (number_onto 10 (10 * n + d) bytes) None) o)
    ≡ option_and_then (λ m. fitting (number_onto 10 m bytes))
    (fitting (option_and_then (λ d. when (nat_lt d 10) (Some (10 * n + d))) o))) [
      | None ↦ refl
      | Some d ↦ elim (nat_lt d 10)
          as (λ b. fitting (cond b (number_onto 10 (10 * n + d) bytes) None)
          ≡ option_and_then (λ m. fitting (number_onto 10 m bytes)) (fitting (when b (Some (10 * n + d)))))
          [ true ↦ number_onto-room (10 * n + d) bytes (nat_lt (10 * n + d) (2 ^ 64)) refl | false ↦ refl ]
    ]

-- a byte that is no digit, or one too many, ends the number
pub number_onto-stuck : (n : ℕ) (digits : List ℕ) (i : ℕ) → i < length digits
    → fitting (with_digit n (get_or digits i 0)) ≡ None → fitting (number_onto 10 n (drop i digits)) ≡ None
number_onto-stuck n digits i h e =
    at_drop_more (λ rest. fitting (number_onto 10 n rest)) digits i 0 h
    ∙ number_onto-digit n (get_or digits i 0) (drop (i + 1) digits)
    ∙ ap (λ o. option_and_then (λ m. fitting (number_onto 10 m (drop (i + 1) digits))) o) e

lt-true : (m b : ℕ) → m < b → nat_lt m b ≡ true
lt-true m b h = grind (arith, common_steps, nat_tests)

fitting-small : (m : ℕ) → m < 2 ^ 64 → fitting (Some m) ≡ Some m
fitting-small m h = rw (lt-true m (2 ^ 64) h) refl

-- all digits are read
pub number_onto-end : (n : ℕ) (digits : List ℕ) (i : ℕ) → length digits ≤ i → n < 2 ^ 64
    → fitting (number_onto 10 n (drop i digits)) ≡ Some n
number_onto-end n digits i h small =
    ap (λ rest. fitting (number_onto 10 n rest)) (drop_all i digits h) ∙ fitting-small n small
