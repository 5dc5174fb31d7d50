-- Each word of the canonical text says what was printed.
use Rattle.std.proofs.Common.{◌≡◌, ◌≢◌, inl, inr, ℕ, zero, suc, ◌+◌, ◌-◌, ◌*◌, ◌/◌, ◌%◌, ◌^◌, ◌==◌, ◌<◌, ◌≤◌, nat_lt, nat_le, true, false, cond, List, [], ◌∷◌, ◌++◌, codes, length, get_or, Some, None, refl, ◌∙◌, ap, arith, count_ones, lit<, length-append, eq-eqb, ne_eqb}
use Rattle.std.proofs.lemmas.Bool.{cases_eq}
use Rattle.std.specs.Option.{option_and_then, option_map}
use Rattle.std.specs.Fmt.{decimal, digit_glyph}
use Rattle.std.proofs.lemmas.Grind.{common_steps, pow_more}
use Rattle.std.proofs.lemmas.Bool.Decides.{nat_tests}
use Rattle.std.proofs.lemmas.Fmt.{decimal_digit, decimal_by_steps, length-decimal-le, first_decimal}
use Rattle.tag_set.specs.Range.{IsRange}
use Rattle.script_reader.specs.Spelling.{digit_of, number_onto, variable_of, small_of, hex_of, is_tag, tag_of, range_of, range_of_one}
use Rattle.script_reader.specs.Valid.{IsTagOf, IsRangeOf}
use Rattle.script_reader.specs.Canonical.{hex, letter, range_word, tag_word}
use Rattle.script_reader.proofs.Ink.{is_ink, ink-append, ink-byte}

-- a variable's letter
pub ink-letter : (v : ℕ) → is_ink (letter v) ≡ true
ink-letter v = ink-byte (97 + v) (omega arith)

pub read-letter : (v : ℕ) → v < 16 → variable_of (letter v) ≡ Some v
read-letter v h =
    let low : nat_le 97 (97 + v) ≡ true = grind (arith, common_steps, nat_tests) in
    let high : nat_lt (97 + v) 113 ≡ true = grind (arith, common_steps, nat_tests) in
    let e : 97 + v - 97 ≡ v = omega arith in
    rw (low, high, e) refl

-- one digit more
digit-read : (d : ℕ) → d < 16 → digit_of (digit_glyph false d) ≡ Some d
digit-read d h = grind (arith, common_steps, nat_tests)

digit-decimal : (d : ℕ) → d < 10 → digit_of (48 + d) ≡ Some d
digit-decimal d h = grind (arith, common_steps, nat_tests)

number-one : (base n d byte : ℕ) → digit_of byte ≡ Some d → d < base
    → number_onto base n (byte ∷ []) ≡ Some (base * n + d)
number-one base n d byte h l =
    let t : nat_lt d base ≡ true = grind (arith, common_steps, nat_tests) in
    rw (h, t) refl

number-append : (base n m : ℕ) (ds : List ℕ) (byte : ℕ) → number_onto base n ds ≡ Some m
    → number_onto base n (ds ++ byte ∷ []) ≡ number_onto base m (byte ∷ [])
number-append base n m [] byte h = let e : n ≡ m = cc in rw e refl
number-append base n m (x ∷ xs) byte h =
    (elim (digit_of x)
    as (λ o. option_and_then (λ digit. cond (nat_lt digit base) (number_onto base (base * n + digit) xs) None) o ≡ Some m
    → option_and_then (λ digit. cond (nat_lt digit base) (number_onto base (base * n + digit) (xs ++ byte ∷ [])) None) o
    ≡ number_onto base m (byte ∷ [])) [
      | None ↦ λ g. absurd cc
      | Some d ↦ (elim (nat_lt d base)
          as (λ b. cond b (number_onto base (base * n + d) xs) None ≡ Some m
          → cond b (number_onto base (base * n + d) (xs ++ byte ∷ [])) None ≡ number_onto base m (byte ∷ []))
          [ true ↦ λ g. number-append base (base * n + d) m xs byte g | false ↦ λ g. absurd cc ])
    ]) h

-- hexadecimal digits
pub hex-length : (k n : ℕ) → length (hex k n) ≡ k
unfolding hex
hex-length zero n = refl
hex-length (suc k) n =
    omega (arith, hex-length k (n / 16), length-append (hex k (n / 16)) (digit_glyph false (n % 16) ∷ []))

glyph-ink : (d : ℕ) → 32 < digit_glyph false d
glyph-ink d = grind (arith, common_steps, nat_tests)

pub ink-hex : (k n : ℕ) → is_ink (hex k n) ≡ true
unfolding hex
ink-hex zero n = refl
ink-hex (suc k) n =
    ink-append (hex k (n / 16)) (digit_glyph false (n % 16) ∷ []) (ink-hex k (n / 16))
    (ink-byte (digit_glyph false (n % 16)) (glyph-ink (n % 16)))

hex-number : (k n : ℕ) → n < 16 ^ k → number_onto 16 0 (hex k n) ≡ Some n
unfolding hex
hex-number zero n h = let e : 0 ≡ n = omega arith in rw e refl
hex-number (suc k) n h =
    let p : n < 16 * 16 ^ k = omega (arith, pow_more 16 k) in
    let e = number-append 16 0 (n / 16) (hex k (n / 16)) (digit_glyph false (n % 16)) (hex-number k (n / 16) (omega arith)) in
    let o = number-one 16 (n / 16) (n % 16) (digit_glyph false (n % 16)) (digit-read (n % 16) (omega arith)) (omega arith) in
    let s : 16 * (n / 16) + n % 16 ≡ n = omega arith in
    e ∙ o ∙ ap Some s

pub read-hex : (k n : ℕ) → n < 16 ^ k → hex_of k (hex k n) ≡ Some n
read-hex k n h =
    let t : (length (hex k n) == k) ≡ true = eq-eqb (length (hex k n)) k (hex-length k n) in
    rw t (hex-number k n h)

-- a tag
is-tag : (a t : ℕ) → IsTagOf a t → is_tag a t ≡ true
is-tag a t h =
    let some : nat_le 1 t ≡ true = grind (arith, common_steps, nat_tests) in
    let old : a ≢ 2 → (count_ones t == 4) ≡ true =
    λ other. elim h.1 [ inl two ↦ absurd (other two) | inr four ↦ eq-eqb (count_ones t) 4 four.1 ] in
    elim (cases_eq a 2) [
      | inl two ↦ let v : (a == 2) ≡ true = eq-eqb a 2 two in rw (v, some) refl
      | inr other ↦ let v : (a == 2) ≡ false = ne_eqb a 2 other in rw (v, old other) refl
    ]

pub read-tag : (a t : ℕ) → IsTagOf a t → tag_of a (hex 2 t) ≡ Some t
read-tag a t h =
    let e : hex_of 2 (hex 2 t) ≡ Some t = read-hex 2 t (omega (arith, h.0)) in
    rw (e, is-tag a t h) refl

-- the two digits of a byte
hex-two : (t : ℕ) → hex 2 t ≡ digit_glyph false (t / 16 % 16) ∷ digit_glyph false (t % 16) ∷ []
unfolding hex
hex-two t = refl

-- a range of one tag, and one of two
range-one : (a : ℕ) (d e : ℕ) → range_of a (d ∷ e ∷ []) ≡ option_map range_of_one (tag_of a (d ∷ e ∷ []))
range-one a d e = refl

read-range_of_one : (a t : ℕ) → IsTagOf a t → range_of a (hex 2 t) ≡ Some (range_of_one t)
read-range_of_one a t h =
    let e : tag_of a (digit_glyph false (t / 16 % 16) ∷ digit_glyph false (t % 16) ∷ []) ≡ Some t =
    rw (hex-two t) at (read-tag a t h) in
    ap (range_of a) (hex-two t) ∙ ap (option_map range_of_one) e

range-two : (first last : List ℕ) (f l : ℕ) (a b c d : ℕ) → first ≡ a ∷ b ∷ [] → last ≡ c ∷ d ∷ []
    → tag_of 2 first ≡ Some f → tag_of 2 last ≡ Some l → f < l
    → range_of 2 (first ++ 45 ∷ last) ≡ Some (record { first = f; last = l })
range-two first last f l a b c d p q r s h =
    let t : nat_lt f l ≡ true = grind (arith, common_steps, nat_tests) in
    let r' : tag_of 2 (a ∷ b ∷ []) ≡ Some f = rw p at r in
    let s' : tag_of 2 (c ∷ d ∷ []) ≡ Some l = rw q at s in
    rw (p, q, r', s', t) refl

read-same : (a first last : ℕ) → IsTagOf a first → first ≡ last
    → range_of a (range_word first last) ≡ Some (record { first = first; last = last })
read-same a first last h same =
    let t : (first == last) ≡ true = eq-eqb first last same in
    let e : range_of a (range_word first last) ≡ range_of a (hex 2 first) = rw t refl in
    e ∙ read-range_of_one a first h ∙ ap (λ (l : ℕ). Some (record { first = first; last = l })) same

read-apart : (first last : ℕ) → IsRange first last → first ≢ last
    → range_of 2 (range_word first last) ≡ Some (record { first = first; last = last })
unfolding hex
read-apart first last h apart =
    let t : (first == last) ≡ false = ne_eqb first last apart in
    let e : range_of 2 (range_word first last) ≡ range_of 2 (hex 2 first ++ 45 ∷ hex 2 last) = rw t refl in
    e ∙ range-two (hex 2 first) (hex 2 last) first last _ _ _ _ (hex-two first) (hex-two last)
    (read-tag 2 first (h.0, inl refl)) (read-tag 2 last (h.1, inl refl)) (omega (arith, h.2, apart))

pub read-range : (a first last : ℕ) → IsRangeOf a first last
    → range_of a (range_word first last) ≡ Some (record { first = first; last = last })
read-range a first last h =
    elim h.1 [
      | inl two ↦ elim (cases_eq first last) [
        | inl same ↦ read-same a first last (h.0.0, inl two) same
        | inr apart ↦ rw two (read-apart first last h.0 apart)
      ]
      | inr old ↦ read-same a first last (h.0.0, inr old.0) old.1
    ]

pub ink-range : (first last : ℕ) → is_ink (range_word first last) ≡ true
unfolding hex
ink-range first last =
    elim (first == last) as (λ b. is_ink (cond b (tag_word first) (tag_word first ++ codes "-" ++ tag_word last)) ≡ true) [
      | true ↦ ink-hex 2 first
      | false ↦ ink-append (hex 2 first) (45 ∷ hex 2 last) (ink-hex 2 first)
          (ink-append (45 ∷ []) (hex 2 last) (ink-byte 45 (omega arith)) (ink-hex 2 last))
    ]

-- decimal digits
decimal-number : (n : ℕ) → n < 2 ^ 64 → number_onto 10 0 (decimal n) ≡ Some n
decimal-number n h =
    decimal_by_steps (λ n ds. number_onto 10 0 ds ≡ Some n)
    (λ n l. number-one 10 0 n (48 + n) (digit-decimal n l) l ∙ ap Some (omega arith))
    (λ n ds l e. number-append 10 0 (n / 10) ds (48 + n % 10) e
    ∙ number-one 10 (n / 10) (n % 10) (48 + n % 10) (digit-decimal (n % 10) (omega arith)) (omega arith)
    ∙ ap Some (omega arith)) n h

pub ink-decimal : (n : ℕ) → n < 2 ^ 64 → is_ink (decimal n) ≡ true
ink-decimal n h =
    decimal_by_steps (λ n ds. is_ink ds ≡ true)
    (λ n l. ink-byte (48 + n) (omega arith))
    (λ n ds l e. ink-append ds ((48 + n % 10) ∷ []) e (ink-byte (48 + n % 10) (omega arith))) n h

small-from : (ds : List ℕ) (n : ℕ) → 48 < get_or ds 0 0 → length ds ≤ 9 → number_onto 10 0 ds ≡ Some n
    → small_of ds ≡ Some n
small-from [] n first l h = absurd (omega arith)
small-from (d ∷ ds) n first l h =
    let t : (d == 48) ≡ false = grind (arith, common_steps, nat_tests) in
    let s : nat_le (length ds) 8 ≡ true = grind (arith, common_steps, nat_tests) in
    rw (t, s) h

pub read-decimal : (n : ℕ) → n < 10 ^ 9 → small_of (decimal n) ≡ Some n
read-decimal zero h = rw (decimal_digit 0 (lit< tt)) refl
read-decimal (suc n) h =
    small-from (decimal (suc n)) (suc n) (first_decimal (suc n) (omega arith) (omega arith))
    (length-decimal-le 9 (suc n) (lit< tt) h (omega arith)) (decimal-number (suc n) (omega arith))
