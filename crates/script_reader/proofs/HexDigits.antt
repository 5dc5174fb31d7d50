-- Hexadecimal digits that are written from the last one on.
use Rattle.std.proofs.Common.{◌≡◌, ℕ, suc, zero, false, ◌+◌, ◌-◌, ◌/◌, ◌%◌, ◌<◌, ◌≤◌, ◌==◌, ◌&&◌, Bool, true, inl, inr, codes, slice_index, List, [], ◌∷◌, ◌++◌, length, drop, take, slice_set, refl, sym, ◌∙◌, ap, arith}
use Rattle.std.specs.Fmt.{digit_glyph}
use Rattle.std.specs.Str.{IsAscii, IsUtf8}
use Rattle.std.proofs.lemmas.Grind.{common_steps}
use Rattle.std.proofs.lemmas.Bool.{and_parts, cases_lt, eqb-true}
use Rattle.std.proofs.lemmas.Bool.Decides.{nat_tests}
use Rattle.std.proofs.lemmas.List.{append_assoc, drop-set, take_all}
use Rattle.std.proofs.lemmas.Str.{IsAscii-append, IsUtf8-from_ascii}
use Rattle.std.proofs.lemmas.Str.Ascii.{IsAscii-nil, IsAscii-cons}
use Rattle.script_reader.specs.Canonical.{hex}
use Rattle.script_reader.proofs.ReadBack.{hex-length}

-- one digit more is written before those that stand there
pub write_digit : (start at rest : ℕ) (word whole : List ℕ) → start < at → at ≤ length word
    → hex (at - start) rest ++ drop at word ≡ whole
    → hex (at - 1 - start) (rest / 16) ++ drop (at - 1) (slice_set word (at - 1) (digit_glyph false (rest % 16))) ≡ whole
unfolding hex
write_digit start at rest word whole h l e =
    let k : at - start ≡ suc (at - 1 - start) = omega arith in
    let i : at - 1 + 1 ≡ at = omega arith in
    let b : at - 1 < length word = omega arith in
    let d : drop (at - 1) (slice_set word (at - 1) (digit_glyph false (rest % 16)))
    ≡ digit_glyph false (rest % 16) ∷ drop at word
    = drop-set word (at - 1) (digit_glyph false (rest % 16)) b
    ∙ ap (λ n. digit_glyph false (rest % 16) ∷ drop n word) i in
    let s : hex (at - start) rest ++ drop at word ≡ hex (suc (at - 1 - start)) rest ++ drop at word
    = ap (λ n. hex n rest ++ drop at word) k in
    rw d
    (sym (append_assoc (hex (at - 1 - start) (rest / 16)) (digit_glyph false (rest % 16) ∷ []) (drop at word))
    ∙ sym s ∙ e)

-- the test that a digit's character stands at its place in the row of all sixteen, and the test of the first n of them
abbrev is_at_place : ℕ → Bool
is_at_place d = slice_index (codes "0123456789abcdef") d == digit_glyph false d

abbrev are_at_place : ℕ → Bool
are_at_place zero = true
are_at_place (suc n) = is_at_place n && are_at_place n

place_below : (n d : ℕ) → are_at_place n ≡ true → d < n → is_at_place d ≡ true
place_below zero d h l = absurd (omega arith)
place_below (suc n) d h l =
    let parts = and_parts (is_at_place n) (are_at_place n) h in
    elim (cases_lt d n) [
      | inl below ↦ place_below n d parts.1 below
      | inr top ↦
          let e : d ≡ n = omega arith in
          rw e parts.0
    ]

pub glyph_at : (d : ℕ) → d < 16 → slice_index (codes "0123456789abcdef") d ≡ digit_glyph false d
glyph_at d h = eqb-true (slice_index (codes "0123456789abcdef") d) (digit_glyph false d) (place_below 16 d refl h)

pub glyph_ascii : (d : ℕ) → d < 16 → digit_glyph false d < 128
glyph_ascii d h = grind (arith, common_steps, nat_tests)

hex_ascii : (k n : ℕ) → IsAscii (hex k n)
unfolding hex
hex_ascii zero n = IsAscii-nil
hex_ascii (suc k) n =
    IsAscii-append (hex k (n / 16)) (digit_glyph false (n % 16) ∷ []) (hex_ascii k (n / 16))
    (IsAscii-cons (digit_glyph false (n % 16)) [] (glyph_ascii (n % 16) (omega arith)) IsAscii-nil)

-- digits are text
pub hex_utf8 : (k n : ℕ) → IsUtf8 (hex k n)
hex_utf8 k n = IsUtf8-from_ascii (hex k n) (hex_ascii k n)

-- no digit is left to write
pub word_written : (digits at rest number : ℕ) (word : List ℕ) → digits ≤ 16 → 16 - digits ≤ at → at ≤ 16 - digits
    → hex (at - (16 - digits)) rest ++ drop at word ≡ hex digits number
    → take (16 - (16 - digits)) (drop (16 - digits) word) ≡ hex digits number
unfolding hex
word_written digits at rest number word b l h e =
    let z : at - (16 - digits) ≡ 0 = omega arith in
    let s : at ≡ 16 - digits = omega arith in
    let p : hex (at - (16 - digits)) rest ++ drop at word ≡ drop (16 - digits) word
    = ap (λ n. hex n rest ++ drop at word) z ∙ ap (λ n. drop n word) s in
    let w : drop (16 - digits) word ≡ hex digits number = sym p ∙ e in
    rw w (take_all (16 - (16 - digits)) (hex digits number) (omega (arith, hex-length digits number)))
