-- Masks of cells: two masks joined, and one word more.
use Rattle.std.proofs.Common.{◌≡◌, ℕ, zero, suc, ◌+◌, ◌*◌, ◌%◌, ◌^◌, ◌<◌, ◌≤◌, Bool, true, false, List, [], ◌∷◌, map, take, length, get_or, cond, refl, sym, ap, ap₂, ◌∙◌, arith, bit_and, bit_or}
use Rattle.std.specs.Prelude.{◌&&◌}
use lib.Lanes.{mask_l, chunk}
use Rattle.std.proofs.lemmas.Nat.{and_block}
use Rattle.sweeper.proofs.Masks.{put_after}

shape : (b : Bool) (n : ℕ) → cond b 1 0 + 2 * n ≡ n * 2 ^ 1 + cond b 1 0
shape true n = omega arith
shape false n = omega arith

one_below : (b : Bool) → cond b 1 0 < 2 ^ 1
one_below true = omega arith
one_below false = omega arith

joined_bits : (a b : Bool) (n m : ℕ) → n ≡ m → n * 2 ^ 1 + bit_and (cond a 1 0) (cond b 1 0) ≡ cond (a && b) 1 0 + 2 * m
joined_bits true true n m e = omega (arith, e)
joined_bits true false n m e = omega (arith, e)
joined_bits false true n m e = omega (arith, e)
joined_bits false false n m e = omega (arith, e)

pub and-mask : (t u : ℕ → Bool) (v : List ℕ) → bit_and (mask_l (map t v)) (mask_l (map u v)) ≡ mask_l (map (λ w. t w && u w) v)
and-mask t u [] = refl
and-mask t u (x ∷ v) =
    ap₂ bit_and (shape (t x) (mask_l (map t v))) (shape (u x) (mask_l (map u v)))
    ∙ and_block 1 (mask_l (map t v)) (mask_l (map u v)) (cond (t x) 1 0) (cond (u x) 1 0) (one_below (t x)) (one_below (u x))
    ∙ joined_bits (t x) (u x) (bit_and (mask_l (map t v)) (mask_l (map u v))) (mask_l (map (λ w. t w && u w) v)) (and-mask t u v)

single : (xs : List ℕ) (i : ℕ) → i < length xs → chunk i 1 xs ≡ get_or xs i 0 ∷ []
single [] i l = absurd (omega arith)
single (x ∷ xs) zero l = refl
single (x ∷ xs) (suc i) l = single xs i (omega arith)

one : (b : Bool) → cond b 1 0 ≡ mask_l (b ∷ [])
one true = refl
one false = refl

pub test_after : (p : ℕ → Bool) (ws : List ℕ) (m a : ℕ) → m ≡ mask_l (map p (take a ws)) → a < length ws → length ws ≤ 64 → (w c : ℕ) → w ≡ get_or ws a 0 → c ≡ cond (p w) 1 0 →
    bit_or m (c * 2 ^ a % 2 ^ 64) ≡ mask_l (map p (take (a + 1) ws))
test_after p ws m a em le most w c ew ec =
    put_after p ws m c a 1 em
    (ec ∙ (one (p w) ∙ (ap (λ (x : ℕ). mask_l (p x ∷ [])) ew ∙ ap (λ (xs : List ℕ). mask_l (map p xs)) (sym (single ws a le))))) (omega arith) most
