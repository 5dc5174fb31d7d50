-- Masks of lists of words.
use Rattle.std.proofs.Common.{◌≡◌, ℕ, zero, suc, ◌+◌, ◌*◌, ◌/◌, ◌%◌, ◌^◌, ◌<◌, ◌≤◌, ◌==◌, Bool, true, false, not, List, [], ◌∷◌, ◌++◌, map, take, drop, length, get_or, cond, eqb, eq-eqb, ne_eqb, refl, sym, ap, ◌∙◌, subst, arith, bit_and, bit_or, drop-drop}
use lib.Lanes.{mask_l, chunk}
use Rattle.std.specs.Int.{bit_at}
use Rattle.std.proofs.lemmas.Nat.Bits.{and_pow, shr_and_one}
use Rattle.std.proofs.lemmas.Nat.{or_shifted, or_comm, pow-add, pow_pos}
use Rattle.std.proofs.lemmas.List.{get_or-map, map-append, length-map, length-take-le}
use Rattle.std.proofs.lemmas.Simd.{mask_l-lt, length-chunk, bit_mask_l}
use Rattle.std.proofs.Math.Nat.{pow-succ', mod-eq_of_lt, mul-lt-mul_of_pos_right}
use Rattle.std.proofs.Math.Pow.{pow_mono}
use Rattle.std.proofs.Math.Seq.{take-add, take-length}
use Rattle.std.specs.Simd.{first_chunks}
use Rattle.sweeper.specs.Bits.{bit}

-- the test of one bit
pub tested : (k x : ℕ) → not (eqb (bit_and x (2 ^ k)) 0) ≡ bit x k
tested k x = ap (λ n. not (eqb n 0)) (and_pow x k) ∙ one (x / 2 ^ k % 2) (omega arith)
  where
    one : (b : ℕ) → b < 2 → not (eqb (b * 2 ^ k) 0) ≡ (b == 1)
    one zero l = ap not (eq-eqb (0 * 2 ^ k) 0 (omega arith))
    one (suc zero) l = let some = pow_pos k in ap not (ne_eqb (1 * 2 ^ k) 0 (λ e. omega (arith, some, e)))
    one (suc (suc n)) l = absurd (omega arith)

pub doubled : (a p q : ℕ) → q ≡ 2 * p → a * q ≡ 2 * (a * p)
doubled a p q e = grind (arith, e)

pub mask-append : (xs ys : List Bool) → mask_l (xs ++ ys) ≡ mask_l xs + mask_l ys * 2 ^ length xs
mask-append [] ys = omega arith
mask-append (b ∷ xs) ys =
    let r = mask-append xs ys in
    let q = doubled (mask_l ys) (2 ^ length xs) (2 ^ suc (length xs)) (pow-succ' 2 (length xs)) in
    omega arith

pub nth_chunk : (n k i a : ℕ) (xs : List ℕ) → i < k → a ≡ i * n → get_or (first_chunks n k xs) i [] ≡ chunk a n xs
nth_chunk n zero i a xs l e = absurd (omega arith)
nth_chunk n (suc k) zero a xs l e = let z : 0 ≡ a = omega arith in ap (λ m. chunk m n xs) z
nth_chunk n (suc k) (suc i) a xs l e =
    let m : n + i * n ≡ a = grind (arith, e) in
    nth_chunk n k i (i * n) (drop n xs) (omega arith) refl ∙ (ap (take n) (drop-drop (i * n) n xs) ∙ ap (λ m. chunk m n xs) m)

pub joined : (m c k n : ℕ) → m < 2 ^ k → c < 2 ^ n → k + n ≤ 64 → bit_or m (c * 2 ^ k % 2 ^ 64) ≡ m + c * 2 ^ k
joined m c k n l lc le =
    let small : c * 2 ^ k < 2 ^ 64 =
    let f = mul-lt-mul_of_pos_right {k = 2 ^ k} lc (omega arith) in
    let g = pow_mono {i = n + k} {j = 64} (omega arith) in
    let h = pow-add 2 n k in omega arith in
    ap (bit_or m) (mod-eq_of_lt small) ∙ (or_comm m (c * 2 ^ k) ∙ (or_shifted c k m l ∙ omega arith))

-- the words from a on, n of them, put after the a that are there
pub put_after : (p : ℕ → Bool) (ws : List ℕ) (m c a n : ℕ) → m ≡ mask_l (map p (take a ws)) → c ≡ mask_l (map p (chunk a n ws)) → a + n ≤ length ws → length ws ≤ 64 → bit_or m (c * 2 ^ a % 2 ^ 64) ≡ mask_l (map p (take (a + n) ws))
put_after p ws m c a n em ec le most =
    let xs = map p (take a ws) in
    let ys = map p (chunk a n ws) in
    let lx : length xs ≡ a = length-map (take a ws) p ∙ length-take-le a ws (omega arith) in
    let ly : length ys ≡ n = length-map (chunk a n ws) p ∙ length-chunk a n ws le in
    let mx = subst (λ (k : ℕ). mask_l xs < 2 ^ k) lx (mask_l-lt xs) in
    let my = subst (λ (k : ℕ). mask_l ys < 2 ^ k) ly (mask_l-lt ys) in
    let ma = subst (λ (k : ℕ). mask_l (xs ++ ys) ≡ mask_l xs + mask_l ys * 2 ^ k) lx (mask-append xs ys) in
    ap (λ (q : ℕ). bit_or q (c * 2 ^ a % 2 ^ 64)) em
    ∙ (ap (λ (q : ℕ). bit_or (mask_l xs) (q * 2 ^ a % 2 ^ 64)) ec
    ∙ (joined (mask_l xs) (mask_l ys) a n mx my (omega arith)
    ∙ (sym ma ∙ ap mask_l (sym (map-append p (take a ws) (chunk a n ws)) ∙ ap (map p) (sym (take-add a n ws))))))

-- one word after the a that are there
pub one_after : (k : ℕ) (ws : List ℕ) (m a : ℕ) → m ≡ mask_l (map (λ x. bit x k) (take a ws)) → a < length ws → length ws ≤ 64 → (w : ℕ) → w ≡ get_or ws a 0 → bit_or m (bit_and (w / 2 ^ k) 1 * 2 ^ a % 2 ^ 64) ≡ mask_l (map (λ x. bit x k) (take (a + 1) ws))
one_after k ws m a em le most w ew = put_after (λ x. bit x k) ws m (bit_and (w / 2 ^ k) 1) a 1 em (shr_and_one w k ∙ (one (bit_at w k) (omega arith) ∙ (ap (λ (x : ℕ). mask_l (bit x k ∷ [])) ew ∙ ap (λ (xs : List ℕ). mask_l (map (λ x. bit x k) xs)) (sym (single ws a le))))) (omega arith) most
  where
    one : (b : ℕ) → b < 2 → b ≡ mask_l ((b == 1) ∷ [])
    one zero l = refl
    one (suc zero) l = refl
    one (suc (suc n)) l = absurd (omega arith)

    single : (xs : List ℕ) (i : ℕ) → i < length xs → chunk i 1 xs ≡ get_or xs i 0 ∷ []
    single [] i l = absurd (omega arith)
    single (x ∷ xs) zero l = refl
    single (x ∷ xs) (suc i) l = single xs i (omega arith)

pub mask_below : (p : ℕ → Bool) (ws : List ℕ) (m a : ℕ) → m ≡ mask_l (map p (take a ws)) → a ≡ length ws → m < 2 ^ length ws
mask_below p ws m a em ea =
    let whole : m ≡ mask_l (map p ws) = em ∙ ap (λ (xs : List ℕ). mask_l (map p xs)) (ap (λ k. take k ws) ea ∙ take-length ws) in
    subst (λ x. x < 2 ^ length ws) (sym whole) (subst (λ (k : ℕ). mask_l (map p ws) < 2 ^ k) (length-map ws p) (mask_l-lt (map p ws)))

pub mask_test : (p : ℕ → Bool) (ws : List ℕ) (m a i : ℕ) → m ≡ mask_l (map p (take a ws)) → a ≡ length ws → i < length ws → bit m i ≡ p (get_or ws i 0)
mask_test p ws m a i em ea l =
    let whole : m ≡ mask_l (map p ws) = em ∙ ap (λ (xs : List ℕ). mask_l (map p xs)) (ap (λ k. take k ws) ea ∙ take-length ws) in
    ap (λ (x : ℕ). bit x i) whole ∙ (ap (λ (x : ℕ). x == 1) (bit_mask_l (map p ws) i) ∙ (whether (get_or (map p ws) i false) ∙ get_or-map p ws i 0 false l))
  where
    whether : (b : Bool) → (cond b 1 0 == 1) ≡ b
    whether true = refl
    whether false = refl
