-- Colours: headers after a change of one of them, and which objects are grey then.
use Rattle.std.proofs.Common.{◌≡◌, ◌≢◌, ℕ, ◌<◌, ◌==◌, nat_lt, if◌then◌else◌, Bool, true, false, List, length, slice_index, slice_set, get_or-set_same, get_or-set_other, bit_or, refl, ap, arith}
use Rattle.std.proofs.lemmas.Bool.Decides.{nat_tests}
use Rattle.plain_table.specs.Table.{Sizes}
use Rattle.plain_table.specs.Words.{header_place, header_word}
use Rattle.entry_base.specs.Hands.{grey}

-- one header is changed
module _ (shown : List ℕ) (m n : ℕ) (within : header_place m < length shown) where
  pub header_here : slice_index (slice_set shown (header_place m) n) (header_place m) ≡ n
  header_here = get_or-set_same shown (header_place m) n 0 within

  pub header_there : (o : ℕ) → o ≢ m → slice_index (slice_set shown (header_place m) n) (header_place o) ≡ slice_index shown (header_place o)
  header_there o ne = get_or-set_other shown (header_place m) (header_place o) n 0 (λ same. ne (omega (arith, same)))

-- bits of headers
pub shaded_word : (shaded scanned : Bool) → bit_or (header_word shaded scanned) 1 ≡ header_word true scanned
shaded_word true true = refl
shaded_word true false = refl
shaded_word false true = refl
shaded_word false false = refl

pub scanned_word : (shaded scanned : Bool) → bit_or (header_word shaded scanned) 2 ≡ header_word shaded true
scanned_word true true = refl
scanned_word true false = refl
scanned_word false true = refl
scanned_word false false = refl

-- hands after a change of one header, and of none
pub grey_there : (z : Sizes) (shown : List ℕ) (m n o : ℕ) → header_place m < length shown → o ≢ m → grey z (slice_set shown (header_place m) n) o ≡ grey z shown o
grey_there z shown m n o within ne = ap (λ x. if nat_lt o z.objects then (if x == 1 then 1 else 0) else 0) (header_there shown m n within o ne)

pub grey_here : (z : Sizes) (shown : List ℕ) (o : ℕ) → o < z.objects → grey z shown o ≡ (if slice_index shown (header_place o) == 1 then 1 else 0)
grey_here z shown o low = let t : nat_lt o z.objects ≡ true = grind (arith, nat_tests) in ap (λ b. if b then (if slice_index shown (header_place o) == 1 then 1 else 0) else 0) t

abbrev one_at : Bool → ℕ → ℕ
one_at b x = if b then (if x == 1 then 1 else 0) else 0

-- where its header stays
pub grey_by : (z : Sizes) (shown later : List ℕ) (o : ℕ) → (o < z.objects → slice_index later (header_place o) ≡ slice_index shown (header_place o)) → grey z later o ≡ grey z shown o
grey_by z shown later o same = go (nat_lt o z.objects) refl
  where
    go : (b : Bool) → nat_lt o z.objects ≡ b → one_at b (slice_index later (header_place o)) ≡ one_at b (slice_index shown (header_place o))
    go true e = ap (one_at true) (same (grind (arith, nat_tests)))
    go false e = refl

-- any change at a place that is no header
pub grey_low : (z : Sizes) (shown : List ℕ) (place n : ℕ) → ((o : ℕ) → o < z.objects → header_place o ≢ place) → (o : ℕ) → grey z (slice_set shown place n) o ≡ grey z shown o
grey_low z shown place n no_header o = go (nat_lt o z.objects) refl
  where
    go : (b : Bool) → nat_lt o z.objects ≡ b → one_at b (slice_index (slice_set shown place n) (header_place o)) ≡ one_at b (slice_index shown (header_place o))
    go true e = ap (one_at true) (get_or-set_other shown place (header_place o) n 0 (no_header o (grind (arith, nat_tests))))
    go false e = refl
