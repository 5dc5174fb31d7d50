-- The least free index where just the indexes below n are used: it is n, if n is below the limit.
use Rattle.std.proofs.Common.{◌≡◌, ◌+◌, ◌-◌, ◌<◌, ◌≤◌, ℕ, zero, suc, Bool, true, false, Some, None, refl, ◌∙◌, ap, arith, inl, inr, lt-ltb, le-ltb}
use Rattle.std.specs.Prelude.{if◌then◌else◌, nat_lt}
use Rattle.std.proofs.lemmas.Bool.{cases_lt}
use Rattle.plain_table.specs.Table.{least_from}

abbrev IsUsedBelow : (ℕ → Bool) → ℕ → Type 0
IsUsedBelow used n = (j : ℕ) → used j ≡ nat_lt j n

pub least_from-found : (used : ℕ → Bool) (n i k : ℕ) → IsUsedBelow used n → i ≤ n → n < i + k → least_from used i k ≡ Some n
least_from-found used n i zero below low high = absurd (omega arith)
least_from-found used n i (suc k) below low high =
    elim (cases_lt i n) [
      | inl less ↦ ap (λ (test : Bool). if test then least_from used (i + 1) k else Some i) (below i ∙ lt-ltb i n less)
          ∙ least_from-found used n (i + 1) k below (omega arith) (omega arith)
      | inr more ↦ ap (λ (test : Bool). if test then least_from used (i + 1) k else Some i) (below i ∙ le-ltb i n more)
          ∙ ap Some (omega arith)
    ]

pub least_from-none : (used : ℕ → Bool) (n i k : ℕ) → IsUsedBelow used n → i + k ≤ n → least_from used i k ≡ None
least_from-none used n i zero below high = refl
least_from-none used n i (suc k) below high =
    let less : i < n = omega arith in
    ap (λ (test : Bool). if test then least_from used (i + 1) k else Some i) (below i ∙ lt-ltb i n less)
    ∙ least_from-none used n (i + 1) k below (omega arith)

-- one index further, among those below n
pub least_from-used : (used : ℕ → Bool) (i n : ℕ) → i < n → used i ≡ true → least_from used i (n - i) ≡ least_from used (i + 1) (n - (i + 1))
least_from-used used i n below is =
    let more : n - i ≡ suc (n - (i + 1)) = omega arith in
    ap (least_from used i) more ∙ ap (λ (test : Bool). if test then least_from used (i + 1) (n - (i + 1)) else Some i) is

pub least_from-free : (used : ℕ → Bool) (i n : ℕ) → i < n → used i ≡ false → least_from used i (n - i) ≡ Some i
least_from-free used i n below is =
    let more : n - i ≡ suc (n - (i + 1)) = omega arith in
    ap (least_from used i) more ∙ ap (λ (test : Bool). if test then least_from used (i + 1) (n - (i + 1)) else Some i) is

pub least_from-end : (used : ℕ → Bool) (i n : ℕ) → n ≤ i → least_from used i (n - i) ≡ None
least_from-end used i n past =
    let none : n - i ≡ 0 = omega arith in ap (least_from used i) none
