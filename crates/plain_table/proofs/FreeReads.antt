-- What is known of the least free index that was found: it is not used, and stands from 1 on below the limit; and the next
-- free one before an end is at most the end.
use Rattle.std.proofs.Common.{◌≡◌, ◌≢◌, ◌+◌, ◌-◌, ◌<◌, ◌≤◌, ℕ, zero, suc, Bool, false, Option, Some, None, unwrap_or, refl, sym, ◌∙◌, ap, arith, inl, inr}
use Rattle.std.specs.Prelude.{if◌then◌else◌, nat_lt}
use Rattle.std.proofs.lemmas.Bool.{cases_Bool}
use Rattle.std.proofs.lemmas.Option.{none-some, same_Some}
use Rattle.plain_table.specs.declared.events.Space.{Space}
use Rattle.plain_table.specs.declared.events.Space.TheVariants.{External}
use Rattle.plain_table.specs.Table.{Table, limit_of, least_from, least_free}
use Rattle.plain_table.specs.Rows.{only_below, free_below}
use Rattle.plain_table.specs.Words.{next_free}

pub least_from-some : (used : ℕ → Bool) (i n k : ℕ) → least_from used i n ≡ Some k → (used k ≡ false) × (i ≤ k) × (k < i + n)
least_from-some used i zero k e = absurd (none-some k e)
least_from-some used i (suc n) k e = elim (cases_Bool (used i)) [
  | inl t ↦
      let rest = least_from-some used (i + 1) n k (sym (ap (λ (test : Bool). if test then least_from used (i + 1) n else Some i) t) ∙ e) in
      (rest.0, omega (arith, rest.1), omega (arith, rest.2))
  | inr t ↦
      let same : i ≡ k = same_Some i k (sym (ap (λ (test : Bool). if test then least_from used (i + 1) n else Some i) t) ∙ e) in
      (ap used (sym same) ∙ t, omega (arith, same), omega (arith, same))
]

-- what a take finds
pub least_free-some : (s : Table) (p : Space) (i : ℕ) → least_free s p ≡ Some i → (s.used p i ≡ false) × (i ≢ 0) × (i < limit_of s p)
least_free-some s p i e =
    let found = least_from-some (s.used p) 1 (limit_of s p - 1) i e in
    (found.0, omega (arith, found.1), omega (arith, found.1, found.2))

pub only_below-some : (start : ℕ) (found : Option ℕ) (i : ℕ) → only_below start found ≡ Some i → found ≡ Some i
only_below-some start None i e = e
only_below-some start (Some k) i e = elim (cases_Bool (nat_lt k start)) [
  | inl t ↦ sym (ap (λ (test : Bool). if test then Some k else None) t) ∙ e
  | inr t ↦ absurd (none-some i (sym (ap (λ (test : Bool). if test then Some k else None) t) ∙ e))
]

pub free_below-some : (s : Table) (start i : ℕ) → free_below s start ≡ Some i → least_free s External ≡ Some i
free_below-some s start i e = only_below-some start (least_free s External) i e

-- the next free index is not past the end
pub next_free-le : (used : ℕ → Bool) (i end : ℕ) → next_free used i end ≤ end
next_free-le used i end = by_case (least_from used i (end - i)) refl
  where
    by_case : (found : Option ℕ) → least_from used i (end - i) ≡ found → unwrap_or found end ≤ end
    by_case None is = omega arith
    by_case (Some k) is = let known = least_from-some used i (end - i) k is in omega (arith, known.1, known.2)

-- nor before the first index that is looked at
pub next_free-ge : (used : ℕ → Bool) (i end : ℕ) → i ≤ end → i ≤ next_free used i end
next_free-ge used i end within = by_case (least_from used i (end - i)) refl
  where
    by_case : (found : Option ℕ) → least_from used i (end - i) ≡ found → i ≤ unwrap_or found end
    by_case None is = within
    by_case (Some k) is = (least_from-some used i (end - i) k is).1
