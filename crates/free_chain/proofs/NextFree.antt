-- The next free index: what it is, and what is known of it.
use Rattle.std.proofs.Common.{◌≡◌, ◌+◌, ◌-◌, ◌≤◌, ℕ, Bool, Option, Some, None, unwrap_or, refl, ap, ◌∙◌, inl, inr, arith}
use Rattle.std.proofs.lemmas.Bool.{cases_lt}
use Rattle.plain_table.specs.Table.{least_from}
use Rattle.plain_table.specs.Words.{next_free}
use Rattle.free_chain.specs.Chain.{IsNextFree}
use Rattle.plain_table.proofs.LeastFree.{least_from-free, least_from-end}
use Rattle.plain_table.proofs.FreeReads.{least_from-some}
use Rattle.plain_table.proofs.FreeLists.{least_from-all, least_from-before, least_from-past}

pub next_free-is : (used : ℕ → Bool) (start end i : ℕ) → IsNextFree used start end i → next_free used start end ≡ i
next_free-is used start end i is =
    let same : start + (i - start) ≡ i = omega (arith, is.above) in
    let passed : least_from used start (end - start) ≡ least_from used (start + (i - start)) (end - (start + (i - start))) =
    least_from-past used start (i - start) end (λ k from to. is.passed k from (omega (arith, to, is.above))) (omega (arith, is.above, is.within)) in
    let past : least_from used start (end - start) ≡ least_from used i (end - i) =
    passed ∙ ap (λ k. least_from used k (end - k)) same in
    ap (λ found. unwrap_or found end) past ∙ elim (cases_lt i end) [
      | inl less ↦ ap (λ found. unwrap_or found end) (least_from-free used i end less (is.free less))
      | inr more ↦ ap (λ found. unwrap_or found end) (least_from-end used i end more) ∙ omega (arith, more, is.within)
    ]

next_free-by : (used : ℕ → Bool) (start end : ℕ) (found : Option ℕ) → start ≤ end → least_from used start (end - start) ≡ found →
    IsNextFree used start end (unwrap_or found end)
next_free-by used start end None low is = record {
  above = low;
  within = omega arith;
  passed = λ k from to. least_from-all used start (end - start) is k from (omega (arith, to));
  free = λ less. absurd (omega (arith, less));
}
next_free-by used start end (Some k) low is =
    let found = least_from-some used start (end - start) k is in
    record {
      above = found.1;
      within = omega (arith, found.1, found.2);
      passed = least_from-before used start (end - start) k is;
      free = λ less. found.0;
    }

pub IsNextFree-next_free : (used : ℕ → Bool) (start end : ℕ) → start ≤ end → IsNextFree used start end (next_free used start end)
IsNextFree-next_free used start end low = next_free-by used start end (least_from used start (end - start)) low refl
