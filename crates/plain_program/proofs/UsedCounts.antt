-- How many indexes are used: at least the greatest one, and at most as many as the segments up to its own have.
use Rattle.std.proofs.Common.{◌≡◌, ◌+◌, ◌*◌, ◌/◌, ◌<◌, ◌≤◌, ℕ, zero, suc, Bool, false, Some, inl, inr, arith}
use Rattle.std.proofs.Math.Nat.{div-lt_iff_lt-mul}
use Rattle.std.proofs.lemmas.Bool.{cases_lt}
use Rattle.std.proofs.lemmas.Bool.Decides.{nat_tests}
use Rattle.plain_table.specs.Area.{count_below, greatest_below}
use Rattle.plain_table.proofs.AreaStarts.{IsGreatestBelow, count_below-le, greatest_below-is}
use Rattle.plain_table.proofs.FreeLists.{count_below-some}

-- a set with no number from m on has at most m of them
count_below-upto : (set : ℕ → Bool) (n m : ℕ) → ((k : ℕ) → m ≤ k → k < n → set k ≡ false) → count_below set n ≤ m
count_below-upto set zero m none = omega arith
count_below-upto set (suc n) m none = elim (cases_lt n m) [
  | inl less ↦ omega (arith, less, count_below-le set (suc n))
  | inr more ↦
      let rest : count_below set n ≤ m = count_below-upto set n m (λ k from to. none k from (omega (arith, to))) in
      let last : set n ≡ false = none n more (omega arith) in
      grind (arith, nat_tests, rest, last)
]

pub count_below-segments : (set : ℕ → Bool) (limit greatest seg : ℕ) → 1 ≤ seg → greatest_below set limit ≡ Some greatest →
    (1 ≤ count_below set limit) × (count_below set limit ≤ (1 + greatest / seg) * seg)
count_below-segments set limit greatest seg some is =
    let it : IsGreatestBelow set limit greatest = greatest_below-is set limit greatest is in
    let least : count_below set limit ≡ 0 → ⊥ = count_below-some set limit greatest it.below it.member in
    let upto : count_below set limit ≤ greatest + 1 = count_below-upto set limit (greatest + 1) (λ k from to. it.greatest k (omega (arith, from)) to) in
    let within : greatest < (1 + greatest / seg) * seg = (div-lt_iff_lt-mul some).0 (omega arith) in
    (omega (arith, least), omega (arith, upto, within))
