-- The evacuation area begins within the segments in use, as it has no more segments than these, and fewer if there are
-- any; and what it is counted from: how many numbers below a limit a set has, and the greatest one of them.
use Rattle.std.proofs.Common.{◌≡◌, ℕ, zero, suc, ◌+◌, ◌-◌, ◌*◌, ◌/◌, ◌<◌, ◌≤◌, ◌==◌, Bool, true, false, Option, Some, None, arith, ap, ap₂, unwrap_or, ◌∙◌, subst, refl, inl, inr}
use Rattle.std.specs.Prelude.{if◌then◌else◌, nat_le, ◌&&◌, IfSome, IsTrue, IsSome}
use Rattle.std.proofs.Math.Nat.{div-le_of_le-mul, div-lt_iff_lt-mul, mul-le-mul_right, mul_comm}
use Rattle.std.proofs.lemmas.Bool.{cases_lt, both_ways, and_parts, leb-true}
use Rattle.std.proofs.lemmas.Bool.Decides.{nat_tests}
use Rattle.plain_table.specs.declared.scripts.Policy.{Policy}
use Rattle.plain_table.specs.declared.scripts.Policy.TheVariants.{Auto, Always, Never}
use Rattle.plain_table.specs.Area.{area_segments, area_start, count_below, greatest_below, segments_in_use}

-- an area has fewer segments than are in use
if-less : (test : Bool) (x segs : ℕ) → 1 ≤ segs → (IsTrue test → x < segs) → (if test then x else 0) < segs
if-less true x segs some h = h refl
if-less false x segs some h = omega arith

half-below : (more used seg : ℕ) → (((more + 4) * seg - used) / 2) / seg < more + 4
half-below more used seg =
    let half : ((more + 4) * seg - used) / 2 ≤ seg * (more + 3) = omega arith in
    let most : (((more + 4) * seg - used) / 2) / seg ≤ more + 3 = div-le_of_le-mul seg half in
    omega arith

half-below_many : (segs used seg : ℕ) → 4 ≤ segs → ((segs * seg - used) / 2) / seg < segs
half-below_many segs used seg many =
    let all : segs - 4 + 4 ≡ segs = omega arith in
    subst (λ (n : ℕ). ((n * seg - used) / 2) / seg < n) all (half-below (segs - 4) used seg)

pub area_segments-below : (policy : Policy) (segs used seg : ℕ) → 1 ≤ segs → area_segments policy segs used seg < segs
area_segments-below Never segs used seg some = some
area_segments-below Always segs used seg some = omega arith
area_segments-below Auto segs used seg some =
    if-less (nat_le 4 segs && nat_le (segs * seg) ((segs * seg - used) * 10)) (((segs * seg - used) / 2) / seg) segs some
    (λ is. half-below_many segs used seg (leb-true 4 segs (and_parts (nat_le 4 segs) (nat_le (segs * seg) ((segs * seg - used) * 10)) is).0))

pub area_segments-le : (policy : Policy) (segs used seg : ℕ) → area_segments policy segs used seg ≤ segs
area_segments-le Never zero used seg = omega arith
area_segments-le Always zero used seg = omega arith
area_segments-le Auto zero used seg = omega arith
area_segments-le policy (suc n) used seg =
    let below : area_segments policy (suc n) used seg < suc n = area_segments-below policy (suc n) used seg (omega arith) in omega arith

some-if : (test : Bool) (start most : ℕ) → start ≤ most → IfSome (if test then None else Some start) (λ first. first ≤ most)
some-if true start most h = tt
some-if false start most h = h

-- the area begins at most at the end of all segments
pub area_start-le : (policy : Policy) (segs used seg most : ℕ) → segs * seg ≤ most → IfSome (area_start policy segs used seg) (λ first. first ≤ most)
area_start-le policy segs used seg most all =
    let fewer : segs - area_segments policy segs used seg ≤ segs = omega arith in
    let within : (segs - area_segments policy segs used seg) * seg ≤ segs * seg = mul-le-mul_right seg fewer in
    some-if (area_segments policy segs used seg == 0) ((segs - area_segments policy segs used seg) * seg) most (omega arith)

pub count_below-le : (set : ℕ → Bool) (n : ℕ) → count_below set n ≤ n
count_below-le set zero = omega arith
count_below-le set (suc n) = grind (arith, nat_tests, count_below-le set n)

-- the greatest number below another in a set
pub record IsGreatestBelow (set : ℕ → Bool) (n e : ℕ) : Type 0 where
  pub below : e < n
  pub member : set e ≡ true
  pub greatest : (j : ℕ) → e < j → j < n → set j ≡ false

greatest-by : (set : ℕ → Bool) (test : Bool) (rest : Option ℕ) (n e : ℕ) → set n ≡ test → (rest ≡ Some e → IsGreatestBelow set n e) →
    (if test then Some n else rest) ≡ Some e → IsGreatestBelow set (suc n) e
greatest-by set true rest n e here others is =
    let same : n ≡ e = cc in
    record {
      below = omega arith;
      member = subst (λ (k : ℕ). set k ≡ true) same here;
      greatest = λ j over under. absurd (omega arith);
    }
greatest-by set false rest n e here others is =
    let h : IsGreatestBelow set n e = others is in
    record {
      below = omega arith;
      member = h.member;
      greatest = λ j over under. elim (cases_lt j n) [
        | inl less ↦ h.greatest j over less
        | inr more ↦ subst (λ (k : ℕ). set k ≡ false) (omega arith) here
      ];
    }

pub greatest_below-is : (set : ℕ → Bool) (n e : ℕ) → greatest_below set n ≡ Some e → IsGreatestBelow set n e
greatest_below-is set zero e is = absurd (cc)
greatest_below-is set (suc n) e is = greatest-by set (set n) (greatest_below set n) n e refl (greatest_below-is set n e) is

some-by : (test : Bool) (rest : Option ℕ) (n : ℕ) → (test ≡ false → IsSome rest) → IsSome (if test then Some n else rest)
some-by true rest n others = refl
some-by false rest n others = others refl

pub greatest_below-some : (set : ℕ → Bool) (n j : ℕ) → j < n → set j ≡ true → IsSome (greatest_below set n)
greatest_below-some set zero j less is = absurd (omega arith)
greatest_below-some set (suc n) j less is =
    some-by (set n) (greatest_below set n) n
    (λ none. elim (cases_lt j n) [
      | inl under ↦ greatest_below-some set n j under is
      | inr over ↦ absurd (both_ways (set n) none (subst (λ (k : ℕ). set k ≡ true) (omega arith) is))
    ])

pub greatest_below-lt : (set : ℕ → Bool) (n m : ℕ) → greatest_below set n ≡ Some m → m < n
greatest_below-lt set n m is = (greatest_below-is set n m is).below

-- the segments up to the greatest number hold at most as many entries as all have
pub segments-le : (set : ℕ → Bool) (entries seg ext greatest : ℕ) → entries ≡ seg → 1 ≤ entries → greatest_below set (seg * ext) ≡ Some greatest →
    (1 + greatest / entries) * entries ≤ seg * ext
segments-le set entries seg ext greatest same some is =
    let below : greatest < seg * ext = greatest_below-lt set (seg * ext) greatest is in
    let within : greatest < ext * entries = rw (same, mul_comm ext seg) below in
    let quotient : greatest / entries < ext = (div-lt_iff_lt-mul some).1 within in
    let more : 1 + greatest / entries ≤ ext = omega arith in
    let most : (1 + greatest / entries) * entries ≤ ext * entries = mul-le-mul_right entries more in
    subst (λ (all : ℕ). (1 + greatest / entries) * entries ≤ all) (mul_comm ext entries ∙ ap (λ (n : ℕ). n * ext) same) most

-- sets that agree have the same greatest number
pub greatest_below-same : (set other : ℕ → Bool) (n : ℕ) → ((k : ℕ) → other k ≡ set k) → greatest_below other n ≡ greatest_below set n
greatest_below-same set other zero same = refl
greatest_below-same set other (suc n) same =
    ap₂ (λ (b : Bool) found. if b then Some n else found) (same n) (greatest_below-same set other n same)

-- the greatest number, and 0 where there is none: it is below the limit, and in a set that has 0
pub greatest_below-or_zero_lt : (set : ℕ → Bool) (n : ℕ) → 1 ≤ n → unwrap_or (greatest_below set n) 0 < n
greatest_below-or_zero_lt set n some = by_case (greatest_below set n) refl
  where
    by_case : (found : Option ℕ) → greatest_below set n ≡ found → unwrap_or found 0 < n
    by_case None is = some
    by_case (Some m) is = greatest_below-lt set n m is

pub greatest_below-member : (set : ℕ → Bool) (n : ℕ) → IsTrue (set 0) → IsTrue (set (unwrap_or (greatest_below set n) 0))
greatest_below-member set n first = by_case (greatest_below set n) refl
  where
    by_case : (found : Option ℕ) → greatest_below set n ≡ found → IsTrue (set (unwrap_or found 0))
    by_case None is = first
    by_case (Some m) is = (greatest_below-is set n m is).member

-- each number of a set below the limit is in a segment in use
past-segment : (i greatest seg : ℕ) → 1 ≤ seg → i ≤ greatest → i < (1 + greatest / seg) * seg
past-segment i greatest seg one most = omega arith

pub segments_in_use-past : (set : ℕ → Bool) (limit seg i : ℕ) → 1 ≤ seg → i < limit → set i ≡ true → i < segments_in_use set limit seg * seg
segments_in_use-past set limit seg i one below is = by_case (greatest_below set limit) refl
  where
    by_case : (found : Option ℕ) → greatest_below set limit ≡ found → i < (1 + unwrap_or found 0 / seg) * seg
    by_case None none = absurd (let some = greatest_below-some set limit i below is in cc)
    by_case (Some m) found =
        past-segment i m seg one (elim (cases_lt m i) [
          | inl less ↦ absurd (both_ways (set i) ((greatest_below-is set limit m found).greatest i less below) is)
          | inr more ↦ more
        ])
