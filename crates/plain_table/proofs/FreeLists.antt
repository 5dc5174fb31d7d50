-- The least free index and the count of free ones: what they tell of the indexes, and what they are after a take.
use Rattle.std.proofs.Common.{◌≡◌, ◌≢◌, ◌+◌, ◌-◌, ◌<◌, ◌≤◌, ℕ, zero, suc, Bool, true, false, Some, None, unwrap_or, refl, sym, ap, ap₂, ◌∙◌, inl, inr, arith}
use Rattle.std.specs.Prelude.{if◌then◌else◌}
use Rattle.std.proofs.lemmas.Bool.{cases_Bool}
use Rattle.std.proofs.lemmas.Bool.Decides.{eqb_tells}
use Rattle.std.proofs.lemmas.Option.{none-some, same_Some}
use Rattle.plain_table.specs.Area.{count_below}
use Rattle.plain_table.specs.Table.{least_from}
use Rattle.plain_table.specs.Words.{next_free}
use Rattle.plain_table.proofs.LeastFree.{least_from-used}

-- one step of the search
least_from-step : (used : ℕ → Bool) (i n : ℕ) (test : Bool) → used i ≡ test →
    least_from used i (suc n) ≡ (if test then least_from used (i + 1) n else Some i)
least_from-step used i n test is = ap (λ (b : Bool). if b then least_from used (i + 1) n else Some i) is

-- where none is found, all are used; and all before the one that is found
pub least_from-all : (used : ℕ → Bool) (i n : ℕ) → least_from used i n ≡ None → (k : ℕ) → i ≤ k → k < i + n → used k ≡ true
least_from-all used i zero none k from to = absurd (omega (arith, from, to))
least_from-all used i (suc n) none k from to = elim (cases_Bool (used i)) [
  | inl t ↦ elim (eqb_tells i k) [
    | inl e ↦ ap used (sym e.1) ∙ t
    | inr e ↦ least_from-all used (i + 1) n (sym (least_from-step used i n true t) ∙ none) k (omega (arith, from, e.1)) (omega (arith, to))
  ]
  | inr t ↦ absurd (none-some i (sym none ∙ least_from-step used i n false t))
]

pub least_from-before : (used : ℕ → Bool) (i n found : ℕ) → least_from used i n ≡ Some found → (k : ℕ) → i ≤ k → k < found → used k ≡ true
least_from-before used i zero found is k from to = absurd (none-some found is)
least_from-before used i (suc n) found is k from to = elim (cases_Bool (used i)) [
  | inl t ↦ elim (eqb_tells i k) [
    | inl e ↦ ap used (sym e.1) ∙ t
    | inr e ↦ least_from-before used (i + 1) n found (sym (least_from-step used i n true t) ∙ is) k (omega (arith, from, e.1)) to
  ]
  | inr t ↦
      let same : i ≡ found = same_Some i found (sym (least_from-step used i n false t) ∙ is) in
      absurd (omega (arith, same, from, to))
]

-- one that is found is found among more
pub least_from-more : (used : ℕ → Bool) (i n m found : ℕ) → least_from used i n ≡ Some found → n ≤ m → least_from used i m ≡ Some found
least_from-more used i zero m found is few = absurd (none-some found is)
least_from-more used i (suc n) zero found is few = absurd (omega (arith, few))
least_from-more used i (suc n) (suc m) found is few = elim (cases_Bool (used i)) [
  | inl t ↦
      least_from-step used i m true t
      ∙ least_from-more used (i + 1) n m found (sym (least_from-step used i n true t) ∙ is) (omega (arith, few))
  | inr t ↦ least_from-step used i m false t ∙ sym (least_from-step used i n false t) ∙ is
]

-- sets that agree from an index on
pub least_from-same : (used other : ℕ → Bool) (i n : ℕ) → ((k : ℕ) → i ≤ k → other k ≡ used k) → least_from other i n ≡ least_from used i n
least_from-same used other i zero same = refl
least_from-same used other i (suc n) same =
    ap₂ (λ (b : Bool) found. if b then found else Some i) (same i (omega arith))
    (least_from-same used other (i + 1) n (λ k from. same k (omega (arith, from))))

pub next_free-same : (used other : ℕ → Bool) (i end : ℕ) → ((k : ℕ) → i ≤ k → other k ≡ used k) → next_free other i end ≡ next_free used i end
next_free-same used other i end same = ap (λ found. unwrap_or found end) (least_from-same used other i (end - i) same)

-- used indexes are passed over
pub least_from-past : (used : ℕ → Bool) (i n end : ℕ) → ((k : ℕ) → i ≤ k → k < i + n → used k ≡ true) → i + n ≤ end →
    least_from used i (end - i) ≡ least_from used (i + n) (end - (i + n))
least_from-past used i zero end all within = let same : i + 0 ≡ i = omega arith in ap (λ k. least_from used k (end - k)) (sym same)
least_from-past used i (suc n) end all within =
    let same : i + 1 + n ≡ i + suc n = omega arith in
    least_from-used used i end (omega (arith, within)) (all i (omega arith) (omega arith))
    ∙ least_from-past used (i + 1) n end (λ k from to. all k (omega (arith, from)) (omega (arith, to))) (omega (arith, within))
    ∙ ap (λ k. least_from used k (end - k)) same

-- counts
abbrev one_if : Bool → ℕ
one_if test = if test then 1 else 0

pub count_below-none : (set : ℕ → Bool) (n : ℕ) → ((k : ℕ) → k < n → set k ≡ false) → count_below set n ≡ 0
count_below-none set zero none = refl
count_below-none set (suc n) none =
    ap₂ (λ (m : ℕ) (b : Bool). m + one_if b) (count_below-none set n (λ k below. none k (omega (arith, below)))) (none n (omega arith))

pub count_below-some : (set : ℕ → Bool) (n k : ℕ) → k < n → set k ≡ true → count_below set n ≢ 0
count_below-some set zero k below is = λ e. omega (arith, below)
count_below-some set (suc n) k below is = λ e. elim (eqb_tells k n) [
  | inl same ↦
      let here : one_if (set n) ≡ 1 = ap one_if (ap set (sym same.1) ∙ is) in
      omega (arith, here, e)
  | inr apart ↦ count_below-some set n k (omega (arith, below, apart.1)) is (omega (arith, e))
]

pub count_below-same : (set other : ℕ → Bool) (n : ℕ) → ((k : ℕ) → k < n → other k ≡ set k) → count_below other n ≡ count_below set n
count_below-same set other zero same = refl
count_below-same set other (suc n) same =
    ap₂ (λ (m : ℕ) (b : Bool). m + one_if b) (count_below-same set other n (λ k below. same k (omega (arith, below)))) (same n (omega arith))

-- one number less in the set
pub count_below-less : (set other : ℕ → Bool) (n i : ℕ) → i < n → set i ≡ true → other i ≡ false → ((k : ℕ) → i ≢ k → other k ≡ set k) →
    count_below set n ≡ count_below other n + 1
count_below-less set other zero i below is gone same = absurd (omega (arith, below))
count_below-less set other (suc n) i below is gone same = elim (eqb_tells i n) [
  | inl e ↦
      let now : one_if (set n) ≡ 1 = ap one_if (ap set (sym e.1) ∙ is) in
      let then_none : one_if (other n) ≡ 0 = ap one_if (ap other (sym e.1) ∙ gone) in
      let rest : count_below other n ≡ count_below set n = count_below-same set other n (λ k less. same k (λ eq. omega (arith, less, eq, e.1))) in
      omega (arith, now, then_none, rest)
  | inr e ↦
      let rest : count_below set n ≡ count_below other n + 1 = count_below-less set other n i (omega (arith, below, e.1)) is gone same in
      let last : one_if (other n) ≡ one_if (set n) = ap one_if (same n e.1) in
      omega (arith, rest, last)
]
