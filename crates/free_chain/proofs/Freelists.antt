-- The chain of a freelist: where each free entry links the next free index, it is the ascending list of all of them.
use Rattle.std.proofs.Common.{◌≡◌, ◌+◌, ◌-◌, ◌/◌, ◌%◌, ◌^◌, ◌<◌, ◌≤◌, ℕ, zero, suc, Bool, true, false, not, List, [], ◌∷◌, slice_index, sym, ap, subst, ◌∙◌, inl, inr, ◌⊎◌, arith}
use Rattle.std.specs.Prelude.{if◌then◌else◌, slice_index_or, All, Contains}
use Rattle.std.specs.List.Sorted.{IsStrictlyIncreasing}
use Rattle.std.proofs.lemmas.Bool.{both_ways, cases_lt, not_from_true, not_from_false}
use Rattle.std.proofs.lemmas.List.Elements.{All-nil, All-cons, Contains-append_cases, Contains-append_left, Contains-append_right, Contains-get_or, Contains-push, Contains-push_cases}
use Rattle.plain_table.specs.Area.{count_below}
use Rattle.plain_table.specs.Words.{free_word, next_free}
use Rattle.free_chain.specs.Chain.{FreelistsAreChains, IsNextFree, chain, chain_end, link_of}
use Rattle.free_chain.proofs.NextFree.{IsNextFree-next_free}

-- lists that begin with a number
Contains-cons : (x : ℕ) (xs : List ℕ) (i : ℕ) → Contains (x ∷ xs) i → (x ≡ i) ⊎ Contains xs i
Contains-cons x xs i has = elim (Contains-append_cases (x ∷ []) xs i has) [
  | inl one ↦ elim (Contains-push_cases [] x i one) [
    | inl none ↦ absurd (omega (arith, none.1))
    | inr same ↦ inl same
  ]
  | inr more ↦ inr more
]

IsStrictlyIncreasing-cons : (x : ℕ) (xs : List ℕ) → All (λ y. x < y) xs → IsStrictlyIncreasing xs → IsStrictlyIncreasing (x ∷ xs)
IsStrictlyIncreasing-cons x xs less rest zero below = less 0 0 (omega (arith, below))
IsStrictlyIncreasing-cons x xs less rest (suc k) below =
    let same : suc (k + 1) ≡ suc k + 1 = omega arith in
    subst (λ (n : ℕ). slice_index xs k < slice_index (x ∷ xs) n) same (rest k (omega (arith, below)))

-- a count stays over numbers that are not in the set, and rises by 1 over one that is
abbrev pub one_if : Bool → ℕ
one_if test = if test then 1 else 0

count_below-step : (set : ℕ → Bool) (n : ℕ) → count_below set (n + 1) ≡ count_below set n + one_if (set n)
count_below-step set n = let same : n + 1 ≡ suc n = omega arith in ap (count_below set) same

count_below-past : (set : ℕ → Bool) (from n : ℕ) → ((k : ℕ) → from ≤ k → k < from + n → set k ≡ false) → count_below set (from + n) ≡ count_below set from
count_below-past set from zero none = ap (count_below set) (omega arith)
count_below-past set from (suc n) none =
    let last : one_if (set (from + n)) ≡ 0 = ap one_if (none (from + n) (omega arith) (omega arith)) in
    let rest : count_below set (from + n) ≡ count_below set from = count_below-past set from n (λ k low high. none k low (omega (arith, high))) in
    let more : from + suc n ≡ from + n + 1 = omega arith in
    ap (count_below set) more ∙ count_below-step set (from + n) ∙ omega (arith, last, rest)

count_below-grows : (set : ℕ → Bool) (from n : ℕ) → count_below set from ≤ count_below set (from + n)
count_below-grows set from zero = let same : from ≡ from + 0 = omega arith in omega (arith, ap (count_below set) same)
count_below-grows set from (suc n) =
    let more : from + suc n ≡ from + n + 1 = omega arith in
    omega (arith, ap (count_below set) more, count_below-step set (from + n), count_below-grows set from n)

count_below-over : (set : ℕ → Bool) (from i to : ℕ) → from ≤ i → i < to → set i ≡ true → count_below set from < count_below set to
count_below-over set from i to low high is =
    let here : one_if (set i) ≡ 1 = ap one_if is in
    let upto : from + (i - from) ≡ i = omega (arith, low) in
    let past : i + 1 + (to - (i + 1)) ≡ to = omega (arith, high) in
    let before : count_below set from ≤ count_below set i =
    subst (λ (k : ℕ). count_below set from ≤ count_below set k) upto (count_below-grows set from (i - from)) in
    let grown : count_below set (i + 1) ≤ count_below set to =
    subst (λ (k : ℕ). count_below set (i + 1) ≤ count_below set k) past (count_below-grows set (i + 1) (to - (i + 1))) in
    omega (arith, here, before, grown, count_below-step set i)

-- the chain from the first free index at or above `start` on
record IsWalk (used : ℕ → Bool) (committed : ℕ) (entry : ℕ → ℕ) (start head len : ℕ) : Type 0 where
  ascending : IsStrictlyIncreasing (chain entry head len)
  inside : (i : ℕ) → Contains (chain entry head len) i → (start ≤ i) × (i < committed) × (used i ≡ false)
  whole : (i : ℕ) → start ≤ i → i < committed → used i ≡ false → Contains (chain entry head len) i
  entries : All (λ i. entry i ≡ free_word (link_of (entry i))) (chain entry head len)
  last : chain_end entry head len ≡ committed

module _ (used : ℕ → Bool) (committed : ℕ) (entry : ℕ → ℕ)
    (free : (i : ℕ) → 1 ≤ i → i < committed → used i ≡ false → entry i ≡ free_word (next_free used (i + 1) committed))
    (few : committed < 2 ^ 32) where
  -- the link of a free entry is the next free index
  link : (i : ℕ) → 1 ≤ i → i < committed → used i ≡ false → link_of (entry i) ≡ next_free used (i + 1) committed
  link i later below is =
      let next : IsNextFree used (i + 1) committed (next_free used (i + 1) committed) = IsNextFree-next_free used (i + 1) committed (omega (arith, below)) in
      omega (arith, free i later below is, next.within, few)

  -- none is left
  walk-none : (start head : ℕ) → IsNextFree used start committed head →
      count_below (λ i. not (used i)) start ≡ count_below (λ i. not (used i)) committed → IsWalk used committed entry start head 0
  walk-none start head next same =
      let none : (i : ℕ) → start ≤ i → i < committed → used i ≡ false → ⊥ =
      λ i from below is. omega (arith, same, count_below-over (λ i. not (used i)) start i committed from below (not_from_false (used i) is)) in
      record {
        ascending = λ k below. absurd (omega (arith, below));
        inside = λ i has. absurd (omega (arith, has.1));
        whole = λ i from below is. absurd (none i from below is);
        entries = All-nil (λ i. entry i ≡ free_word (link_of (entry i)));
        last = elim (cases_lt head committed) [
          | inl less ↦ absurd (none head next.above less (next.free less))
          | inr over ↦ omega (arith, over, next.within)
        ];
      }

  -- one is left: it is the head
  pub head-below : (start head len : ℕ) → start ≤ committed → IsNextFree used start committed head →
      count_below (λ i. not (used i)) start + suc len ≡ count_below (λ i. not (used i)) committed → head < committed
  head-below start head len within next same = elim (cases_lt head committed) [
    | inl less ↦ less
    | inr over ↦
        let past : start + (committed - start) ≡ committed = omega (arith, within) in
        let still : count_below (λ i. not (used i)) (start + (committed - start)) ≡ count_below (λ i. not (used i)) start =
        count_below-past (λ i. not (used i)) start (committed - start)
        (λ k low high. not_from_true (used k) (next.passed k low (omega (arith, high, past, over)))) in
        absurd (omega (arith, same, ap (count_below (λ i. not (used i))) past, still))
  ]

  count-head : (start head : ℕ) → IsNextFree used start committed head → head < committed →
      count_below (λ i. not (used i)) (head + 1) ≡ count_below (λ i. not (used i)) start + 1
  count-head start head next below =
      let past : start + (head - start) ≡ head = omega (arith, next.above) in
      let still : count_below (λ i. not (used i)) (start + (head - start)) ≡ count_below (λ i. not (used i)) start =
      count_below-past (λ i. not (used i)) start (head - start)
      (λ k low high. not_from_true (used k) (next.passed k low (omega (arith, high, past)))) in
      let here : one_if (not (used head)) ≡ 1 = ap one_if (not_from_false (used head) (next.free below)) in
      omega (arith, ap (count_below (λ i. not (used i))) past, still, here, count_below-step (λ i. not (used i)) head)

  walk-cons : (start head len : ℕ) → 1 ≤ start → IsNextFree used start committed head → head < committed →
      IsWalk used committed entry (head + 1) (link_of (entry head)) len → IsWalk used committed entry start head (suc len)
  walk-cons start head len later next below rest =
      let is : used head ≡ false = next.free below in
      record {
        ascending = IsStrictlyIncreasing-cons head (chain entry (link_of (entry head)) len)
            (λ k d less. omega (
              arith,
              (rest.inside (slice_index_or (chain entry (link_of (entry head)) len) k d)
                  (Contains-get_or (chain entry (link_of (entry head)) len) k d less)).0,
            ))
            rest.ascending;
        inside = λ i has. elim (Contains-cons head (chain entry (link_of (entry head)) len) i has) [
          | inl same ↦ (omega (arith, same, next.above), omega (arith, same, below), ap used (sym same) ∙ is)
          | inr more ↦
              let tells = rest.inside i more in
              (omega (arith, tells.0, next.above), tells.1, tells.2)
        ];
        whole = λ i from under unused. elim (cases_lt head i) [
          | inl over ↦ Contains-append_right (head ∷ []) (chain entry (link_of (entry head)) len) i (rest.whole i (omega (arith, over)) under unused)
          | inr upto ↦ elim (cases_lt i head) [
            | inl before ↦ absurd (both_ways (used i) unused (next.passed i from before))
            | inr over ↦
                let same : head ≡ i = omega (arith, upto, over) in
                subst (λ (k : ℕ). Contains (head ∷ chain entry (link_of (entry head)) len) k) same
                (Contains-append_left (head ∷ []) (chain entry (link_of (entry head)) len) head (Contains-push [] head))
          ]
        ];
        entries = All-cons (λ i. entry i ≡ free_word (link_of (entry i))) head (chain entry (link_of (entry head)) len)
            (free head (omega (arith, later, next.above)) below is ∙ ap free_word (sym (link head (omega (arith, later, next.above)) below is)))
            rest.entries;
        last = rest.last;
      }

  walk : (len start head : ℕ) → 1 ≤ start → start ≤ committed → IsNextFree used start committed head →
      count_below (λ i. not (used i)) start + len ≡ count_below (λ i. not (used i)) committed → IsWalk used committed entry start head len
  walk zero start head later within next same = walk-none start head next (omega (arith, same))
  walk (suc len) start head later within next same =
      let below : head < committed = head-below start head len within next same in
      let count : count_below (λ i. not (used i)) (head + 1) ≡ count_below (λ i. not (used i)) start + 1 = count-head start head next below in
      walk-cons start head len later next below
      (walk len (head + 1) (link_of (entry head)) (omega arith) (omega (arith, below))
      (subst (IsNextFree used (head + 1) committed) (sym (link head (omega (arith, later, next.above)) below (next.free below)))
      (IsNextFree-next_free used (head + 1) committed (omega (arith, below))))
      (omega (arith, count, same)))

-- the freelist word of a space that shows a table
pub IsFreelist-shown : FreelistsAreChains
IsFreelist-shown s p entry freelist committed shows first few =
    let used : ℕ → Bool = s.used p in
    let some : 1 ≤ committed = omega (arith, shows.used 0 first) in
    let most : committed < 2 ^ 32 = omega (arith, shows.within, few) in
    let next : IsNextFree (s.used p) 1 committed (next_free (s.used p) 1 committed) = IsNextFree-next_free (s.used p) 1 committed some in
    let head : freelist % 2 ^ 32 ≡ next_free (s.used p) 1 committed = omega (arith, shows.list, next.within, most) in
    let len : freelist / 2 ^ 32 ≡ count_below (λ i. not (s.used p i)) committed = omega (arith, shows.list, next.within, most) in
    let zeroth : one_if (not (s.used p 0)) ≡ 0 = ap one_if (not_from_true (s.used p 0) first) in
    let is : IsWalk (s.used p) committed entry 1 (freelist % 2 ^ 32) (freelist / 2 ^ 32) =
    walk (s.used p) committed entry shows.free most (freelist / 2 ^ 32) 1 (freelist % 2 ^ 32) (omega arith) some
    (subst (IsNextFree (s.used p) 1 committed) (sym head) next) (omega (arith, len, zeroth)) in
    record {
      ascending = is.ascending;
      members = λ i. (is.inside i, λ free. is.whole i free.0 free.1 free.2);
      entries = is.entries;
      last = is.last;
      segments = shows.segments;
    }
