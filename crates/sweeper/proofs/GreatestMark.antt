-- The greatest index that stays, by masks of marks: the topmost bit of a mask, and what no bit at all tells.
use Rattle.std.proofs.Common.{◌≡◌, ◌+◌, ◌-◌, ◌*◌, ◌/◌, ◌%◌, ◌^◌, ◌<◌, ◌≤◌, ◌==◌, ℕ, Bool, true, false, Option, Some, None, refl, sym, ap, ◌∙◌, inl, inr, arith, lt-ltb, add-one}
use Rattle.std.specs.Prelude.{nat_lt, ◌||◌, ◌&&◌, unwrap_or, if◌then◌else◌}
use Rattle.std.proofs.Math.Nat.{div-eq_of_lt, div-eq_of_lt-le, pow-succ'}
use Rattle.std.proofs.Math.Pow.{pow_mono}
use Rattle.std.proofs.lemmas.Nat.{pow_pos}
use Rattle.std.proofs.lemmas.Bool.{both_ways, cases_lt, and_right, and_from, or_right, leb-false}
use Rattle.std.proofs.lemmas.Bool.Decides.{eqb_tells}
use Rattle.plain_table.specs.declared.events.Cell.{Cell}
use Rattle.plain_table.specs.declared.events.Space.{Space}
use Rattle.plain_table.specs.Area.{greatest_below}
use Rattle.plain_table.specs.Cycle.{Cycle}
use Rattle.plain_table.specs.Table.{Table}
use Rattle.plain_table.specs.Finish.{swept}
use Rattle.plain_table.specs.Sound.{IsSound}
use Rattle.plain_table.specs.Words.{cell_word}
use Rattle.plain_table.proofs.AreaStarts.{greatest_below-is, greatest_below-some}
use Rattle.plain_table.proofs.Options.{IsSome-value}
use Rattle.table_laws.proofs.FinishMoves.{swept-from}
use Rattle.word_laws.specs.Kinds.{is_marked_word}
use Rattle.word_laws.proofs.WordKinds.{cell-kind}
use Rattle.sweeper.specs.Bits.{bit}
use Rattle.sweeper.specs.Pass.{stays, used_after, greatest_after, MarksTell}
use Rattle.sweeper.specs.Ready.{IsReady}

-- the topmost bit of a number
pub bit-top : (n k : ℕ) → 2 ^ k ≤ n → n < 2 * 2 ^ k → bit n k ≡ true
bit-top n k from below =
    let one : n / 2 ^ k ≡ 1 = div-eq_of_lt-le {k = 1} (2 ^ k) (omega (arith, from)) (omega (arith, below)) in
    ap (λ q. q % 2 == 1) one

pub bit-past : (n k : ℕ) → n < 2 ^ k → bit n k ≡ false
bit-past n k below = let none : n / 2 ^ k ≡ 0 = div-eq_of_lt below in ap (λ q. q % 2 == 1) none

pub power-below : (n k : ℕ) → 2 ^ n < 2 ^ k → n < k
power-below n k less = elim (cases_lt n k) [
  | inl below ↦ below
  | inr past ↦ let most = pow_mono {i = k} {j = n} past in absurd (omega (arith, most, less))
]

-- where each cell that stays is marked, and nothing else is
module _ (s : Table) (c : Cycle) (h : IsSound s) (p : Space) (entry : ℕ → ℕ) (from : ℕ) (ready : IsReady s c p entry from) where
  bit-cell : (cell : Cell) → cell.tag < 256 → cell.value < 2 ^ 48 → bit (cell_word cell true) 62 ≡ true
  bit-cell cell tag value = by cell.shown
    where
      by : (shown : Bool) → bit ((if shown then 0 else 2 ^ 59) + (cell.value + 2 ^ 48 * cell.tag + 2 ^ 62)) 62 ≡ true
      by true = let one : (0 + (cell.value + 2 ^ 48 * cell.tag + 2 ^ 62)) / 2 ^ 62 ≡ 1 = omega (arith, tag, value) in ap (λ q. q % 2 == 1) one
      by false = let one : (2 ^ 59 + (cell.value + 2 ^ 48 * cell.tag + 2 ^ 62)) / 2 ^ 62 ≡ 1 = omega (arith, tag, value) in ap (λ q. q % 2 == 1) one

  pub MarksTell-ready : (limit : ℕ) → MarksTell entry from limit
  MarksTell-ready limit k below within = by (swept s c p k) refl
    where
      by : (found : Option Cell) → swept s c p k ≡ found → bit (entry k) 62 ≡ is_marked_word (entry k)
      by None none =
          let unmarked : is_marked_word (entry k) ≡ false = ap (λ b. b && is_marked_word (entry k)) (sym (lt-ltb k from below)) ∙ ready.others k none in
          let low : entry k < 2 ^ 62 = leb-false (2 ^ 62) (entry k) unmarked in
          bit-past (entry k) 62 low ∙ sym unmarked
      by (Some cell) stands =
          let word = (ready.cells k cell stands).1 in
          let came = swept-from s c p k cell stands in
          let tags = h.cells.tags p came.index cell came.cell_is in
          ap (λ w. bit w 62) word ∙ bit-cell cell tags.0.1 tags.1 ∙ sym (cell-kind cell true tags).is_marked ∙ ap is_marked_word (sym word)

-- the greatest index, by what stays
module _ (entry : ℕ → ℕ) (from limit : ℕ) where
  later-unused : (k : ℕ) → 1 ≤ k → stays entry from k ≡ false → used_after entry from k ≡ false
  later-unused k later none = elim (eqb_tells k 0) [
    | inl e ↦ absurd (omega (arith, e.1, later))
    | inr e ↦ ap (λ b. b || stays entry from k) e.0 ∙ none
  ]

  pub greatest_after-none : ((k : ℕ) → k < limit → stays entry from k ≡ false) → greatest_after entry from limit ≡ 0
  greatest_after-none none = by (greatest_below (used_after entry from) limit) refl
    where
      by : (found : Option ℕ) → greatest_below (used_after entry from) limit ≡ found → unwrap_or found 0 ≡ 0
      by None is = refl
      by (Some g) is =
          let there = greatest_below-is (used_after entry from) limit g is in
          elim (eqb_tells g 0) [
            | inl e ↦ e.1
            | inr e ↦ absurd (both_ways (used_after entry from g) (later-unused g (omega (arith, e.1)) (none g there.below)) there.member)
          ]

  pub greatest_after-at : (g : ℕ) → g < limit → stays entry from g ≡ true → ((k : ℕ) → g < k → k < limit → stays entry from k ≡ false) → greatest_after entry from limit ≡ g
  greatest_after-at g below stay above =
      let member : used_after entry from g ≡ true = or_right (g == 0) (stays entry from g) stay in
      let found = IsSome-value (greatest_below (used_after entry from) limit) (greatest_below-some (used_after entry from) limit g below member) in
      let there = greatest_below-is (used_after entry from) limit found.0 found.1 in
      ap (λ o. unwrap_or o 0) found.1 ∙ elim (cases_lt found.0 g) [
        | inl less ↦ absurd (both_ways (used_after entry from g) (there.greatest g less below) member)
        | inr past ↦ elim (cases_lt g found.0) [
          | inl more ↦ absurd (both_ways (used_after entry from found.0) (later-unused found.0 (omega (arith, more)) (above found.0 more there.below)) there.member)
          | inr most ↦ omega (arith, past, most)
        ]
      ]

  -- the marks of the entries from `first` on below `end`
  module _ (tell : MarksTell entry from limit) (first end mask : ℕ) (below : end ≤ from) (within : end ≤ limit)
      (bits : (i : ℕ) → i < end - first → bit mask i ≡ bit (entry (first + i)) 62)
      (above : (k : ℕ) → end ≤ k → k < limit → stays entry from k ≡ false) where
    marked : (k : ℕ) → first ≤ k → k < end → is_marked_word (entry k) ≡ bit mask (k - first)
    marked k from_first to =
        let place : first + (k - first) ≡ k = omega (arith, from_first) in
        sym (tell k (omega (arith, to, below)) (omega (arith, to, within))) ∙ ap (λ j. bit (entry j) 62) (sym place) ∙ sym (bits (k - first) (omega (arith, from_first, to)))

    unmarked : (k : ℕ) → first ≤ k → k < end → bit mask (k - first) ≡ false → stays entry from k ≡ false
    unmarked k from_first to none = and_right (nat_lt k from) (is_marked_word (entry k)) (marked k from_first to ∙ none)

    pub none-marked : mask ≡ 0 → (k : ℕ) → first ≤ k → k < limit → stays entry from k ≡ false
    none-marked zero k from_first to = elim (cases_lt k end) [
      | inl less ↦ unmarked k from_first less (ap (λ m. bit m (k - first)) zero ∙ bit-past 0 (k - first) (pow_pos (k - first)))
      | inr past ↦ above k past to
    ]

    pub last-marked : (r : ℕ) → first + r < end → 2 ^ r ≤ mask → mask < 2 * 2 ^ r → greatest_after entry from limit ≡ first + r
    last-marked r inside low high = greatest_after-at (first + r) (omega (arith, inside, within)) stay past
      where
        same : first + r - first ≡ r
        same = omega arith

        stay : stays entry from (first + r) ≡ true
        stay =
            and_from (nat_lt (first + r) from) (is_marked_word (entry (first + r))) (lt-ltb (first + r) from (omega (arith, inside, below)))
            (marked (first + r) (omega arith) inside ∙ ap (bit mask) same ∙ bit-top mask r low high)

        past : (k : ℕ) → first + r < k → k < limit → stays entry from k ≡ false
        past k more to = elim (cases_lt k end) [
          | inl less ↦
              let powers = pow_mono {i = r + 1} {j = k - first} (omega (arith, more)) in
              let double : 2 ^ (r + 1) ≡ 2 * 2 ^ r = ap (λ k. 2 ^ k) (add-one r) ∙ pow-succ' 2 r in
              unmarked k (omega (arith, more)) less (bit-past mask (k - first) (omega (arith, powers, double, high)))
          | inr far ↦ above k far to
        ]
