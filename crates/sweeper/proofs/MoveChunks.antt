-- A chunk of entries with no evacuation entry in it: nothing moves there.
use Rattle.std.proofs.Common.{◌≡◌, ◌+◌, ◌-◌, ◌/◌, ◌^◌, ◌<◌, ◌≤◌, ℕ, zero, suc, false, List, slice_index, sym, ap, subst, ◌∙◌, arith}
use Rattle.std.specs.Prelude.{nat_le, nat_lt}
use Rattle.std.proofs.lemmas.Bool.{both_ways, and_parts, cond-false, leb-true, ltb-true, false_from_ne_true}
use Rattle.std.proofs.lemmas.Nat.{pow_pos}
use Rattle.plain_table.specs.Cycle.{Cycle}
use Rattle.plain_table.specs.Table.{Table}
use Rattle.word_laws.specs.Kinds.{is_evacuation_word}
use Rattle.sweeper.specs.Bits.{bit}
use Rattle.sweeper.specs.Pass.{entries_from}
use Rattle.sweeper.specs.declared.moves.Plan.TheVariants.{Skip}
use Rattle.sweeper.specs.Moves.{field_named, plan_at, plan_of, applied, IsMovedAt, IsMoving}
use Rattle.sweeper.proofs.GreatestMark.{bit-top, bit-past}
use Rattle.sweeper.proofs.MoveLoop.{IsMoving-step}

-- a word without bit 58 is no evacuation entry's
is_evacuation_word-none : (w : ℕ) → bit w 58 ≡ false → is_evacuation_word w ≡ false
is_evacuation_word-none w none =
    false_from_ne_true (is_evacuation_word w)
    (λ is. let parts = and_parts (nat_le (2 ^ 58) w) (nat_lt w (2 ^ 59)) is in
    let low : 2 ^ 58 ≤ w = leb-true (2 ^ 58) w parts.0 in
    let high : w < 2 ^ 59 = ltb-true w (2 ^ 59) parts.1 in
    both_ways (bit w 58) none (bit-top w 58 low (omega (arith, high))))

-- a mask of 0 tells that no entry of the chunk is an evacuation entry
pub is_evacuation_word-chunk : (words : List ℕ) (base first end mask : ℕ) → mask ≡ 0 → ((i : ℕ) → i < end - first → bit mask i ≡ bit (entries_from words base (first + i)) 58) →
    (e : ℕ) → first ≤ e → e < end → is_evacuation_word (slice_index words (base + e)) ≡ false
is_evacuation_word-chunk words base first end mask empty bits e from to =
    let none : bit mask (e - first) ≡ false = ap (λ m. bit m (e - first)) empty ∙ bit-past 0 (e - first) (pow_pos (e - first)) in
    let same : first + (e - first) ≡ e = omega (arith, from) in
    is_evacuation_word-none (slice_index words (base + e))
    (ap (λ k. bit (slice_index words (base + k)) 58) (sym same) ∙ sym (bits (e - first) (omega (arith, from, to))) ∙ none)

plan_of-none : (words : List ℕ) (base limit start e : ℕ) → is_evacuation_word (slice_index words (base + e)) ≡ false → plan_of words base limit start e ≡ Skip
plan_of-none words base limit start e none =
    let word = slice_index words (base + e) in
    cond-false (is_evacuation_word word) (plan_at words base limit start (field_named word) (slice_index words (field_named word) / 65536)) Skip none

module _ (s : Table) (c : Cycle) (old : List ℕ) (base limit start : ℕ) (h : IsMoving s c old base limit start) (now : List ℕ) where
  IsMovedAt-none : (e : ℕ) → e < start → is_evacuation_word (slice_index now (base + e)) ≡ false → IsMovedAt s c start old now (e + 1) → IsMovedAt s c start old now e
  IsMovedAt-none e below none before =
      subst (λ words. IsMovedAt s c start old words e) (ap (applied now base e) (plan_of-none now base limit start e none))
      (IsMoving-step s c old base limit start h now (e + 1) e (omega arith) below before)

  pub IsMovedAt-chunk : (first count end : ℕ) → end ≡ first + count → end ≤ start → ((e : ℕ) → first ≤ e → e < end → is_evacuation_word (slice_index now (base + e)) ≡ false) →
      IsMovedAt s c start old now end → IsMovedAt s c start old now first
  IsMovedAt-chunk first zero end is within none at_end = subst (IsMovedAt s c start old now) (omega (arith, is)) at_end
  IsMovedAt-chunk first (suc count) end is within none at_end =
      IsMovedAt-none first (omega (arith, is, within)) (none first (omega arith) (omega (arith, is)))
      (IsMovedAt-chunk (first + 1) count end (omega (arith, is)) within (λ e from to. none e (omega (arith, from)) to) at_end)
