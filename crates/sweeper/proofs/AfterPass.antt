-- Words that are ready show the finished table after the sweep of their space.
use Rattle.std.proofs.Common.{◌≡◌, ◌+◌, ◌-◌, ◌*◌, ◌/◌, ◌^◌, ◌<◌, ◌≤◌, ℕ, Bool, true, false, not, List, slice_index, Option, Some, None, refl, sym, ap, ap₂, subst, ◌∙◌, inl, inr, arith, lt-ltb, le-ltb, le-leb, eqb-true}
use Rattle.std.specs.Prelude.{unwrap_or, is_some, ◌||◌, ◌==◌, nat_lt, nat_le, if◌then◌else◌}
use Rattle.std.proofs.lemmas.Bool.{cases_lt, lt-leb, and_from, or_cases, or_right, or_parts, cond-true, cond-false, both_ways}
use Rattle.std.proofs.lemmas.Bool.Decides.{eqb_tells}
use Rattle.std.proofs.lemmas.Option.{none-some}
use Rattle.plain_table.specs.declared.events.Cell.{Cell}
use Rattle.plain_table.specs.declared.events.Space.{Space}
use Rattle.plain_table.specs.declared.events.Space.TheVariants.{External, Trusted}
use Rattle.plain_table.specs.Area.{segments_in_use}
use Rattle.plain_table.specs.Cycle.{Cycle}
use Rattle.plain_table.specs.Table.{Table, limit_of}
use Rattle.plain_table.specs.Finish.{swept, finished}
use Rattle.plain_table.specs.Words.{cell_word, free_word, no_access_word, freelist_word, next_free}
use Rattle.plain_table.specs.Shows.{SpaceShows, entry_at, IsEmptyIndex}
use Rattle.plain_table.proofs.AreaStarts.{greatest_below-same, segments_in_use-past}
use Rattle.plain_table.proofs.FreeLists.{next_free-same, count_below-same}
use Rattle.word_laws.specs.Kinds.{is_marked_word}
use Rattle.sweeper.specs.Pass.{Tally, stays, used_after, free_after, entries_from}
use Rattle.sweeper.specs.Ready.{IsReady, IsSpaceAfter}

unmarked : (cell : Cell) → cell_word cell true - 2 ^ 62 ≡ cell_word cell false
unmarked cell = by cell.shown
  where
    by : (shown : Bool) → (if shown then 0 else 2 ^ 59) + (cell.value + 2 ^ 48 * cell.tag + 2 ^ 62) - 2 ^ 62 ≡ (if shown then 0 else 2 ^ 59) + (cell.value + 2 ^ 48 * cell.tag + 0)
    by true = omega arith
    by false = omega arith

module _ (s : Table) (c : Cycle) (p : Space) (entry : ℕ → ℕ) (from : ℕ) (ready : IsReady s c p entry from) where
  stays-by : (marked : (i : ℕ) (cell : Cell) → swept s c p i ≡ Some cell → is_marked_word (entry i) ≡ true) → (i : ℕ) (found : Option Cell) → swept s c p i ≡ found → stays entry from i ≡ is_some found
  stays-by marked i None is = ready.others i is
  stays-by marked i (Some cell) is = and_from (nat_lt i from) (is_marked_word (entry i)) (lt-ltb i from (ready.cells i cell is).0) (marked i cell is)

  marked : (i : ℕ) (cell : Cell) → swept s c p i ≡ Some cell → is_marked_word (entry i) ≡ true
  marked i cell is =
      let word : entry i ≡ cell_word cell true = (ready.cells i cell is).1 in
      le-leb (2 ^ 62) (entry i) (omega (arith, word))

  -- what stays is what the finish keeps
  pub stays-swept : (i : ℕ) → stays entry from i ≡ is_some (swept s c p i)
  stays-swept i = stays-by marked i (swept s c p i) refl

  pub used-swept : (i : ℕ) → used_after entry from i ≡ (finished s c).used p i
  used-swept i = ap (λ b. i == 0 || b) (stays-swept i)

  swept-below : (i : ℕ) → is_some (swept s c p i) ≡ true → i < limit_of s p
  swept-below i is = elim (cases_lt i (limit_of s p)) [
    | inl less ↦ less
    | inr more ↦ absurd (both_ways (is_some (swept s c p i)) (ap is_some (cond-false (nat_lt i (limit_of s p)) _ None (le-ltb i (limit_of s p) more))) is)
  ]

  pub finished-below : 1 ≤ limit_of s p → (i : ℕ) → (finished s c).used p i ≡ true → i < limit_of s p
  finished-below some i is = elim (or_cases (i == 0) (is_some (swept s c p i)) is) [
    | inl first ↦ let e : i ≡ 0 = eqb-true i 0 first in omega (arith, e, some)
    | inr cell ↦ swept-below i cell
  ]

module _ (s : Table) (c : Cycle) (p : Space) (old now : List ℕ) (base from list segs : ℕ) (tally : Tally) where
  pub SpaceShows-swept : IsReady s c p (entries_from old base) from → 1 ≤ s.sizes.seg → 1 ≤ limit_of s p →
      IsSpaceAfter old now base (limit_of s p) from s.sizes.seg list segs tally →
      SpaceShows (finished s c) p (λ i. slice_index now (base + i)) (slice_index now list) (segs * s.sizes.seg)
  SpaceShows-swept ready one some h = record {
    segments = (segs, refl);
    within = h.within;
    used = λ i is. below i is;
    null = ap (slice_index now) (omega arith) ∙ h.null;
    cells = λ i cell is. (false, stands i cell is, tt);
    evacuated = λ i number is. absurd (no_entry p i number is);
    free = free;
    empty = λ i is. absurd (no_empty i is);
    closed = closed;
    list = h.at_list ∙ ap₂ freelist_word (next_free-same (used p) (used_after entry from) 1 committed (λ k later. same k))
        (count_below-same (λ i. not (used p i)) (free_after entry from) committed (λ k _. ap not (same k)));
  }
    where
      entry : ℕ → ℕ
      entry = entries_from old base

      committed : ℕ
      committed = segs * s.sizes.seg

      used : Space → ℕ → Bool
      used = (finished s c).used

      same : (k : ℕ) → used_after entry from k ≡ used p k
      same = used-swept s c p entry from ready

      segments : segs ≡ segments_in_use (used p) (limit_of s p) s.sizes.seg
      segments = h.segments ∙ ap (λ found. 1 + unwrap_or found 0 / s.sizes.seg) (greatest_below-same (used p) (used_after entry from) (limit_of s p) same)

      below : (i : ℕ) → used p i ≡ true → i < committed
      below i is =
          subst (λ n. i < n * s.sizes.seg) (sym segments)
          (segments_in_use-past (used p) (limit_of s p) s.sizes.seg i one (finished-below s c p entry from ready some i is) is)

      kept-used : (i : ℕ) (cell : Cell) → swept s c p i ≡ Some cell → used p i ≡ true
      kept-used i cell is = or_right (i == 0) (is_some (swept s c p i)) (ap is_some is)

      later : (i : ℕ) (cell : Cell) → swept s c p i ≡ Some cell → 1 ≤ i
      later i cell is = elim (eqb_tells i 0) [
        | inl e ↦
            let word : entry i ≡ cell_word cell true = (ready.cells i cell is).1 in
            let zero_word : entry i ≡ 0 = ap entry e.1 ∙ ready.null in
            absurd (omega (arith, word, zero_word))
        | inr e ↦ omega (arith, e.1)
      ]

      within_limit : (i : ℕ) → i < committed → i < limit_of s p
      within_limit i less = omega (arith, less, h.within)

      -- the word at an index of a committed segment
      committed_word : (i : ℕ) → 1 ≤ i → i < committed →
          slice_index now (base + i) ≡ (if stays entry from i then entry i - 2 ^ 62 else free_word (next_free (used_after entry from) (i + 1) committed))
      committed_word i first less =
          h.entries i first (within_limit i less)
          ∙ cond-false (nat_le committed i) no_access_word (if stays entry from i then entry i - 2 ^ 62 else free_word (next_free (used_after entry from) (i + 1) committed)) (lt-leb committed i less)

      stands : (i : ℕ) (cell : Cell) → swept s c p i ≡ Some cell → slice_index now (base + i) ≡ cell_word cell false
      stands i cell is =
          committed_word i (later i cell is) (below i (kept-used i cell is))
          ∙ cond-true (stays entry from i) (entry i - 2 ^ 62) (free_word (next_free (used_after entry from) (i + 1) committed)) (stays-swept s c p entry from ready i ∙ ap is_some is)
          ∙ ap (λ w. w - 2 ^ 62) (ready.cells i cell is).1
          ∙ unmarked cell

      no_entry : (q : Space) (i number : ℕ) → entry_at (finished s c) q i ≡ Some number → ⊥
      no_entry External i number is = none-some number is
      no_entry Trusted i number is = none-some number is

      free : (i : ℕ) → 1 ≤ i → i < committed → used p i ≡ false → slice_index now (base + i) ≡ free_word (next_free (used p) (i + 1) committed)
      free i first less is =
          committed_word i first less
          ∙ cond-false (stays entry from i) (entry i - 2 ^ 62) (free_word (next_free (used_after entry from) (i + 1) committed)) (stays-swept s c p entry from ready i ∙ (or_parts (i == 0) (is_some (swept s c p i)) is).1)
          ∙ ap free_word (next_free-same (used p) (used_after entry from) (i + 1) committed (λ k later. same k))

      no_empty : (i : ℕ) → IsEmptyIndex (finished s c) p i → ⊥
      no_empty i is = elim (or_cases (i == 0) (is_some (swept s c p i)) is.used) [
        | inl first ↦ let e : i ≡ 0 = eqb-true i 0 first in omega (arith, e, is.later)
        | inr cell ↦ both_ways (is_some (swept s c p i)) (ap is_some is.no_cell) cell
      ]

      closed : (i : ℕ) → committed ≤ i → i < limit_of s p → slice_index now (base + i) ≡ no_access_word
      closed i past less =
          h.entries i (omega (arith, past, below 0 refl)) less
          ∙ cond-true (nat_le committed i) no_access_word (if stays entry from i then entry i - 2 ^ 62 else free_word (next_free (used_after entry from) (i + 1) committed)) (le-leb committed i past)
