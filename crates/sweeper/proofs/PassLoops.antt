-- One index further down, in both loops of the last pass: over indexes that are not committed, and over those that are.
use Rattle.std.proofs.Common.{◌≡◌, ◌+◌, ◌-◌, ◌^◌, ◌<◌, ◌≤◌, ℕ, Bool, true, false, List, length, slice_index, slice_set, sym, ap, subst, ◌∙◌, inl, arith, le-leb}
use Rattle.std.specs.Prelude.{nat_lt, nat_le, ◌&&◌, if◌then◌else◌}
use Rattle.std.proofs.lemmas.Bool.{ltb-true, ltb-false, lt-leb}
use Rattle.plain_table.specs.Words.{free_word, no_access_word}
use Rattle.word_laws.specs.Kinds.{is_marked_word, is_cell_word, is_evacuation_word}
use Rattle.sweeper.specs.Pass.{entries_from, IsPassAt, IsTallyAt, IsCountedIn, IsFew, Tally}
use Rattle.sweeper.proofs.PassSteps.{written, IsPassAt-step, IsTallyAt-step, IsFew-step}

-- the word of an index that is committed, or not, and what is counted there
pub record IsIndexDone (now : List ℕ) (base from committed i : ℕ) (was tally : Tally) (within : Bool) (w : ℕ) : Type 0 where
  pub inside : nat_lt i committed ≡ within
  pub word : w ≡ (if within then (if nat_lt i from && is_marked_word (slice_index now (base + i)) then slice_index now (base + i) - 2 ^ 62 else free_word was.head) else no_access_word)
  pub counted : IsCountedIn was tally (nat_lt i from && is_marked_word (slice_index now (base + i))) (is_cell_word (slice_index now (base + i)))
      (nat_le from i && is_evacuation_word (slice_index now (base + i))) within i

module _ (old now : List ℕ) (base limit from committed n i : ℕ) (was tally : Tally) (within : Bool) (w : ℕ) (next : n ≡ i + 1) (later : 1 ≤ i) (below : i < limit) (inside : base + limit ≤ length old)
    (words : IsPassAt old now base limit from committed n) (before : IsTallyAt (entries_from old base) limit from committed n was) (done : IsIndexDone now base from committed i was tally within w) where
  is_written : w ≡ written from committed i (slice_index now (base + i)) was.head
  is_written = done.word ∙ by within done.inside
    where
      stay : ℕ
      stay = if nat_lt i from && is_marked_word (slice_index now (base + i)) then slice_index now (base + i) - 2 ^ 62 else free_word was.head

      by : (b : Bool) → nat_lt i committed ≡ b → (if b then stay else no_access_word) ≡ (if nat_le committed i then no_access_word else stay)
      by true is = ap (λ (c : Bool). if c then no_access_word else stay) (sym (lt-leb committed i (ltb-true i committed is)))
      by false is = ap (λ (c : Bool). if c then no_access_word else stay) (sym (le-leb committed i (ltb-false i committed is)))

  pub words-next : IsPassAt old (slice_set now (base + i) w) base limit from committed i
  words-next = IsPassAt-step old now base limit from committed n i was.head w next below inside before.first is_written words

  same : slice_index now (base + i) ≡ entries_from old base i
  same = words.rest (base + i) (inl (omega (arith, next)))

  pub tally-next : IsTallyAt (entries_from old base) limit from committed i tally
  tally-next =
      IsTallyAt-step (entries_from old base) limit from committed n i was tally next later
      (subst (λ (b : Bool). IsCountedIn was tally (nat_lt i from && is_marked_word (entries_from old base i)) (is_cell_word (entries_from old base i)) (nat_le from i && is_evacuation_word (entries_from old base i)) b i) (sym done.inside)
      (subst (λ v. IsCountedIn was tally (nat_lt i from && is_marked_word v) (is_cell_word v) (nat_le from i && is_evacuation_word v) within i) same done.counted)) before

  pub few-next : IsFew limit n was → IsFew limit i tally
  few-next few = IsFew-step limit n i was tally _ _ _ _ next done.counted few
