-- The words of one space after a commit: where they are as they were, and where the segment that begins at the end of the
-- committed ones, which are all used, is added as free entries.
use Rattle.std.proofs.Common.{◌≡◌, ◌+◌, ◌-◌, ◌<◌, ◌≤◌, ℕ, zero, suc, Bool, false, not, nat_lt, unwrap_or, IsTrue, sym, ap, ap₂, ◌∙◌, inl, inr, arith, lt-ltb, le-ltb}
use Rattle.std.specs.Prelude.{if◌then◌else◌}
use Rattle.std.proofs.lemmas.Bool.{cases_lt, cases_Bool, both_ways}
use Rattle.plain_table.specs.declared.events.Space.{Space}
use Rattle.plain_table.specs.Area.{count_below}
use Rattle.plain_table.specs.Table.{Table, limit_of}
use Rattle.plain_table.specs.Words.{free_word, freelist_word, next_free}
use Rattle.plain_table.specs.Shows.{entry_at, SpaceShows}
use Rattle.plain_table.proofs.LeastFree.{least_from-found, least_from-free, least_from-end}
use Rattle.word_laws.specs.WordLaws.{HasSoundIndexes}
use Rattle.word_laws.proofs.WordChanges.{AreWithin, AreWithin-HasSoundIndexes}

-- the indexes below the head are used, and no others
module _ (used : ℕ → Bool) (head : ℕ) (all : (j : ℕ) → j < head → IsTrue (used j)) (only : (j : ℕ) → IsTrue (used j) → j < head) where
  unused : (j : ℕ) → head ≤ j → used j ≡ false
  unused j from = elim (cases_Bool (used j)) [
    | inl is ↦ absurd (let below = only j is in omega (arith, below, from))
    | inr free ↦ free
  ]

  tells : (j : ℕ) → used j ≡ nat_lt j head
  tells j = elim (cases_lt j head) [
    | inl less ↦ all j less ∙ sym (lt-ltb j head less)
    | inr from ↦ unused j from ∙ sym (le-ltb j head from)
  ]

  abbrev one_if : Bool → ℕ
  one_if test = if test then 1 else 0

  -- the free ones below an end
  pub count_below-from : (n : ℕ) → count_below (λ i. not (used i)) n ≡ n - head
  count_below-from zero = omega arith
  count_below-from (suc n) = elim (cases_lt n head) [
    | inl less ↦
        let here : one_if (not (used n)) ≡ 0 = ap (λ (b : Bool). one_if (not b)) (all n less) in
        omega (arith, count_below-from n, here, less)
    | inr from ↦
        let here : one_if (not (used n)) ≡ 1 = ap (λ (b : Bool). one_if (not b)) (unused n from) in
        omega (arith, count_below-from n, here, from)
  ]

  -- and the next one of each
  pub next_free-first : (end : ℕ) → 1 ≤ head → head < end → next_free used 1 end ≡ head
  next_free-first end some less =
      ap (λ o. unwrap_or o end) (least_from-found used head 1 (end - 1) tells some (omega (arith, less)))

  pub next_free-from : (end i : ℕ) → head ≤ i → i < end → next_free used (i + 1) end ≡ i + 1
  next_free-from end i from below = elim (cases_lt (i + 1) end) [
    | inl less ↦ ap (λ o. unwrap_or o end) (least_from-free used (i + 1) end less (unused (i + 1) (omega (arith, from))))
    | inr past ↦ ap (λ o. unwrap_or o end) (least_from-end used (i + 1) end past) ∙ omega (arith, below, past)
  ]

module _ (s : Table) (p : Space) (sound : HasSoundIndexes s) (entry now : ℕ → ℕ) where
  inside : AreWithin s.sizes s.used s.cells (entry_at s)
  inside = AreWithin-HasSoundIndexes s sound

  -- words that are as they were
  pub SpaceShows-same : (list list_now committed : ℕ) → ((j : ℕ) → j < limit_of s p → now j ≡ entry j) → list_now ≡ list →
      SpaceShows s p entry list committed → SpaceShows s p now list_now committed
  SpaceShows-same list list_now committed same list_same shows = record {
    segments = shows.segments;
    within = shows.within;
    used = shows.used;
    null = same 0 (sound.below p 0 (sound.first p)) ∙ shows.null;
    cells = λ i cell is.
        let found = shows.cells i cell is in
        (found.0, same i (inside.below p i (inside.filled p i cell is).0) ∙ found.1, found.2);
    evacuated = λ i number is. same i (inside.below p i (inside.entries p i number is).0) ∙ shows.evacuated i number is;
    free = λ i from below free. same i (omega (arith, below, shows.within)) ∙ shows.free i from below free;
    empty = λ i is. let found = shows.empty i is in (found.0, found.1, same i (inside.below p i is.used) ∙ found.2);
    closed = λ i from below. same i below ∙ shows.closed i from below;
    list = list_same ∙ shows.list;
  }

  -- the segment from the head on is added
  module _ (head : ℕ) (some : 1 ≤ head) (more : 1 ≤ s.sizes.seg) (room : head + s.sizes.seg ≤ limit_of s p)
      (all : (j : ℕ) → j < head → IsTrue (s.used p j)) (as_was : (j : ℕ) → j < head → now j ≡ entry j)
      (past : (j : ℕ) → head + s.sizes.seg ≤ j → j < limit_of s p → now j ≡ entry j)
      (linked : (i : ℕ) → head ≤ i → i < head + s.sizes.seg → now i ≡ free_word (i + 1)) where
    pub SpaceShows-grown : (list : ℕ) → SpaceShows s p entry list head → SpaceShows s p now (freelist_word head s.sizes.seg) (head + s.sizes.seg)
    SpaceShows-grown list shows = record {
      segments = (suc shows.segments.0, omega (arith, shows.segments.1));
      within = room;
      used = λ i is. let below = shows.used i is in omega (arith, below);
      null = as_was 0 some ∙ shows.null;
      cells = λ i cell is.
          let found = shows.cells i cell is in
          (found.0, as_was i (shows.used i (inside.filled p i cell is).0) ∙ found.1, found.2);
      evacuated = λ i number is. as_was i (shows.used i (inside.entries p i number is).0) ∙ shows.evacuated i number is;
      free = λ i from below free. elim (cases_lt i head) [
        | inl less ↦ absurd (both_ways (s.used p i) free (all i less))
        | inr since ↦ linked i since below ∙ ap free_word (sym (next_free-from (s.used p) head all shows.used (head + s.sizes.seg) i since below))
      ];
      empty = λ i is. let found = shows.empty i is in (found.0, found.1, as_was i (shows.used i is.used) ∙ found.2);
      closed = λ i from below. past i from below ∙ shows.closed i (omega (arith, from)) below;
      list = ap₂ freelist_word
          (sym (next_free-first (s.used p) head all shows.used (head + s.sizes.seg) some (omega (arith, more))))
          (omega (arith, count_below-from (s.used p) head all shows.used (head + s.sizes.seg)));
    }
