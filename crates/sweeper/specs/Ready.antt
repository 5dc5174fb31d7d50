-- What the entry words of a space have to tell before the last pass, so that they show the finished table after it.
use Rattle.std.specs.Prelude.{◌≡◌, ℕ, ◌+◌, ◌*◌, ◌<◌, ◌≤◌, ◌≢◌, ◌⊎◌, false, true, List, length, slice_index, Some, None}
use Rattle.plain_table.specs.declared.events.Cell.{Cell}
use Rattle.plain_table.specs.declared.events.Space.{Space}
use Rattle.plain_table.specs.Area.{count_below, segments_in_use}
use Rattle.plain_table.specs.Cycle.{Cycle}
use Rattle.plain_table.specs.Table.{Table}
use Rattle.plain_table.specs.Finish.{swept}
use Rattle.plain_table.specs.Words.{cell_word, freelist_word, next_free}
use Rattle.sweeper.specs.Pass.{Tally, stays, used_after, free_after, freed_after, moved_after, word_after, entries_from}

-- each cell after the finish stands at its place, marked and below `from`, and nothing else would stay
pub record IsReady (s : Table) (c : Cycle) (p : Space) (entry : ℕ → ℕ) (from : ℕ) : Type 0 where
  pub cells : (i : ℕ) (cell : Cell) → swept s c p i ≡ Some cell → (i < from) × (entry i ≡ cell_word cell true)
  pub others : (i : ℕ) → swept s c p i ≡ None → stays entry from i ≡ false
  pub null : entry 0 ≡ 0

-- what stands in a space after its sweep, and what the sweep tally
pub record IsSpaceAfter (old now : List ℕ) (base limit from seg list segs : ℕ) (tally : Tally) : Type 0 where
  pub null : slice_index now base ≡ 0
  pub entries : (k : ℕ) → 1 ≤ k → k < limit → slice_index now (base + k) ≡ word_after (entries_from old base) from (segs * seg) k
  pub at_list : slice_index now list ≡ freelist_word (next_free (used_after (entries_from old base) from) 1 (segs * seg)) (count_below (free_after (entries_from old base) from) (segs * seg))
  pub segments : segs ≡ segments_in_use (used_after (entries_from old base) from) limit seg
  pub within : segs * seg ≤ limit
  pub stayed : tally.kept ≡ count_below (stays (entries_from old base) from) limit
  pub gone : tally.freed ≡ count_below (freed_after (entries_from old base) from) limit
  pub forwarded : tally.moved ≡ count_below (moved_after (entries_from old base) from) limit

-- a space is swept: all other words are as before
pub record IsSpaceSwept (old now : List ℕ) (base limit from seg list segs : ℕ) (tally : Tally) : Type 0 where
  pub long : length now ≡ length old
  pub after : IsSpaceAfter old now base limit from seg list segs tally
  pub rest : (place : ℕ) → place ≢ list → (place < base) ⊎ (base + limit ≤ place) → slice_index now place ≡ slice_index old place
