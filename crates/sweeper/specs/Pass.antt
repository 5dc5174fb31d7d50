-- The last pass of a sweep over the entry words of one space: marked entries below `from` stay, without the mark, and
-- all others become free ones of the ascending freelist, or have no access after the committed segments. It is said over
-- words alone.
use Rattle.std.specs.Prelude.{◌≡◌, ◌⊎◌, ℕ, ◌+◌, ◌-◌, ◌^◌, ◌<◌, ◌≤◌, ◌==◌, nat_le, nat_lt, Bool, not, ◌&&◌, ◌||◌, if◌then◌else◌, List, length, slice_index, unwrap_or}
use Rattle.plain_table.specs.Area.{count_below, greatest_below}
use Rattle.plain_table.specs.Words.{free_word, no_access_word, next_free}
use Rattle.word_laws.specs.Kinds.{is_cell_word, is_evacuation_word, is_marked_word}
use Rattle.sweeper.specs.Bits.{bit}

-- what stays in the last pass, and what is used after it
abbrev pub stays : (ℕ → ℕ) → ℕ → ℕ → Bool
stays entry from i = nat_lt i from && is_marked_word (entry i)

abbrev pub used_after : (ℕ → ℕ) → ℕ → ℕ → Bool
used_after entry from i = i == 0 || stays entry from i

abbrev pub free_after : (ℕ → ℕ) → ℕ → ℕ → Bool
free_after entry from i = not (used_after entry from i)

abbrev pub freed_after : (ℕ → ℕ) → ℕ → ℕ → Bool
freed_after entry from i = is_cell_word (entry i) && not (stays entry from i)

abbrev pub moved_after : (ℕ → ℕ) → ℕ → ℕ → Bool
moved_after entry from i = nat_le from i && is_evacuation_word (entry i)

-- the word at an index other than 0 after the pass
abbrev pub word_after : (ℕ → ℕ) → ℕ → ℕ → ℕ → ℕ
word_after entry from committed i =
    if nat_le committed i then no_access_word
    else (if stays entry from i then entry i - 2 ^ 62 else free_word (next_free (used_after entry from) (i + 1) committed))

-- the entry words of a space in a list, from a place on
abbrev pub entries_from : List ℕ → ℕ → ℕ → ℕ
entries_from words base i = slice_index words (base + i)

-- the pass at an index i: from there on it is done, and all else is as before
pub record IsPassAt (old now : List ℕ) (base limit from committed i : ℕ) : Type 0 where
  pub long : length now ≡ length old
  pub done : (k : ℕ) → i ≤ k → k < limit → slice_index now (base + k) ≡ word_after (entries_from old base) from committed k
  pub rest : (place : ℕ) → (place < base + i) ⊎ (base + limit ≤ place) → slice_index now place ≡ slice_index old place

-- what a pass tells: the freelist after it, and how many cells it kept and freed and how many had moved
pub record Tally : Type 0 where
  pub head : ℕ
  pub len : ℕ
  pub kept : ℕ
  pub freed : ℕ
  pub moved : ℕ

-- a count over all indexes, of which those from i on are counted
abbrev pub IsCounted : (ℕ → Bool) → ℕ → ℕ → ℕ → Type 0
IsCounted set limit i n = n + count_below set i ≡ count_below set limit

-- what it tells of the indexes from i on
pub record IsTallyAt (entry : ℕ → ℕ) (limit from committed i : ℕ) (tally : Tally) : Type 0 where
  pub first : tally.head ≡ next_free (used_after entry from) i committed
  pub many : i ≤ committed → IsCounted (free_after entry from) committed i tally.len
  pub none : committed ≤ i → tally.len ≡ 0
  pub stayed : IsCounted (stays entry from) limit i tally.kept
  pub gone : IsCounted (freed_after entry from) limit i tally.freed
  pub forwarded : IsCounted (moved_after entry from) limit i tally.moved

-- one index more, where it stays or not, its word is a cell's or a forwarding one, and it is committed or not
abbrev pub one_if : Bool → ℕ
one_if test = if test then 1 else 0

pub record IsCountedIn (was now : Tally) (stay cell moved committed : Bool) (index : ℕ) : Type 0 where
  pub first : now.head ≡ (if committed && not stay then index else was.head)
  pub many : now.len ≡ was.len + one_if (committed && not stay)
  pub stayed : now.kept ≡ was.kept + one_if stay
  pub gone : now.freed ≡ was.freed + one_if (cell && not stay)
  pub forwarded : now.moved ≡ was.moved + one_if moved

-- the numbers stay small
pub record IsFew (limit i : ℕ) (tally : Tally) : Type 0 where
  pub len_few : tally.len + i ≤ limit
  pub kept_few : tally.kept + i ≤ limit
  pub freed_few : tally.freed + i ≤ limit
  pub moved_few : tally.moved + i ≤ limit

abbrev pub greatest_after : (ℕ → ℕ) → ℕ → ℕ → ℕ
greatest_after entry from limit = unwrap_or (greatest_below (used_after entry from) limit) 0

-- the marking bit of an entry below `from` tells whether it is marked
abbrev pub MarksTell : (ℕ → ℕ) → (from limit : ℕ) → Type 0
MarksTell entry from limit = (k : ℕ) → k < from → k < limit → bit (entry k) 62 ≡ is_marked_word (entry k)
