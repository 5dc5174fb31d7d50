-- Segments: the entries of the next segment of a space are linked one by one, and one change of the freelist word commits
-- them all. None of this is an event. The words that show the table have no access in the segment until it is committed;
-- the present words are near them (`Near.antt` of the crate below), and both follow a commit.
use Rattle.std.specs.Prelude.{◌≡◌, ◌≢◌, ℕ, ◌+◌, ◌^◌, ◌<◌, ◌≤◌, List, length, slice_index, slice_set}
use Rattle.plain_table.specs.declared.events.Space.{Space}
use Rattle.plain_table.specs.Table.{Table, Sizes, limit_in, limit_of}
use Rattle.plain_table.specs.Words.{freelist_place, entry_place, words_in_all, free_word, no_access_word, freelist_word}
use Rattle.plain_table.specs.Near.{IsNear}
use Rattle.plain_table.specs.Shows.{Shows}
use Rattle.word_laws.specs.WordLaws.{HasSoundIndexes}

-- one word that is changed in both lists alike
abbrev pub ChangedWordsStayNear : Type 0
ChangedWordsStayNear =
    (sizes : Sizes) (words shown : List ℕ) (place w : ℕ) → IsNear sizes words shown →
    IsNear sizes (slice_set words place w) (slice_set shown place w)

-- linking an entry that has no access changes the present words alone
abbrev pub LinkedEntriesStayNear : Type 0
LinkedEntriesStayNear =
    (sizes : Sizes) (words shown : List ℕ) (p : Space) (i : ℕ) → IsNear sizes words shown → i < limit_in sizes p →
    slice_index shown (entry_place sizes p i) ≡ no_access_word →
    IsNear sizes (slice_set words (entry_place sizes p i) (free_word (i + 1))) shown

-- the segment from an index on is committed: the freelist has all its entries, each of them links the next index, and the
-- other words stay
pub record IsCommitted (sizes : Sizes) (p : Space) (head : ℕ) (words committed : List ℕ) : Type 0 where
  pub whole : length committed ≡ length words
  pub list : slice_index committed (freelist_place p) ≡ freelist_word head sizes.seg
  pub linked : (i : ℕ) → head ≤ i → i < head + sizes.seg → slice_index committed (entry_place sizes p i) ≡ free_word (i + 1)
  pub others : (place : ℕ) → place ≢ freelist_place p →
      ((i : ℕ) → head ≤ i → i < head + sizes.seg → place ≢ entry_place sizes p i) →
      slice_index committed place ≡ slice_index words place

-- where the segment fits, there are such words
abbrev pub SegmentsCanBeCommitted : Type 0
SegmentsCanBeCommitted =
    (sizes : Sizes) (words : List ℕ) (p : Space) (head : ℕ) → length words ≡ words_in_all sizes →
    head + sizes.seg ≤ limit_in sizes p → (committed : List ℕ) × IsCommitted sizes p head words committed

-- they show the same table, where the freelist was empty at that index
abbrev pub CommittedWordsFollow : Type 0
CommittedWordsFollow =
    (words committed : List ℕ) (s : Table) (p : Space) (head : ℕ) → HasSoundIndexes s → limit_of s p < 2 ^ 32 → Shows words s →
    slice_index words (freelist_place p) ≡ freelist_word head 0 → head < limit_of s p →
    IsCommitted s.sizes p head words committed → Shows committed s

-- and the present words, where all entries of the segment are linked, are near them after the change of the freelist word
abbrev pub CommittedWordsStayNear : Type 0
CommittedWordsStayNear =
    (sizes : Sizes) (words shown committed : List ℕ) (p : Space) (head : ℕ) → IsNear sizes words shown →
    head + sizes.seg ≤ limit_in sizes p → IsCommitted sizes p head shown committed →
    ((i : ℕ) → head ≤ i → i < head + sizes.seg → slice_index words (entry_place sizes p i) ≡ free_word (i + 1)) →
    IsNear sizes (slice_set words (freelist_place p) (freelist_word head sizes.seg)) committed
