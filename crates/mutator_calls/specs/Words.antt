-- What the private functions over words leave: a take from a freelist, and what a look reads, for each sound table that the
-- words show.
use Rattle.std.specs.Prelude.{◌≡◌, ◌≢◌, ℕ, ◌<◌, List, length, slice_index, Option}
use Rattle.plain_table.specs.declared.events.Space.{Space}
use Rattle.plain_table.specs.declared.reports.Reply.{Reply}
use Rattle.plain_table.specs.Table.{Table, Sizes, least_free}
use Rattle.plain_table.specs.Words.{freelist_place, header_place}
use Rattle.plain_table.specs.Rows.{look, with_taken}
use Rattle.plain_table.specs.Sound.{IsSound}
use Rattle.plain_table.specs.Shows.{Shows}

-- the words show the sound table, which has these sizes
pub record IsShownAs (words : List ℕ) (sizes : Sizes) (s : Table) : Type 0 where
  pub sound : IsSound s
  pub same : s.sizes ≡ sizes
  pub shows : Shows words s

abbrev pub IsShownBySome : List ℕ → Sizes → Type 0
IsShownBySome words sizes = (s : Table) × IsShownAs words sizes s

-- the index that a take of mutator 0 finds, and the words after it; of the words before the entries only the freelist word
-- changes
pub record IsTaken (old now : List ℕ) (p : Space) (found : Option ℕ) (s : Table) : Type 0 where
  pub found_is : found ≡ least_free s p
  pub shows : Shows now (with_taken s 0 p (least_free s p))

pub record TakesIndex (old now : List ℕ) (sizes : Sizes) (p : Space) (found : Option ℕ) : Type 0 where
  pub long : length now ≡ length old
  pub tables : (s : Table) → IsShownAs old sizes s → IsTaken old now p found s
  pub rest : (place : ℕ) → place < header_place sizes.objects → place ≢ freelist_place p → slice_index now place ≡ slice_index old place

-- a look at the entry that a word names, under a range of tags
abbrev pub LooksAt : List ℕ → Sizes → Space → ℕ → ℕ → ℕ → Reply → Type 0
LooksAt words sizes p word first last said = (s : Table) → IsShownAs words sizes s → said ≡ look s p word first last
