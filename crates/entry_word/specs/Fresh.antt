-- What the parts of a fresh image hold, for the private functions that make it.
use Rattle.std.specs.Prelude.{◌≡◌, ◌≢◌, ◌⊎◌, ℕ, ◌+◌, ◌<◌, ◌≤◌, ◌==◌, nat_lt, if◌then◌else◌, List, length, slice_index}
use Rattle.plain_table.specs.declared.events.Space.TheVariants.{External, Trusted}
use Rattle.plain_table.specs.Table.{Sizes, limit_in}
use Rattle.plain_table.specs.Words.{freelist_place, header_place, words_in_all}
use Rattle.plain_table.specs.Shows.{IsFreshSpace}
use Rattle.entry_word.specs.declared.Entry.{Entry}
use Rattle.entry_word.specs.declared.Entry.TheVariants.{Null, NoAccess, Free}
use Rattle.entry_word.specs.Entry.{entry_word}

-- the entry at an index of a space of which no index is taken, and whose first segment alone is committed
abbrev pub fresh_entry : ℕ → ℕ → Entry
fresh_entry index seg = if index == 0 then Null else (if nat_lt index seg then Free (index + 1) else NoAccess)

-- the words of such a space stand at `base`, and all others are as before
pub record HasFreshEntries (old new : List ℕ) (base limit seg : ℕ) : Type 0 where
  pub long : length new ≡ length old
  pub entries : (i : ℕ) → i < limit → slice_index new (base + i) ≡ entry_word (fresh_entry i seg)
  pub rest : (place : ℕ) → (place < base) ⊎ (base + limit ≤ place) → slice_index new place ≡ slice_index old place

-- the words of a fresh image
pub record AreFreshWords (words : List ℕ) (sizes : Sizes) : Type 0 where
  pub whole : length words ≡ words_in_all sizes
  pub zeros : (i : ℕ) → i < header_place sizes.objects → i ≢ freelist_place External → i ≢ freelist_place Trusted → slice_index words i ≡ 0
  pub external : IsFreshSpace sizes External (limit_in sizes External) words
  pub trusted : IsFreshSpace sizes Trusted (limit_in sizes Trusted) words
