-- The words at the end of a phase: entries of segments that are not committed hold no access again. A freelist leads to
-- the first of them.
use Rattle.std.specs.Prelude.{◌≡◌, ◌⊎◌, ℕ, ◌+◌, ◌/◌, ◌%◌, ◌^◌, ◌<◌, ◌≤◌, List, length, slice_index}
use Rattle.plain_table.specs.declared.events.Space.{Space}
use Rattle.plain_table.specs.declared.events.Space.TheVariants.{External, Trusted}
use Rattle.plain_table.specs.Table.{Sizes, limit_in}
use Rattle.plain_table.specs.Words.{freelist_place, entry_place, no_access_word}
use Rattle.free_chain.specs.Chain.{chain_end}

-- what so many links from an index on lead to, over entries from a place on
abbrev pub walk : List ℕ → ℕ → ℕ → ℕ → ℕ
walk words first len head = chain_end (λ i. slice_index words (first + i)) head len

-- the index after the freelist of a space
abbrev pub end_in : List ℕ → Sizes → Space → ℕ
end_in words z p = walk words (entry_place z p 0) (slice_index words (freelist_place p) / 2 ^ 32) (slice_index words (freelist_place p) % 2 ^ 32)

-- the places from one on below another hold no access, and all else is as it was
pub record IsClosedFrom (words : List ℕ) (from to : ℕ) (later : List ℕ) : Type 0 where
  pub long : length later ≡ length words
  pub closed : (i : ℕ) → from ≤ i → i < to → slice_index later i ≡ no_access_word
  pub other : (i : ℕ) → (i < from) ⊎ (to ≤ i) → slice_index later i ≡ slice_index words i

-- in both spaces all entries after the freelist hold no access
pub record IsTableClosed (z : Sizes) (words later : List ℕ) : Type 0 where
  pub middle : List ℕ
  pub external : IsClosedFrom words (entry_place z External 0 + end_in words z External) (entry_place z External 0 + limit_in z External) middle
  pub trusted : IsClosedFrom middle (entry_place z Trusted 0 + end_in words z Trusted) (entry_place z Trusted 0 + limit_in z Trusted) later
