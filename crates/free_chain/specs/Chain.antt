-- The list of indexes that a freelist word and its links stand for, and what it is where they show a table: exactly the
-- free indexes of committed segments, ascending.
use Rattle.std.specs.Prelude.{◌≡◌, ℕ, zero, suc, ◌*◌, ◌/◌, ◌%◌, ◌^◌, ◌<◌, ◌≤◌, ◌↔◌, Bool, false, List, [], ◌∷◌, slice_index_or, Contains, All, IsTrue}
use Rattle.std.specs.List.Sorted.{IsStrictlyIncreasing}
use Rattle.plain_table.specs.declared.events.Space.{Space}
use Rattle.plain_table.specs.Table.{Table, limit_of}
use Rattle.plain_table.specs.Words.{free_word}
use Rattle.plain_table.specs.Shows.{SpaceShows}

-- the used indexes of a list of tests
abbrev pub is_used : List Bool → ℕ → Bool
is_used tests i = slice_index_or tests i false

-- the least index from `start` on that is not used, or the end where there is none
pub record IsNextFree (used : ℕ → Bool) (start end i : ℕ) : Type 0 where
  pub above : start ≤ i
  pub within : i ≤ end
  pub passed : (k : ℕ) → start ≤ k → k < i → IsTrue (used k)
  pub free : i < end → used i ≡ false

-- the index that a free entry links, by its word
abbrev pub link_of : ℕ → ℕ
link_of word = word % 2 ^ 32

-- as many indexes as the length says: the head, and then what each one's entry links
abbrev pub chain : (ℕ → ℕ) → ℕ → ℕ → List ℕ
chain entry head zero = []
chain entry head (suc len) = head ∷ chain entry (link_of (entry head)) len

-- what the last one's entry links; the head where there is none
abbrev pub chain_end : (ℕ → ℕ) → ℕ → ℕ → ℕ
chain_end entry head zero = head
chain_end entry head (suc len) = chain_end entry (link_of (entry head)) len

-- a free index of a committed segment
abbrev pub IsFreeBelow : (ℕ → Bool) → ℕ → ℕ → Type 0
IsFreeBelow used committed i = (1 ≤ i) × (i < committed) × (used i ≡ false)

-- the chain of a freelist word is the ascending list of the free indexes of committed segments, whose entries are free,
-- and it ends at the first index of the next segment
pub record IsFreelist (used : ℕ → Bool) (seg committed : ℕ) (entry : ℕ → ℕ) (head len : ℕ) : Type 0 where
  pub ascending : IsStrictlyIncreasing (chain entry head len)
  pub members : (i : ℕ) → Contains (chain entry head len) i ↔ IsFreeBelow used committed i
  pub entries : All (λ i. entry i ≡ free_word (link_of (entry i))) (chain entry head len)
  pub last : chain_end entry head len ≡ committed
  pub segments : (n : ℕ) × (committed ≡ n * seg)

-- so it is where words show a table
abbrev pub FreelistsAreChains : Type 0
FreelistsAreChains =
    (s : Table) (p : Space) (entry : ℕ → ℕ) (freelist committed : ℕ) → SpaceShows s p entry freelist committed →
    IsTrue (s.used p 0) → limit_of s p < 2 ^ 32 →
    IsFreelist (s.used p) s.sizes.seg committed entry (freelist % 2 ^ 32) (freelist / 2 ^ 32)
