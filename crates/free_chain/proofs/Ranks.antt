-- Moves raise the rank, so that no freelist word comes twice; and the take of the head of a shown table is a move.
use Rattle.std.proofs.Common.{◌≡◌, ◌+◌, ◌-◌, ◌/◌, ◌%◌, ◌^◌, ◌<◌, ◌≤◌, ℕ, zero, suc, not, List, length, slice_index, sym, ap, subst, inl, inr, arith}
use Rattle.std.proofs.lemmas.Bool.{not_from_true}
use Rattle.std.proofs.lemmas.Bool.Decides.{nat_tests}
use Rattle.plain_table.specs.Area.{count_below}
use Rattle.plain_table.specs.Words.{free_word, next_free}
use Rattle.free_chain.specs.Chain.{IsNextFree}
use Rattle.free_chain.specs.Rank.{AreMoves, HeadsAreTaken, IsCommitted, IsTaken, WordsComeOnce, rank}
use Rattle.free_chain.proofs.NextFree.{IsNextFree-next_free}
use Rattle.free_chain.proofs.Freelists.{head-below, one_if}

rank-taken : (old new : ℕ) → IsTaken old new → rank old < rank new
rank-taken old new is = grind (arith, nat_tests, is.shorter, is.greater)

rank-committed : (old new : ℕ) → IsCommitted old new → rank old < rank new
rank-committed old new is = grind (arith, nat_tests, is.empty, is.filled, is.same)

rank-move : (words : List ℕ) (i : ℕ) → AreMoves words → i + 1 < length words → rank (slice_index words i) < rank (slice_index words (i + 1))
rank-move words i moves below = elim (moves i below) [
  | inl taken ↦ rank-taken (slice_index words i) (slice_index words (i + 1)) taken
  | inr committed ↦ rank-committed (slice_index words i) (slice_index words (i + 1)) committed
]

rank-later : (words : List ℕ) (i n : ℕ) → AreMoves words → i + n + 1 < length words → rank (slice_index words i) < rank (slice_index words (i + n + 1))
rank-later words i zero moves below =
    let same : i + 1 ≡ i + 0 + 1 = omega arith in
    subst (λ (k : ℕ). rank (slice_index words i) < rank (slice_index words k)) same (rank-move words i moves (omega (arith, below)))
rank-later words i (suc n) moves below =
    let same : i + n + 1 + 1 ≡ i + suc n + 1 = omega arith in
    let last : rank (slice_index words (i + n + 1)) < rank (slice_index words (i + n + 1 + 1)) =
    rank-move words (i + n + 1) moves (omega (arith, below)) in
    let before : rank (slice_index words i) < rank (slice_index words (i + n + 1)) = rank-later words i n moves (omega (arith, below)) in
    subst (λ (k : ℕ). rank (slice_index words i) < rank (slice_index words k)) same (omega (arith, before, last))

pub WordsComeOnce-by_rank : WordsComeOnce
WordsComeOnce-by_rank words i j moves less below is =
    let same : i + (j - (i + 1)) + 1 ≡ j = omega (arith, less) in
    let rises : rank (slice_index words i) < rank (slice_index words j) =
    subst (λ (k : ℕ). rank (slice_index words i) < rank (slice_index words k)) same
    (rank-later words i (j - (i + 1)) moves (omega (arith, same, below))) in
    omega (arith, rises, ap rank is)

-- the head of a list that is not empty links a greater index
pub IsTaken-shown : HeadsAreTaken
IsTaken-shown s p entry freelist committed next len shows first few some links =
    let later : 1 ≤ committed = omega (arith, shows.used 0 first) in
    let least : IsNextFree (s.used p) 1 committed (next_free (s.used p) 1 committed) = IsNextFree-next_free (s.used p) 1 committed later in
    let head : freelist % 2 ^ 32 ≡ next_free (s.used p) 1 committed = omega (arith, shows.list, least.within, shows.within, few) in
    let count : freelist / 2 ^ 32 ≡ count_below (λ i. not (s.used p i)) committed = omega (arith, shows.list, least.within, shows.within, few) in
    let zeroth : one_if (not (s.used p 0)) ≡ 0 = ap one_if (not_from_true (s.used p 0) first) in
    let is : IsNextFree (s.used p) 1 committed (freelist % 2 ^ 32) = subst (IsNextFree (s.used p) 1 committed) (sym head) least in
    let below : freelist % 2 ^ 32 < committed =
    head-below (s.used p) committed entry shows.free (omega (arith, shows.within, few)) 1 (freelist % 2 ^ 32) len later is (omega (arith, some, count, zeroth)) in
    let after : IsNextFree (s.used p) (freelist % 2 ^ 32 + 1) committed (next_free (s.used p) (freelist % 2 ^ 32 + 1) committed) =
    IsNextFree-next_free (s.used p) (freelist % 2 ^ 32 + 1) committed (omega (arith, below)) in
    let free : entry (freelist % 2 ^ 32) ≡ free_word (next_free (s.used p) (freelist % 2 ^ 32 + 1) committed) =
    shows.free (freelist % 2 ^ 32) is.above below (is.free below) in
    let same : next ≡ next_free (s.used p) (freelist % 2 ^ 32 + 1) committed = omega (arith, links, free) in
    record {
      shorter = omega (arith, some, same, after.within, shows.within, few);
      greater = omega (arith, same, after.above, after.within, shows.within, few);
    }
