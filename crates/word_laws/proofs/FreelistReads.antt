-- Reading a freelist word: its head is the least free index, or its length is 0, its head is the end of the committed
-- segments, and each committed index is used.
use Rattle.std.proofs.Common.{◌≡◌, ◌≢◌, ◌-◌, ◌/◌, ◌%◌, ◌^◌, ◌<◌, ◌≤◌, ℕ, zero, suc, Bool, true, not, slice_index, Option, Some, None, unwrap_or, IsTrue, refl, sym, ap, ap₂, ◌∙◌, inl, inr, arith, lt-ltb, le-ltb}
use Rattle.std.specs.Prelude.{if◌then◌else◌, nat_lt}
use Rattle.std.proofs.lemmas.Bool.{cases_lt, cases_Bool, not_from_true, not_from_false}
use Rattle.plain_table.specs.declared.events.Space.{Space}
use Rattle.plain_table.specs.Area.{count_below}
use Rattle.plain_table.specs.Table.{Table, limit_of, least_from, least_free}
use Rattle.plain_table.specs.Words.{freelist_place, entry_place, freelist_word, next_free}
use Rattle.plain_table.specs.Shows.{entry_at}
use Rattle.word_laws.specs.WordLaws.{FreelistTells, FreelistsTell}
use Rattle.plain_table.proofs.SegmentEnds.{segment-fits}
use Rattle.plain_table.proofs.LeastFree.{least_from-found, least_from-none}
use Rattle.plain_table.proofs.FreeReads.{least_from-some}
use Rattle.plain_table.proofs.FreeLists.{least_from-all, least_from-more, count_below-none, count_below-some}
use Rattle.word_laws.proofs.ShownParts.{IsMarkIn, SpaceIs, ShownParts-Shows}

-- a freelist word of indexes below `committed`, which fit 32 bits
module _ (used : ℕ → Bool) (limit committed word : ℕ) (list : word ≡ freelist_word (next_free used 1 committed) (count_below (λ i. not (used i)) committed)) (within : committed ≤ limit) (few : limit < 2 ^ 32) where
  -- an empty one
  pub list-none : IsTrue (used 0) → least_from used 1 (committed - 1) ≡ None →
      (word / 2 ^ 32 ≡ 0) × ((k : ℕ) → k < committed → used k ≡ true) × (word % 2 ^ 32 ≡ committed)
  list-none first none =
      let all : (k : ℕ) → k < committed → used k ≡ true = each in
      let count : count_below (λ i. not (used i)) committed ≡ 0 =
      count_below-none (λ i. not (used i)) committed (λ k below. not_from_true (used k) (all k below)) in
      let head : next_free used 1 committed ≡ committed = ap (λ found. unwrap_or found committed) none in
      let whole : word ≡ freelist_word committed 0 = list ∙ ap₂ freelist_word head count in
      (omega (arith, whole, within, few), all, omega (arith, whole, within, few))
    where
      each : (k : ℕ) → k < committed → used k ≡ true
      each zero below = first
      each (suc k) below = least_from-all used 1 (committed - 1) none (suc k) (omega arith) (omega (arith, below))

  -- one with a head
  pub list-some : (k : ℕ) → least_from used 1 (committed - 1) ≡ Some k →
      (word % 2 ^ 32 ≡ k) × (word / 2 ^ 32 ≡ count_below (λ i. not (used i)) committed) × (count_below (λ i. not (used i)) committed ≢ 0)
      × (k < committed) × (least_from used 1 (limit - 1) ≡ Some k)
  list-some k is =
      let found = least_from-some used 1 (committed - 1) k is in
      let below : k < committed = omega (arith, found.1, found.2) in
      let head : next_free used 1 committed ≡ k = ap (λ o. unwrap_or o committed) is in
      let whole : word ≡ freelist_word k (count_below (λ i. not (used i)) committed) = list ∙ ap (λ h. freelist_word h (count_below (λ i. not (used i)) committed)) head in (
        omega (arith, whole, below, within, few),
        omega (arith, whole, below, within, few),
        count_below-some (λ i. not (used i)) committed k below (not_from_false (used k) found.0),
        below,
        least_from-more used 1 (committed - 1) (limit - 1) k is (omega (arith, within)),
      )

-- where all committed indexes are used and no others, the least free one is the first that is not committed
least_free-committed : (used : ℕ → Bool) (limit committed : ℕ) → 1 ≤ committed → committed ≤ limit →
    ((k : ℕ) → k < committed → used k ≡ true) → ((k : ℕ) → IsTrue (used k) → k < committed) →
    least_from used 1 (limit - 1) ≡ (if nat_lt committed limit then Some committed else None)
least_free-committed used limit committed some within all only = elim (cases_lt committed limit) [
  | inl less ↦
      least_from-found used committed 1 (limit - 1) tells some (omega (arith, less))
      ∙ sym (ap (λ (test : Bool). if test then Some committed else None) (lt-ltb committed limit less))
  | inr more ↦
      least_from-none used committed 1 (limit - 1) tells (omega (arith, more, some))
      ∙ sym (ap (λ (test : Bool). if test then Some committed else None) (le-ltb committed limit more))
]
  where
    tells : (j : ℕ) → used j ≡ nat_lt j committed
    tells j = elim (cases_lt j committed) [
      | inl less ↦ all j less ∙ sym (lt-ltb j committed less)
      | inr more ↦ elim (cases_Bool (used j)) [
        | inl t ↦ absurd (past (only j t) more)
        | inr t ↦ t ∙ sym (le-ltb j committed more)
      ]
    ]
      where
        past : j < committed → committed ≤ j → ⊥
        past less more = omega (arith, less, more)

module _ (s : Table) (p : Space) (entry : ℕ → ℕ) (word committed : ℕ) (first : IsTrue (s.used p 0)) (few : limit_of s p < 2 ^ 32)
    (is : SpaceIs s.sizes.seg (limit_of s p) (s.used p) (s.cells p) (entry_at s p) (IsMarkIn s.cycle p) entry word committed) where
  FreelistTells-by : (found : Option ℕ) → least_from (s.used p) 1 (committed - 1) ≡ found → FreelistTells s p entry (word % 2 ^ 32) (word / 2 ^ 32) committed
  FreelistTells-by None found =
      let known = list-none (s.used p) (limit_of s p) committed word is.list is.within few first found in
      record {
        segments = is.segments;
        within = is.within;
        used = is.taken;
        none = λ zero. known.1;
        end = λ zero. known.2;
        least = λ zero. least_free-committed (s.used p) (limit_of s p) committed (omega (arith, is.taken 0 first)) is.within known.1 is.taken;
        some = λ more. absurd (more known.0);
        links = is.free;
        closed = is.closed;
        room = segment-fits s.sizes p committed is.segments.0 is.segments.1;
      }
  FreelistTells-by (Some k) found =
      let known = list-some (s.used p) (limit_of s p) committed word is.list is.within few k found in
      record {
        segments = is.segments;
        within = is.within;
        used = is.taken;
        none = λ zero. absurd (known.2 (sym known.1 ∙ zero));
        end = λ zero. absurd (known.2 (sym known.1 ∙ zero));
        least = λ zero. absurd (known.2 (sym known.1 ∙ zero));
        some = λ more. (known.4 ∙ ap Some (sym known.0), omega (arith, known.0, known.3));
        links = is.free;
        closed = is.closed;
        room = segment-fits s.sizes p committed is.segments.0 is.segments.1;
      }

pub FreelistsTell-shown : FreelistsTell
FreelistsTell-shown words s p h shows few =
    let space = (ShownParts-Shows words s shows).entries.spaces p in (
      space.0,
      FreelistTells-by s p (λ i. slice_index words (entry_place s.sizes p i)) (slice_index words (freelist_place p)) space.0 h few space.1
          (least_from (s.used p) 1 (space.0 - 1)) refl,
    )

-- an empty list whose head is not below the limit leaves no free index
pub FreelistTells-full : (s : Table) (p : Space) (entry : ℕ → ℕ) (head len committed : ℕ) → FreelistTells s p entry head len committed →
    len ≡ 0 → limit_of s p ≤ head → least_free s p ≡ None
FreelistTells-full s p entry head len committed tells none past =
    tells.least none
    ∙ ap (λ (test : Bool). if test then Some committed else None)
    (le-ltb committed (limit_of s p) (let end = tells.end none in omega (arith, end, past)))
