-- The least free index below the area, by the freelist word of the external space: its head, where it is below the start,
-- and else none, since the start is at most the greatest used index and so in a committed segment.
use Rattle.std.proofs.Common.{◌≡◌, ◌⊎◌, ◌/◌, ◌%◌, ◌^◌, ◌<◌, ◌≤◌, ℕ, Bool, true, false, slice_index, Option, Some, None, IsTrue, refl, sym, ap, ◌∙◌, inl, inr, arith, lt-ltb, le-ltb}
use Rattle.std.specs.Prelude.{if◌then◌else◌, nat_lt, unwrap_or}
use Rattle.std.proofs.lemmas.Bool.Decides.{eqb_tells}
use Rattle.std.proofs.lemmas.Option.{same_Some}
use Rattle.plain_table.specs.declared.events.Space.TheVariants.{External}
use Rattle.plain_table.specs.Area.{greatest_below}
use Rattle.plain_table.specs.Cycle.{Cycle, start_in}
use Rattle.plain_table.specs.Table.{Table, limit_of, least_free}
use Rattle.plain_table.specs.Rows.{only_below}
use Rattle.plain_table.specs.Sound.{IsSound}
use Rattle.plain_table.specs.Words.{freelist_place, entry_place}
use Rattle.plain_table.proofs.AreaStarts.{greatest_below-member}
use Rattle.plain_table.proofs.CycleParts.{CycleSound-is}
use Rattle.word_laws.specs.WordLaws.{FreelistTells}
use Rattle.word_laws.specs.ReadLaws.{FreeBelowTells, FreeBelowRead}
use Rattle.word_laws.proofs.FreelistReads.{FreelistsTell-shown}

only_below-none : (start : ℕ) (found : Option ℕ) → ((i : ℕ) → found ≡ Some i → start ≤ i) → only_below start found ≡ None
only_below-none start None high = refl
only_below-none start (Some i) high = ap (λ (test : Bool). if test then Some i else None) (le-ltb i start (high i refl))

only_below-found : (start i : ℕ) → i < start → only_below start (Some i) ≡ Some i
only_below-found start i below = ap (λ (test : Bool). if test then Some i else None) (lt-ltb i start below)

-- the start is in a committed segment
start-committed : (s : Table) (c : Cycle) (start committed : ℕ) → IsSound s → s.cycle ≡ Some c → c.start ≡ Some start →
    ((i : ℕ) → IsTrue (s.used External i) → i < committed) → start < committed
start-committed s c start committed sound is begins used =
    let most = ((CycleSound-is s c sound is).area.segment start begins).2 in
    let below = used (unwrap_or (greatest_below (s.used External) (limit_of s External)) 0)
    (greatest_below-member (s.used External) (limit_of s External) (sound.used.first External)) in
    omega (arith, most, below)

chosen : (test : Bool) (n i : ℕ) → (if test then Some n else None) ≡ Some i → n ≡ i
chosen true n i is = same_Some n i is
chosen false n i is = absurd (cc)

module _ (s : Table) (start : ℕ) (entry : ℕ → ℕ) (head len committed : ℕ) (tells : FreelistTells s External entry head len committed) (inside : start < committed) where
  least-high : (len ≡ 0) ⊎ (start ≤ head) → (i : ℕ) → least_free s External ≡ Some i → start ≤ i
  least-high full i found = elim (eqb_tells len 0) [
    | inl none ↦
        let there : committed ≡ i = chosen (nat_lt committed (limit_of s External)) committed i (sym (tells.least none.1) ∙ found) in
        omega (arith, there, inside)
    | inr some ↦
        let there : head ≡ i = same_Some head i (sym (tells.some some.1).0 ∙ found) in
        elim full [ inl none ↦ absurd (some.1 none) | inr high ↦ omega (arith, there, high) ]
  ]

  FreeBelowTells-by : FreeBelowTells s start head len
  FreeBelowTells-by = record {
    none = λ full. only_below-none start (least_free s External) (least-high full);
    some = λ more below. ap (only_below start) (tells.some more).0 ∙ only_below-found start head below;
  }

pub FreeBelowRead-shown : FreeBelowRead
FreeBelowRead-shown words s start sound small shows begins = by_cycle s.cycle refl begins
  where
    by_cycle : (cycle : Option Cycle) → s.cycle ≡ cycle → start_in cycle ≡ Some start →
        FreeBelowTells s start (slice_index words (freelist_place External) % 2 ^ 32) (slice_index words (freelist_place External) / 2 ^ 32)
    by_cycle None is begins = absurd (cc)
    by_cycle (Some c) is begins =
        let tells = FreelistsTell-shown words s External (sound.used.first External) shows (omega (arith, small.few External)) in
        FreeBelowTells-by s start (λ i. slice_index words (entry_place s.sizes External i)) (slice_index words (freelist_place External) % 2 ^ 32)
        (slice_index words (freelist_place External) / 2 ^ 32) tells.0 tells.1
        (start-committed s c start tells.0 sound is begins tells.1.used)
