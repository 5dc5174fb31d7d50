-- What a take finds: the least free index, and none just where none is free.
use Rattle.std.proofs.Common.{◌≡◌, ◌-◌, ◌≤◌, ℕ, Option, Some, None, refl, ◌∙◌, ap, arith, inl, inr}
use Rattle.std.proofs.lemmas.Bool.{cases_lt, both_ways}
use Rattle.plain_table.specs.declared.events.Space.{Space}
use Rattle.plain_table.specs.Table.{Table, limit_of, least_free}
use Rattle.table_laws.specs.Laws.{IsFree, TakesFindTheLeast}
use Rattle.plain_table.proofs.FreeReads.{least_free-some}
use Rattle.plain_table.proofs.FreeLists.{least_from-all, least_from-before}

IsFree-least : (s : Table) (p : Space) (i : ℕ) → least_free s p ≡ Some i → IsFree s p i
IsFree-least s p i is = let found = least_free-some s p i is in (omega (arith, found.1), found.2, found.0)

-- no free index is below the one that is found, and none is free where none is found
IsFree-over : (s : Table) (p : Space) (i : ℕ) → least_free s p ≡ Some i → (j : ℕ) → IsFree s p j → i ≤ j
IsFree-over s p i is j free = elim (cases_lt j i) [
  | inl less ↦ absurd (both_ways (s.used p j) free.2 (least_from-before (s.used p) 1 (limit_of s p - 1) i is j free.0 less))
  | inr over ↦ over
]

IsFree-none : (s : Table) (p : Space) → least_free s p ≡ None → (j : ℕ) → IsFree s p j → ⊥
IsFree-none s p none j free =
    both_ways (s.used p j) free.2 (least_from-all (s.used p) 1 (limit_of s p - 1) none j free.0 (omega (arith, free.0, free.1)))

found-least : (s : Table) (p : Space) (i : ℕ) (found : Option ℕ) → least_free s p ≡ found → IsFree s p i →
    ((j : ℕ) → IsFree s p j → i ≤ j) → least_free s p ≡ Some i
found-least s p i None is free least = absurd (IsFree-none s p is i free)
found-least s p i (Some k) is free least =
    let over : i ≤ k = least k (IsFree-least s p k is) in
    let under : k ≤ i = IsFree-over s p k is i free in
    let same : k ≡ i = omega (arith, over, under) in
    is ∙ ap Some same

found-none : (s : Table) (p : Space) (found : Option ℕ) → least_free s p ≡ found → ((i : ℕ) → IsFree s p i → ⊥) → least_free s p ≡ None
found-none s p None is none = is
found-none s p (Some i) is none = absurd (none i (IsFree-least s p i is))

pub takes-least : TakesFindTheLeast
takes-least s p = (
  λ i. (
    λ is. (IsFree-least s p i is, IsFree-over s p i is),
    λ least. found-least s p i (least_free s p) refl least.0 least.1,
  ),
  (IsFree-none s p, found-none s p (least_free s p) refl),
)
