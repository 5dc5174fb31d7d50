-- Laws of the finish: it can't be refused once each reachable object was scanned or is born in the cycle, a target is the
-- greatest of its entries, after it each index holds the cell whose place it is, and cells of the area move to their
-- targets.
use Rattle.std.proofs.Common.{◌≡◌, ℕ, ◌<◌, ◌≤◌, ◌==◌, Bool, true, false, Option, Some, None, refl, sym, ◌∙◌, ap, subst, inl, inr, arith, leb-false, eq-eqb}
use Rattle.std.specs.Prelude.{if◌then◌else◌, is_some, IsTrue}
use Rattle.std.specs.Option.{option_map_or}
use Rattle.std.proofs.lemmas.Bool.{cases_Bool, cases_lt, both_ways, cond-true, or_left, or_right}
use Rattle.std.proofs.lemmas.Option.{same_Some}
use Rattle.plain_table.specs.declared.events.Space.TheVariants.{External, Trusted}
use Rattle.plain_table.specs.declared.events.Field.{Field}
use Rattle.plain_table.specs.declared.events.Field.TheVariants as field
use Rattle.plain_table.specs.Index.{index_of}
use Rattle.plain_table.specs.Places.{space_of, object_of}
use Rattle.plain_table.specs.Cycle.{Cycle, is_from, moves_from}
use Rattle.plain_table.specs.Table.{Table}
use Rattle.plain_table.specs.Finish.{IsKept, is_entry_for, target, place, swept}
use Rattle.plain_table.specs.Rows.{IsPlaced}
use Rattle.plain_table.specs.Sound.{IsSound}
use Rattle.table_laws.specs.Laws.{CellsMoveToTheirTarget, CellsStandAtTheirPlace, FinishesCannotBeRefused, IsEntryFor, TargetsAreTheGreatest}
use Rattle.plain_table.proofs.Options.{IsSome-value, IsSomeAnd-is}
use Rattle.plain_table.proofs.CycleParts.{CycleSound-is}
use Rattle.table_laws.proofs.FinishMoves.{named, is_from-some, place-inside, place-outside, target-some, place-is, place-source, place-target, target-is, swept-from, swept-place}

-- the start of the area is where the cells move from
moves_from-start : (aborted : Bool) (start : Option ℕ) (first : ℕ) → (if aborted then None else start) ≡ Some first → start ≡ Some first
moves_from-start true start first is = absurd (cc)
moves_from-start false start first is = is

-- a bound field that is safe has a kept cell
module _ (s : Table) (c : Cycle) (h : IsSound s) (is : s.cycle ≡ Some c) where
  IsKept-inside : (number : ℕ) → c.marks External (named s.words number) ≡ true → IsTrue (c.visited number) →
      is_from (moves_from c) (named s.words number) ≡ true → IsKept c s.words External (named s.words number)
  IsKept-inside number marked visited from =
      let area = (CycleSound-is s c h is).area in
      let entry = area.visits number visited in
      let below = area.entries entry.0 number entry.1 in
      let first = is_from-some (moves_from c) (named s.words number) from in
      ap is_some (place-inside c s.words (named s.words number) from)
      ∙ target-some c s.words first.0 number (named s.words number) entry.0 first.1 first.2 marked
      (IsSomeAnd-is c.start (λ start. entry.0 < start) first.0 (moves_from-start c.aborted c.start first.0 first.1) below.0) entry.1 refl

  IsKept-safe : (f : Field) → c.marks (space_of f) (index_of (s.words f)) ≡ true → IsPlaced c f (index_of (s.words f)) →
      IsKept c s.words (space_of f) (index_of (s.words f))
  IsKept-safe (field.External number) marked placed = elim (cases_Bool (is_from (moves_from c) (named s.words number))) [
    | inl from ↦ elim placed [
      | inl outside ↦ absurd (both_ways (is_from (moves_from c) (named s.words number)) outside from)
      | inr visited ↦ IsKept-inside number marked visited from
    ]
    | inr outside ↦
        ap is_some (place-outside c s.words (named s.words number) outside
        ∙ cond-true (c.marks External (named s.words number)) (Some (named s.words number)) None marked)
  ]
  IsKept-safe (field.Trusted o) marked placed =
      ap is_some (cond-true (c.marks Trusted (index_of (s.words (field.Trusted o)))) (Some (index_of (s.words (field.Trusted o)))) None marked)

pub CanFinish-scanned : FinishesCannotBeRefused
CanFinish-scanned s c h is seen = record {
  scanned = λ o reach. elim (seen o reach) [
    | inl scanned ↦ or_left (c.scans o) (c.born o) scanned
    | inr born ↦ or_right (c.scans o) (c.born o) born
  ];
  kept = λ f id bound reach.
      let safe = (CycleSound-is s c h is).bound.safe f (seen (object_of f) reach) (ap is_some bound) in
      (h.fields.own f id reach bound, IsKept-safe s c h is f safe.0 safe.1);
}

-- a place is below the start, where the cells of the area move
place-below : (s : Table) (c : Cycle) (start : ℕ) → moves_from c ≡ Some start → (i e : ℕ) → place c s.words External i ≡ Some e → e < start
place-below s c start moves i e at = elim (place-is c s.words External i e at) [
  | inl stays ↦
      let outside : is_from (Some start) i ≡ false = subst (λ (o : Option ℕ). is_from o i ≡ false) moves (stays.outside refl) in
      let below : i < start = leb-false start i outside in
      omega (arith, stays.same)
  | inr goes ↦
      let t = target-is c s.words i e goes.to in
      let same : t.start ≡ start = same_Some t.start start (sym t.moves ∙ moves) in
      omega (arith, t.below)
]

-- the target of an index is the greatest of the entries for it
module _ (c : Cycle) (words : Field → ℕ) where
  IsEntryFor-target : (i e : ℕ) → target c words i ≡ Some e → IsEntryFor c words i e
  IsEntryFor-target i e is = let t = target-is c words i e is in record {
    area = (t.start, t.moves, t.above, t.below);
    marked = t.marked;
    entry = (t.number, t.entry, t.names);
  }

  IsEntryFor-le : (i e d : ℕ) → target c words i ≡ Some e → IsEntryFor c words i d → d ≤ e
  IsEntryFor-le i e d is for =
      let t = target-is c words i e is in
      let same : for.area.0 ≡ t.start = same_Some for.area.0 t.start (sym for.area.1 ∙ t.moves) in
      let member : is_entry_for c.evac words i d ≡ true =
      ap (λ (o : Option ℕ). option_map_or (λ number. named words number == i) o false) for.entry.1
      ∙ eq-eqb (named words for.entry.0) i for.entry.2 in
      elim (cases_lt e d) [
        | inl over ↦ absurd (both_ways (is_entry_for c.evac words i d) (t.greatest d over (omega (arith, same, for.area.3))) member)
        | inr within ↦ within
      ]

pub targets-greatest : TargetsAreTheGreatest
targets-greatest c words i e = (
  λ is. (IsEntryFor-target c words i e is, λ d for. IsEntryFor-le c words i e d is for),
  λ (for : IsEntryFor c words i e × ((d : ℕ) → IsEntryFor c words i d → d ≤ e)).
      let some = target-some c words for.0.area.0 for.0.entry.0 i e for.0.area.1 for.0.area.2 for.0.marked for.0.area.3 for.0.entry.1 for.0.entry.2 in
      let found = IsSome-value (target c words i) some in
      let over : found.0 ≤ e = for.1 found.0 (IsEntryFor-target c words i found.0 found.1) in
      let under : e ≤ found.0 = IsEntryFor-le c words i found.0 e found.1 for.0 in
      let same : found.0 ≡ e = omega (arith, over, under) in
      found.1 ∙ ap Some same,
)

pub cells-placed : CellsStandAtTheirPlace
cells-placed s c p h is = (
  λ e cell. (
    λ stands. let came = swept-from s c p e cell stands in (came.index, came.place_is, came.cell_is),
    λ (from : (i : ℕ) × (place c s.words p i ≡ Some e) × (s.cells p i ≡ Some cell)). swept-place s c h is p from.0 e from.1 ∙ from.2,
  ),
  λ i j e at also. same_Some i j (sym (place-source s c h is p i e at) ∙ place-source s c h is p j e also),
)

pub cells-moved : CellsMoveToTheirTarget
cells-moved s c start h is can moves = (
  λ e some.
      let found = IsSome-value (swept s c External e) some in
      let came = swept-from s c External e found.0 found.1 in
      place-below s c start moves came.index e came.place_is,
  λ i e to. swept-place s c h is External i e (place-target c s.words i e to),
)
