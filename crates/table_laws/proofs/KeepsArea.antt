-- After each event the area of a cycle begins at a segment in use, from the second one on, only a cycle with an area is
-- aborted, and each evacuation entry stands below the area for a field of an old object, which counts as visited.
use Rattle.std.proofs.Common.{◌≡◌, ◌≢◌, ℕ, zero, suc, ◌+◌, ◌-◌, ◌*◌, ◌/◌, ◌<◌, ◌≤◌, ◌==◌, nat_lt, Bool, true, false, if◌then◌else◌, Option, Some, None, unwrap_or, IsTrue, IsSome, IsSomeAnd, IfSome, refl, ap, ◌∙◌, sym, subst, inl, inr, arith, le_refl, le_trans, true≢false, mul-le-mul_right, div-mul-le_self}
use Rattle.std.proofs.lemmas.Bool.Decides.{eqb_tells}
use Rattle.std.proofs.lemmas.Option.{IfSome_then}
use Rattle.plain_table.specs.declared.scripts.Policy.{Policy}
use Rattle.plain_table.specs.declared.events.Act.{Act}
use Rattle.plain_table.specs.declared.events.Act.TheVariants.{New, Drop, Get, Link, Take, Below, Abort, Bind, Name, Look, Evac, Start, Finish}
use Rattle.plain_table.specs.declared.events.Space.{Space}
use Rattle.plain_table.specs.declared.events.Space.TheVariants.{External}
use Rattle.plain_table.specs.declared.events.Field.TheVariants as field
use Rattle.plain_table.specs.Places.{object_of, put_at}
use Rattle.plain_table.specs.Area.{count_below, greatest_below, area_segments, area_start}
use Rattle.plain_table.specs.Cycle.{Cycle, IsOld, evacuated_in, aborted_in}
use Rattle.plain_table.specs.Table.{Table, limit_of, least_free}
use Rattle.plain_table.specs.Finish.{CanFinish, started}
use Rattle.plain_table.specs.Rows.{object_in, free_below, with_object, with_taken, with_bound, with_unbound, row}
use Rattle.plain_table.specs.Sound.{IsSound, CycleSound, AreaSound}
use Rattle.plain_table.proofs.PlaceReads.{read_at, put_at-same, put_at-grows, put_entry-grows}
use Rattle.plain_table.proofs.Options.{IsSomeAnd-some}
use Rattle.plain_table.proofs.AreaStarts.{area_segments-below, greatest_below-lt}
use Rattle.plain_table.proofs.CycleParts.{IfSome-and, IfSome-changed, IfSome-changed_by, IfSome-finished, IfSome-start, IfSome-empty}
use Rattle.plain_table.proofs.Branches.{if_either, with_linked_either}

-- the greatest number below a limit in a set, else 0: it is no greater than the limit, and only grows with the set
abbrev greatest : (ℕ → Bool) → ℕ → ℕ
greatest used n = unwrap_or (greatest_below used n) 0

unwrap_or-below : (n : ℕ) (found : Option ℕ) → ((m : ℕ) → found ≡ Some m → m < n) → unwrap_or found 0 ≤ n
unwrap_or-below n None h = omega arith
unwrap_or-below n (Some m) h = let less : m < n = h m refl in omega arith

greatest-below : (used : ℕ → Bool) (n : ℕ) → greatest used n ≤ n
greatest-below used n = unwrap_or-below n (greatest_below used n) (greatest_below-lt used n)

if-more : (n : ℕ) (old new : Bool) (first last : Option ℕ) → (IsTrue old → IsTrue new) → unwrap_or first 0 ≤ n → unwrap_or first 0 ≤ unwrap_or last 0 →
    unwrap_or (if old then Some n else first) 0 ≤ unwrap_or (if new then Some n else last) 0
if-more n true true first last grows below more = le_refl n
if-more n true false first last grows below more = absurd (true≢false (sym (grows refl)))
if-more n false true first last grows below more = below
if-more n false false first last grows below more = more

greatest-more : (used more : ℕ → Bool) → ((i : ℕ) → IsTrue (used i) → IsTrue (more i)) → (n : ℕ) → greatest used n ≤ greatest more n
greatest-more used more grows zero = le_refl 0
greatest-more used more grows (suc n) =
    if-more n (used n) (more n) (greatest_below used n) (greatest_below more n) (grows n) (greatest-below used n) (greatest-more used more grows n)

-- an area of so many of the last segments in use begins at a segment from the second one on, which is in use
segments-start : (top seg area i : ℕ) → 1 ≤ area → area < 1 + top / seg → (1 + top / seg - area) * seg ≡ i →
    ((n : ℕ) × (i ≡ n * seg)) × (seg ≤ i) × (i ≤ top)
segments-start top seg area i some below e =
    let last : (1 + top / seg - area) * seg ≤ top / seg * seg = mul-le-mul_right seg (omega arith) in
    let first : 1 * seg ≤ (1 + top / seg - area) * seg = mul-le-mul_right seg (omega arith) in
    let top_seg : top / seg * seg ≤ top = div-mul-le_self top seg in
    ((1 + top / seg - area, sym e), omega arith, omega arith)

if-segments : (top seg area i : ℕ) → area < 1 + top / seg → (if area == 0 then None else Some ((1 + top / seg - area) * seg)) ≡ Some i →
    ((n : ℕ) × (i ≡ n * seg)) × (seg ≤ i) × (i ≤ top)
if-segments top seg area i below e =
    elim (eqb_tells area 0) [
      | inl t ↦ let none : None ≡ Some i = sym (ap (λ (test : Bool). if test then None else Some ((1 + top / seg - area) * seg)) t.0) ∙ e in absurd (cc)
      | inr t ↦ let is : Some ((1 + top / seg - area) * seg) ≡ Some i =
          sym (ap (λ (test : Bool). if test then None else Some ((1 + top / seg - area) * seg)) t.0) ∙ e in
          let apart : area ≢ 0 = t.1 in segments-start top seg area i (omega arith) below (cc)
    ]

area_start-segment : (policy : Policy) (top seg used i : ℕ) → area_start policy (1 + top / seg) used seg ≡ Some i →
    ((n : ℕ) × (i ≡ n * seg)) × (seg ≤ i) × (i ≤ top)
area_start-segment policy top seg used i e =
    if-segments top seg (area_segments policy (1 + top / seg) used seg) i (area_segments-below policy (1 + top / seg) used seg (omega arith)) e

-- the area of a cycle, for a table
abbrev pub AreaIn : Table → Cycle → Type 0
AreaIn s c = AreaSound s.sizes.seg (greatest (s.used External) (limit_of s External)) c.start c.aborted c.evac c.visited (IsOld c)

AreaIn-same : (s : Table) (cycle : Option Cycle) → IfSome cycle (CycleSound s) → IfSome cycle (AreaIn s)
AreaIn-same s cycle h = IfSome_then cycle h (λ c d. d.area)

module _ (seg top : ℕ) (start : Option ℕ) (aborted : Bool) (evac : ℕ → Option ℕ) (visited : ℕ → Bool) (old : ℕ → Type 0) where
  AreaSound-used : (more : ℕ) → top ≤ more → AreaSound seg top start aborted evac visited old → AreaSound seg more start aborted evac visited old
  AreaSound-used more grows h = record {
    segment = λ i e. let is = h.segment i e in (is.0, is.1, le_trans is.2 grows);
    aborts = h.aborts;
    entries = h.entries;
    visits = h.visits;
  }

  AreaSound-aborted : IsSome start → AreaSound seg top start aborted evac visited old → AreaSound seg top start true evac visited old
  AreaSound-aborted is h = record {
    segment = h.segment;
    aborts = λ e. is;
    entries = h.entries;
    visits = h.visits;
  }

  AreaSound-evacuated : (i number : ℕ) → evac i ≡ None → IsSomeAnd start (λ first. i < first) → old (object_of (field.External number)) →
      AreaSound seg top start aborted evac visited old → AreaSound seg top start aborted (put_at evac i (Some number)) (put_at visited number true) old
  AreaSound-evacuated i number empty below is h = record {
    segment = h.segment;
    aborts = h.aborts;
    entries = λ j m e. elim (read_at (Some number) evac i j) [
      | inl r ↦ let same : number ≡ m = cc in (
        subst (λ (x : ℕ). IsSomeAnd start (λ first. x < first)) r.0 below,
        subst (λ (x : ℕ). old (object_of (field.External x))) same is,
        subst (λ (x : ℕ). IsTrue (put_at visited number true x)) same (put_at-same visited number true),
      )
      | inr r ↦ let was = h.entries j m (sym r.1 ∙ e) in (was.0, was.1, put_at-grows visited number m was.2)
    ];
    visits = λ m e. elim (read_at true visited number m) [
      | inl r ↦ (i, put_at-same evac i (Some number) ∙ ap Some r.0)
      | inr r ↦ let was = h.visits m (sym r.1 ∙ e) in (
        was.0,
        elim (read_at (Some number) evac i was.0) [
          | inl q ↦ let none : evac was.0 ≡ None = subst (λ (x : ℕ). evac x ≡ None) q.0 empty in let full : evac was.0 ≡ Some m = was.1 in absurd (cc)
          | inr q ↦ q.1 ∙ was.1
        ],
      )
    ];
  }

AreaIn-take : (s : Table) (b : ℕ) (p : Space) (found : Option ℕ) → IsSound s → IfSome (with_taken s b p found).cycle (AreaIn (with_taken s b p found))
AreaIn-take s b p None h = AreaIn-same s s.cycle h.cycle
AreaIn-take s b p (Some i) h =
    IfSome_then s.cycle h.cycle
    (λ c d. AreaSound-used s.sizes.seg (greatest (s.used External) (limit_of s External)) c.start c.aborted c.evac c.visited (IsOld c)
    (greatest ((with_taken s b p (Some i)).used External) (limit_of s External))
    (greatest-more (s.used External) ((with_taken s b p (Some i)).used External) (put_entry-grows s.used p i External) (limit_of s External)) d.area)

AreaIn-abort : (s : Table) → IsSound s → IfSome s.cycle (λ c. IsSomeAnd c.start (λ start. free_below s start ≡ None)) → IfSome (aborted_in s.cycle) (AreaIn s)
AreaIn-abort s h is =
    IfSome-changed_by (AreaIn s) s.cycle h.cycle is
    (λ c d may. AreaSound-aborted s.sizes.seg (greatest (s.used External) (limit_of s External)) c.start c.aborted c.evac c.visited (IsOld c)
    (IsSomeAnd-some c.start (λ start. free_below s start ≡ None) may) d.area)

-- what an evacuation entry finds in the cycle
record MayEvacuate (i number : ℕ) (c : Cycle) : Type 0 where
  empty : c.evac i ≡ None
  below : IsSomeAnd c.start (λ start. i < start)
  old : IsOld c (object_of (field.External number))

MayEvacuate-each : (cycle : Option Cycle) (i number : ℕ) → IfSome cycle (λ c. c.evac i ≡ None) → IfSome cycle (λ c. IsSomeAnd c.start (λ start. i < start)) →
    IfSome cycle (λ c. IsOld c (object_of (field.External number))) → IfSome cycle (MayEvacuate i number)
MayEvacuate-each None i number empty below old = tt
MayEvacuate-each (Some c) i number empty below old = record { empty = empty; below = below; old = old }

AreaIn-evac : (s : Table) (i number : ℕ) → IsSound s → IfSome s.cycle (MayEvacuate i number) → IfSome (evacuated_in s.cycle i number) (AreaIn s)
AreaIn-evac s i number h may =
    IfSome-changed_by (AreaIn s) s.cycle h.cycle may
    (λ c d k. AreaSound-evacuated s.sizes.seg (greatest (s.used External) (limit_of s External)) c.start c.aborted c.evac c.visited (IsOld c) i number
    k.empty k.below k.old d.area)

AreaIn-start : (s : Table) (policy : Policy) → IfSome (started s policy).cycle (AreaIn (started s policy))
AreaIn-start s policy = record {
  segment = λ i e. area_start-segment policy (greatest (s.used External) (limit_of s External)) s.sizes.seg
      (count_below (s.used External) (limit_of s External)) i e;
  aborts = λ e. absurd (cc);
  entries = λ i number e. absurd (cc);
  visits = λ number e. absurd (cc);
}

-- after any event
pub AreaIn-next : (s : Table) (b : ℕ) (a : Act) → IsSound s → (row s b a).allowed → IfSome (row s b a).next.cycle (AreaIn (row s b a).next)
AreaIn-next s b (New var) h k =
    if_either (λ t. IfSome t.cycle (AreaIn t)) (nat_lt s.count s.sizes.objects) (with_object s b var) s
    (IfSome-changed (AreaIn s) s.cycle h.cycle (λ c d. d.area)) (AreaIn-same s s.cycle h.cycle)
AreaIn-next s b (Drop var) h k = AreaIn-same s s.cycle h.cycle
AreaIn-next s b (Get var spot) h k = AreaIn-same s s.cycle h.cycle
AreaIn-next s b (Link spot var) h k =
    with_linked_either (λ t. IfSome t.cycle (AreaIn t)) s spot (object_in s b var)
    (λ g. AreaIn-same s s.cycle h.cycle) (λ object i. AreaIn-same s s.cycle h.cycle)
AreaIn-next s b (Take p) h k = AreaIn-take s b p (least_free s p) h
AreaIn-next s b (Below start) h k = AreaIn-take s b External (free_below s start) h
AreaIn-next s b Abort h k = AreaIn-abort s h (IfSome-start (λ start. free_below s start ≡ None) s.cycle k)
AreaIn-next s b (Bind f w) h k =
    if_either (λ t. IfSome t.cycle (AreaIn t)) (s.words f == 0) (with_bound s b f w) (with_unbound s b f w)
    (IfSome-changed (AreaIn s) s.cycle h.cycle (λ c d. d.area)) (AreaIn-same s s.cycle h.cycle)
AreaIn-next s b (Name f) h k = AreaIn-same s s.cycle h.cycle
AreaIn-next s b (Look p w first last) h k = AreaIn-same s s.cycle h.cycle
AreaIn-next s b (Evac i number) h k =
    AreaIn-evac s i number h (MayEvacuate-each s.cycle i number (IfSome-empty s.cycle i (h.used.claim_or_entry b i k.0))
    (IfSome-start (λ start. i < start) s.cycle k.1) (IfSome-and s.cycle k.2 (λ c d. d)))
AreaIn-next s b (Start policy) h k = AreaIn-start s policy
AreaIn-next s b Finish h k = IfSome-finished (CanFinish s) _ s s.cycle k.1
-- all others leave the area and its entries alone
AreaIn-next s b _ h k = IfSome-changed (AreaIn s) s.cycle h.cycle (λ c d. d.area)
