-- Where the cells of a finish go, in parts: what it says that an index has a target, a place or a source, and that what
-- stands at an index after the finish stood at just the index whose place it is.
use Rattle.std.proofs.Common.{◌≡◌, ◌≢◌, ◌⊎◌, ℕ, ◌<◌, ◌≤◌, ◌==◌, Bool, true, false, ◌&&◌, Option, Some, None, refl, sym, ◌∙◌, ap, subst, inl, inr, leb-true, le-leb, lt-ltb, eqb-true, eq-eqb}
use Rattle.std.specs.Prelude.{if◌then◌else◌, is_some, unwrap_or, nat_lt, IsTrue, IsSome}
use Rattle.std.specs.Option.{option_map, option_map_or, option_and_then}
use Rattle.std.proofs.lemmas.Bool.{and_parts, and_from, and_left, cond-true, cond-false, both_ways, false_from_ne_true, lt-leb}
use Rattle.std.proofs.lemmas.Option.{cond_some, option_and_then_some, same_Some}
use Rattle.plain_table.specs.declared.events.Cell.{Cell}
use Rattle.plain_table.specs.declared.events.Space.{Space}
use Rattle.plain_table.specs.declared.events.Space.TheVariants.{External, Trusted}
use Rattle.plain_table.specs.declared.events.Field.{Field}
use Rattle.plain_table.specs.declared.events.Field.TheVariants as field
use Rattle.plain_table.specs.Index.{index_of}
use Rattle.plain_table.specs.Area.{greatest_below}
use Rattle.plain_table.specs.Cycle.{Cycle, is_from, moves_from}
use Rattle.plain_table.specs.Table.{Table, limit_of}
use Rattle.plain_table.specs.Finish.{is_entry_for, target, place, is_at, evacuee_of, evacuee, source, swept, finished, id_at}
use Rattle.plain_table.specs.Sound.{IsSound, entries_in}
use Rattle.plain_table.proofs.Options.{option_map-some}
use Rattle.plain_table.proofs.CycleParts.{CycleSound-is}
use Rattle.plain_table.proofs.AreaStarts.{greatest_below-is, greatest_below-some}

-- an index is at or above a start that there is
pub is_from-some : (first : Option ℕ) (i : ℕ) → is_from first i ≡ true → (start : ℕ) × (first ≡ Some start) × (start ≤ i)
is_from-some None i is = absurd (cc)
is_from-some (Some start) i is = (start, refl, leb-true start i is)

-- an option tested, and an option that holds a number
map_or-true : (test : ℕ → Bool) (found : Option ℕ) → option_map_or test found false ≡ true → (n : ℕ) × (found ≡ Some n) × (test n ≡ true)
map_or-true test None is = absurd (cc)
map_or-true test (Some n) is = (n, refl, is)

pub is_at-true : (found : Option ℕ) (e : ℕ) → is_at found e ≡ true → found ≡ Some e
is_at-true None e is = absurd (cc)
is_at-true (Some i) e is = ap Some (eqb-true i e is)

pub is_at-some : (found : Option ℕ) (e : ℕ) → found ≡ Some e → is_at found e ≡ true
is_at-some found e is = ap (λ (o : Option ℕ). is_at o e) is ∙ eq-eqb e e refl

-- the index that the word of an external field names
abbrev pub named : (Field → ℕ) → ℕ → ℕ
named words number = index_of (words (field.External number))

-- a target is below the start of the area, and is the greatest evacuation entry of a field whose word names the index;
-- the index is in the area and marked
pub record IsTarget (c : Cycle) (words : Field → ℕ) (i e : ℕ) : Type 0 where
  pub start : ℕ
  pub number : ℕ
  pub moves : moves_from c ≡ Some start
  pub from : is_from (moves_from c) i ≡ true
  pub above : start ≤ i
  pub below : e < start
  pub marked : c.marks External i ≡ true
  pub entry : c.evac e ≡ Some number
  pub names : index_of (words (field.External number)) ≡ i
  pub greatest : (d : ℕ) → e < d → d < start → is_entry_for c.evac words i d ≡ false

if-some : {A : Type 0} (test : Bool) (found : Option A) (e : A) → (if test then found else None) ≡ Some e → (test ≡ true) × (found ≡ Some e)
if-some true found e is = (refl, is)
if-some false found e is = absurd (cc)

module _ (c : Cycle) (words : Field → ℕ) where
  pub target-is : (i e : ℕ) → target c words i ≡ Some e → IsTarget c words i e
  target-is i e is =
      let tested = if-some (is_from (moves_from c) i && c.marks External i) (greatest_below (is_entry_for c.evac words i) (unwrap_or (moves_from c) 0)) e is in
      let both = and_parts (is_from (moves_from c) i) (c.marks External i) tested.0 in
      let first = is_from-some (moves_from c) i both.0 in
      let found = greatest_below-is (is_entry_for c.evac words i) first.0 e
      (subst (λ (o : Option ℕ). greatest_below (is_entry_for c.evac words i) (unwrap_or o 0) ≡ Some e) first.1 tested.1) in
      let held = map_or-true (λ number. named words number == i) (c.evac e) found.member in
      record {
        start = first.0;
        number = held.0;
        moves = first.1;
        from = both.0;
        above = first.2;
        below = found.below;
        marked = both.1;
        entry = held.1;
        names = eqb-true (named words held.0) i held.2;
        greatest = found.greatest;
      }

  -- an index with a target is the one that the field of the target's entry names
  pub target-names : (i e number : ℕ) → c.evac e ≡ Some number → target c words i ≡ Some e → i ≡ named words number
  target-names i e number there to =
      let t = target-is i e to in
      let same : t.number ≡ number = same_Some t.number number (sym t.entry ∙ there) in
      sym t.names ∙ ap (named words) same

  -- an index outside the area has none
  pub target-outside : (i : ℕ) → is_from (moves_from c) i ≡ false → target c words i ≡ None
  target-outside i from =
      cond-false (is_from (moves_from c) i && c.marks External i) (greatest_below (is_entry_for c.evac words i) (unwrap_or (moves_from c) 0)) None
      (and_left (is_from (moves_from c) i) (c.marks External i) from)

  -- a marked index of the area has a target, where a field whose word names it has an evacuation entry
  pub target-some : (start number i e : ℕ) → moves_from c ≡ Some start → start ≤ i → c.marks External i ≡ true → e < start →
      c.evac e ≡ Some number → named words number ≡ i → IsSome (target c words i)
  target-some start number i e moves above marked below entry names =
      let from : is_from (moves_from c) i ≡ true = ap (λ (o : Option ℕ). is_from o i) moves ∙ le-leb start i above in
      let member : is_entry_for c.evac words i e ≡ true =
      ap (λ (o : Option ℕ). option_map_or (λ number. named words number == i) o false) entry
      ∙ eq-eqb (named words number) i names in
      let found : IsSome (greatest_below (is_entry_for c.evac words i) (unwrap_or (moves_from c) 0)) =
      subst (λ (o : Option ℕ). IsSome (greatest_below (is_entry_for c.evac words i) (unwrap_or o 0))) (sym moves)
      (greatest_below-some (is_entry_for c.evac words i) start e below member) in
      ap is_some
      (cond-true (is_from (moves_from c) i && c.marks External i) (greatest_below (is_entry_for c.evac words i) (unwrap_or (moves_from c) 0)) None
      (and_from (is_from (moves_from c) i) (c.marks External i) from marked))
      ∙ found

-- where a cell goes: a marked one outside the area stays, and one of the area goes to its target
pub record Stays (c : Cycle) (p : Space) (i e : ℕ) : Type 0 where
  pub same : i ≡ e
  pub marked : c.marks p i ≡ true
  pub outside : p ≡ External → is_from (moves_from c) i ≡ false

pub record Moves (c : Cycle) (words : Field → ℕ) (p : Space) (i e : ℕ) : Type 0 where
  pub external : p ≡ External
  pub to : target c words i ≡ Some e

choice : (test : Bool) (x : ℕ) (rest : Option ℕ) (i : ℕ) → (if test then Some x else rest) ≡ Some i → ((test ≡ true) × (x ≡ i)) ⊎ (rest ≡ Some i)
choice true x rest i is = inl (refl, (cc))
choice false x rest i is = inr is

module _ (c : Cycle) (words : Field → ℕ) where
  place-by : (i e : ℕ) (test : Bool) → is_from (moves_from c) i ≡ test →
      (if test then target c words i else (if c.marks External i then Some i else None)) ≡ Some e → Stays c External i e ⊎ Moves c words External i e
  place-by i e true from is = inr (record { external = refl; to = is })
  place-by i e false from is =
      let kept = cond_some (c.marks External i) i e is in
      inl (record { same = kept.1; marked = kept.0; outside = λ external. from })

  pub place-is : (p : Space) (i e : ℕ) → place c words p i ≡ Some e → Stays c p i e ⊎ Moves c words p i e
  place-is External i e is = place-by i e (is_from (moves_from c) i) refl is
  place-is Trusted i e is =
      let kept = cond_some (c.marks Trusted i) i e is in
      inl (record { same = kept.1; marked = kept.0; outside = λ external. absurd (cc) })

  pub place-marked : (p : Space) (i e : ℕ) → place c words p i ≡ Some e → c.marks p i ≡ true
  place-marked p i e is = elim (place-is p i e is) [
    | inl stays ↦ stays.marked
    | inr moves ↦ subst (λ (q : Space). c.marks q i ≡ true) (sym moves.external) (target-is c words i e moves.to).marked
  ]

  pub place-target : (i e : ℕ) → target c words i ≡ Some e → place c words External i ≡ Some e
  place-target i e is =
      cond-true (is_from (moves_from c) i) (target c words i) (if c.marks External i then Some i else None) (target-is c words i e is).from ∙ is

  pub place-outside : (i : ℕ) → is_from (moves_from c) i ≡ false → place c words External i ≡ (if c.marks External i then Some i else None)
  place-outside i from = cond-false (is_from (moves_from c) i) (target c words i) (if c.marks External i then Some i else None) from

  pub place-inside : (i : ℕ) → is_from (moves_from c) i ≡ true → place c words External i ≡ target c words i
  place-inside i from = cond-true (is_from (moves_from c) i) (target c words i) (if c.marks External i then Some i else None) from

  -- the index that moves to an evacuation entry is the one whose target it is
  evacuee-target : (e i : ℕ) → evacuee c words e ≡ Some i → target c words i ≡ Some e
  evacuee-target e i is =
      option_and_then_some (evacuee_of c words e) (c.evac e) i is
      (λ number there found.
      let moves = cond_some (is_at (target c words (named words number)) e) (named words number) i found in
      subst (λ (k : ℕ). target c words k ≡ Some e) moves.1 (is_at-true (target c words (named words number)) e moves.0))

  target-evacuee : (i e : ℕ) → target c words i ≡ Some e → evacuee c words e ≡ Some i
  target-evacuee i e is =
      let t = target-is c words i e is in
      let there : is_at (target c words (named words t.number)) e ≡ true =
      is_at-some (target c words (named words t.number)) e (subst (λ (k : ℕ). target c words k ≡ Some e) (sym t.names) is) in
      ap (option_and_then (evacuee_of c words e)) t.entry
      ∙ cond-true (is_at (target c words (named words t.number)) e) (Some (named words t.number)) None there
      ∙ ap Some t.names

  -- what comes to stand at e stood at an index whose place e is
  pub source-place : (p : Space) (e i : ℕ) → source c words p e ≡ Some i → place c words p i ≡ Some e
  source-place External e i is =
      elim (choice (is_at (place c words External e) e) e (evacuee c words e) i is) [
        | inl stays ↦ subst (λ (k : ℕ). place c words External k ≡ Some e) stays.1 (is_at-true (place c words External e) e stays.0)
        | inr moves ↦ place-target i e (evacuee-target e i moves)
      ]
  source-place Trusted e i is =
      elim (choice (is_at (place c words Trusted e) e) e None i is) [
        | inl stays ↦ subst (λ (k : ℕ). place c words Trusted k ≡ Some e) stays.1 (is_at-true (place c words Trusted e) e stays.0)
        | inr none ↦ absurd (cc)
      ]

  -- a cell that stays is the source of its own index
  source-stays : (p : Space) (e : ℕ) → place c words p e ≡ Some e → source c words p e ≡ Some e
  source-stays External e is =
      cond-true (is_at (place c words External e) e) (Some e) (evacuee c words e) (is_at-some (place c words External e) e is)
  source-stays Trusted e is = cond-true (is_at (place c words Trusted e) e) (Some e) None (is_at-some (place c words Trusted e) e is)

  source-moves : (e i : ℕ) → c.marks External e ≡ false → is_from (moves_from c) e ≡ false → target c words i ≡ Some e → source c words External e ≡ Some i
  source-moves e i unmarked outside is =
      let none : place c words External e ≡ None = place-outside e outside ∙ cond-false (c.marks External e) (Some e) None unmarked in
      cond-false (is_at (place c words External e) e) (Some e) (evacuee c words e) (ap (λ (o : Option ℕ). is_at o e) none)
      ∙ target-evacuee i e is

-- in a sound table: a place is a used index other than 0, and just one index has it
module _ (s : Table) (c : Cycle) (h : IsSound s) (is : s.cycle ≡ Some c) where
  entry-is : (e number : ℕ) → c.evac e ≡ Some number → IsSome (entries_in s.cycle e)
  entry-is e number there = ap is_some (ap (λ (o : Option Cycle). entries_in o e) is ∙ there)

  pub place-used : (p : Space) (i e : ℕ) → place c s.words p i ≡ Some e → IsTrue (s.used p e) × (e ≢ 0)
  place-used p i e at = elim (place-is c s.words p i e at) [
    | inl stays ↦ h.used.cells p e ((CycleSound-is s c h is).marks.cells p e (subst (λ (k : ℕ). IsTrue (c.marks p k)) stays.same stays.marked))
    | inr moves ↦
        let t = target-is c s.words i e moves.to in
        let there = h.used.entries e (entry-is e t.number t.entry) in
        subst (λ (q : Space). IsTrue (s.used q e) × (e ≢ 0)) (sym moves.external) (there.0, there.1)
  ]

  -- no evacuation entry is marked, since no cell stands there
  marks-entry : (e number : ℕ) → c.evac e ≡ Some number → c.marks External e ≡ false
  marks-entry e number there =
      let none : id_at s External e ≡ None = (h.used.entries e (entry-is e number there)).2 in
      false_from_ne_true (c.marks External e)
      (λ marked. both_ways (is_some (id_at s External e)) (ap is_some none) ((CycleSound-is s c h is).marks.cells External e marked))

  pub place-source : (p : Space) (i e : ℕ) → place c s.words p i ≡ Some e → source c s.words p e ≡ Some i
  place-source p i e at = elim (place-is c s.words p i e at) [
    | inl stays ↦
        subst (λ (k : ℕ). source c s.words p e ≡ Some k) (sym stays.same)
        (source-stays c s.words p e (subst (λ (k : ℕ). place c s.words p k ≡ Some e) stays.same at))
    | inr moves ↦
        let t = target-is c s.words i e moves.to in
        let outside : is_from (moves_from c) e ≡ false =
        ap (λ (o : Option ℕ). is_from o e) t.moves ∙ lt-leb t.start e t.below in
        subst (λ (q : Space). source c s.words q e ≡ Some i) (sym moves.external)
        (source-moves c s.words e i (marks-entry e t.number t.entry) outside moves.to)
  ]

  pub swept-place : (p : Space) (i e : ℕ) → place c s.words p i ≡ Some e → swept s c p e ≡ s.cells p i
  swept-place p i e at =
      cond-true (nat_lt e (limit_of s p)) (option_and_then (s.cells p) (source c s.words p e)) None
      (lt-ltb e (limit_of s p) (h.used.below p e (place-used p i e at).0))
      ∙ ap (option_and_then (s.cells p)) (place-source p i e at)

-- a cell that stands at e after the finish stood at an index whose place e is
pub record CameFrom (s : Table) (c : Cycle) (p : Space) (e : ℕ) (cell : Cell) : Type 0 where
  pub index : ℕ
  pub place_is : place c s.words p index ≡ Some e
  pub cell_is : s.cells p index ≡ Some cell

pub swept-from : (s : Table) (c : Cycle) (p : Space) (e : ℕ) (cell : Cell) → swept s c p e ≡ Some cell → CameFrom s c p e cell
swept-from s c p e cell is =
    option_and_then_some (s.cells p) (source c s.words p e) cell
    (if-some (nat_lt e (limit_of s p)) (option_and_then (s.cells p) (source c s.words p e)) cell is).1
    (λ i source_is cell_is. record { index = i; place_is = source-place c s.words p e i source_is; cell_is = cell_is })

-- an id after the finish is that of an index whose place it is
pub id_at-finished : (s : Table) (c : Cycle) (p : Space) (e n : ℕ) → id_at (finished s c) p e ≡ Some n →
    (i : ℕ) × (place c s.words p i ≡ Some e) × (id_at s p i ≡ Some n)
id_at-finished s c p e n is =
    let cell = option_map-some (λ (cell : Cell). cell.id) (swept s c p e) n is in
    let came = swept-from s c p e cell.0 cell.1 in
    (came.index, came.place_is, ap (option_map (λ (cell : Cell). cell.id)) came.cell_is ∙ ap Some cell.2)
