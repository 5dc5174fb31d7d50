-- A finish keeps soundness, group by group: cells move to places of their own, and the fields that name them follow.
use Rattle.std.proofs.Common.{◌≡◌, ◌≢◌, ◌⊎◌, ℕ, ◌<◌, ◌≤◌, ◌^◌, ◌==◌, Bool, true, false, Option, Some, None, refl, sym, ◌∙◌, ap, subst, inl, inr, arith, eqb-true}
use Rattle.std.specs.Prelude.{if◌then◌else◌, is_some, IsTrue, IsSome, IsSomeAnd}
use Rattle.std.specs.Option.{option_map, option_map_or}
use Rattle.std.proofs.lemmas.Bool.{or_cases, or_right, both_ways}
use Rattle.std.proofs.lemmas.Option.{cond_some, same_Some}
use Rattle.plain_table.specs.declared.events.Act.TheVariants.{Finish}
use Rattle.plain_table.specs.declared.events.Cell.{Cell}
use Rattle.plain_table.specs.declared.events.Space.{Space}
use Rattle.plain_table.specs.declared.events.Space.TheVariants.{External, Trusted}
use Rattle.plain_table.specs.declared.events.Field.{Field}
use Rattle.plain_table.specs.declared.events.Field.TheVariants as field
use Rattle.plain_table.specs.Index.{index_of, word_of}
use Rattle.plain_table.specs.Places.{space_of, object_of}
use Rattle.plain_table.specs.Reachable.{Reaches}
use Rattle.plain_table.specs.Cycle.{Cycle, is_from, moves_from}
use Rattle.plain_table.specs.Table.{Table, limit_of}
use Rattle.plain_table.specs.Finish.{IsReachable, CanFinish, target, place, swept, rewritten, ticket_kept, finished, id_at}
use Rattle.plain_table.specs.Rows.{row, finished_in}
use Rattle.plain_table.specs.Sound.{IsSound, UsedSound, FreshSound, IdsSound, CellsSound, ObjectsSound, FieldsSound, TicketsSound, IsHidden, entries_in}
use Rattle.plain_table.proofs.CycleParts.{CycleSound-is}
use Rattle.table_laws.proofs.FinishMoves.{named, target-is, target-outside, place-is, place-used, swept-place, swept-from, id_at-finished}
use Rattle.plain_table.proofs.Options.{IsSome-value, is_some-option_map}

-- a used index after the finish was used before
swept-used : (s : Table) (c : Cycle) → IsSound s → s.cycle ≡ Some c → (p : Space) (i : ℕ) → IsSome (swept s c p i) → IsTrue (s.used p i) × (i ≢ 0)
swept-used s c h is p i some =
    let found = IsSome-value (swept s c p i) some in
    let came = swept-from s c p i found.0 found.1 in
    place-used s c h is p came.index i came.place_is

pub UsedSound-finish : (s : Table) (c : Cycle) → IsSound s → s.cycle ≡ Some c → CanFinish s c →
    UsedSound (limit_of (finished s c)) (finished s c).used (id_at (finished s c)) (finished s c).owed (entries_in (finished s c).cycle)
UsedSound-finish s c h is can = record {
  first = λ p. refl;
  below = λ p i used. elim (or_cases (i == 0) (is_some (swept s c p i)) used) [
    | inl first ↦ h.used.below p i (subst (λ (k : ℕ). IsTrue (s.used p k)) (sym (eqb-true i 0 first)) (h.used.first p))
    | inr some ↦ h.used.below p i (swept-used s c h is p i some).0
  ];
  cells = λ p i some.
      let found : IsSome (swept s c p i) = sym (is_some-option_map (λ (cell : Cell). cell.id) (swept s c p i)) ∙ some in
      (or_right (i == 0) (is_some (swept s c p i)) found, (swept-used s c h is p i found).1);
  claims = λ b p i claim. absurd (cc);
  entries = λ i some. absurd (cc);
  one_claim = λ b d p i claim other. absurd (cc);
  claim_or_entry = λ b i claim. absurd (cc);
}

pub FreshSound-finish : (s : Table) (c : Cycle) → IsSound s → s.cycle ≡ Some c → CanFinish s c →
    FreshSound (id_at (finished s c)) (finished s c).fresh
FreshSound-finish s c h is can = record {
  cells = λ b p i fresh. absurd (cc);
  one_fresh = λ b d p i fresh other. absurd (cc);
}

pub IdsSound-finish : (s : Table) (c : Cycle) → IsSound s → s.cycle ≡ Some c → CanFinish s c → IdsSound (id_at (finished s c)) (finished s c).next
IdsSound-finish s c h is can = record {
  differ = λ p q i j n here there.
      let first = id_at-finished s c p i n here in
      let second = id_at-finished s c q j n there in
      let same = h.ids.differ p q first.0 second.0 n first.2 second.2 in
      let at : place c s.words q second.0 ≡ Some i =
      subst (λ (k : ℕ). place c s.words q k ≡ Some i) same.1 (subst (λ (r : Space). place c s.words r first.0 ≡ Some i) same.0 first.1) in
      (same.0, same_Some i j (sym at ∙ second.1));
  below = λ p i n here. let first = id_at-finished s c p i n here in h.ids.below p first.0 n first.2;
}

pub CellsSound-finish : (s : Table) (c : Cycle) → IsSound s → s.cycle ≡ Some c → CanFinish s c → CellsSound (finished s c).cells
CellsSound-finish s c h is can = record {
  tags = λ p i cell there. let came = swept-from s c p i cell there in h.cells.tags p came.index cell came.cell_is;
  seen = λ i cell there. let came = swept-from s c External i cell there in h.cells.seen came.index cell came.cell_is;
}

-- a word after the finish is the one that was there, or the word of the target of its index
rewritten-by : (test : Bool) (found : Option ℕ) (word : ℕ) → ((if test then option_map_or word_of found word else word) ≡ word)
    ⊎ ((e : ℕ) × (found ≡ Some e) × ((if test then option_map_or word_of found word else word) ≡ word_of e))
rewritten-by true None word = inl refl
rewritten-by true (Some e) word = inr (e, refl, refl)
rewritten-by false found word = inl refl

rewritten-is : (c : Cycle) (words : Field → ℕ) (f : Field) → (rewritten c words f ≡ words f)
    ⊎ ((e : ℕ) × (target c words (index_of (words f)) ≡ Some e) × (rewritten c words f ≡ word_of e))
rewritten-is c words (field.External number) = rewritten-by (c.visited number) (target c words (named words number)) (words (field.External number))
rewritten-is c words (field.Trusted o) = inl refl

rewritten-still : (test : Bool) (found : Option ℕ) (word : ℕ) → found ≡ None → (if test then option_map_or word_of found word else word) ≡ word
rewritten-still true found word none = ap (λ (o : Option ℕ). option_map_or word_of o word) none
rewritten-still false found word none = refl

rewritten-moved : (test : Bool) (found : Option ℕ) (word e : ℕ) → test ≡ true → found ≡ Some e →
    (if test then option_map_or word_of found word else word) ≡ word_of e
rewritten-moved true found word e visited is = ap (λ (o : Option ℕ). option_map_or word_of o word) is
rewritten-moved false found word e visited is = absurd (cc)

-- a target is below the index that the word names, so its word has 32 bits too
word-small : (word start e : ℕ) → start ≤ index_of word → e < start → (word ≢ 0) × (word < 2 ^ 32 → word_of e < 2 ^ 32)
word-small word start e above below = (λ none. absurd (omega arith), λ small. omega arith)

pub ObjectsSound-finish : (s : Table) (c : Cycle) → IsSound s → s.cycle ≡ Some c → CanFinish s c →
    ObjectsSound (finished s c).sizes.objects (finished s c).count (finished s c).refs (finished s c).globals (finished s c).vars (finished s c).words (finished s c).bound
ObjectsSound-finish s c h is can = record {
  few = h.objects.few;
  roots = h.objects.roots;
  variables = h.objects.variables;
  references = h.objects.references;
  contents = λ f held. elim (rewritten-is c s.words f) [
    | inl same ↦
        let before = h.objects.contents f (subst (λ (word : ℕ). word ≢ 0) same held) in
        (before.0, subst (λ (word : ℕ). word < 2 ^ 32) (sym same) before.1)
    | inr moved ↦
        let t = target-is c s.words (index_of (s.words f)) moved.0 moved.1 in
        let small = word-small (s.words f) t.start moved.0 t.above t.below in
        let before = h.objects.contents f small.0 in
        (before.0, subst (λ (word : ℕ). word < 2 ^ 32) (sym moved.2) (small.1 before.1))
  ];
  bindings = h.objects.bindings;
}

-- the index of a word of an index
index_of-word_of : (e : ℕ) → index_of (word_of e) ≡ e
index_of-word_of e = omega arith

-- a bound field of a reachable object follows its cell, which is kept
module _ (s : Table) (c : Cycle) (h : IsSound s) (is : s.cycle ≡ Some c) (can : CanFinish s c) where
  -- it has an evacuation entry, where its cell stands in the area
  visited-is : (number : ℕ) → IsReachable s (object_of (field.External number)) → IsSome (s.bound (field.External number)) →
      is_from (moves_from c) (named s.words number) ≡ true → c.visited number ≡ true
  visited-is number reach bound from =
      let o : ℕ = object_of (field.External number) in
      let seen = or_cases (c.scans o) (c.born o) (can.scanned o reach) in
      let safe = (CycleSound-is s c h is).bound.safe (field.External number) seen bound in
      elim (safe.1) [
        | inl outside ↦ absurd (both_ways (is_from (moves_from c) (named s.words number)) outside from)
        | inr visited ↦ visited
      ]

  index_of-rewritten : (f : Field) (e : ℕ) → IsReachable s (object_of f) → IsSome (s.bound f) → place c s.words (space_of f) (index_of (s.words f)) ≡ Some e →
      index_of (rewritten c s.words f) ≡ e
  index_of-rewritten (field.External number) e reach bound at =
      elim (place-is c s.words External (named s.words number) e at) [
        | inl stays ↦
            let none : target c s.words (named s.words number) ≡ None =
            target-outside c s.words (named s.words number) (stays.outside refl) in
            ap index_of (rewritten-still (c.visited number) (target c s.words (named s.words number)) (s.words (field.External number)) none) ∙ stays.same
        | inr goes ↦
            let t = target-is c s.words (named s.words number) e goes.to in
            ap index_of (rewritten-moved (c.visited number) (target c s.words (named s.words number)) (s.words (field.External number)) e (visited-is number reach bound t.from) goes.to)
            ∙ index_of-word_of e
      ]
  index_of-rewritten (field.Trusted o) e reach bound at =
      (cond_some (c.marks Trusted (index_of (s.words (field.Trusted o)))) (index_of (s.words (field.Trusted o))) e at).1

  id_at-own : (f : Field) (n : ℕ) → IsReachable s (object_of f) → s.bound f ≡ Some n → id_at (finished s c) (space_of f) (index_of (rewritten c s.words f)) ≡ Some n
  id_at-own f n reach bound =
      let kept = can.kept f n bound reach in
      let found = IsSome-value (place c s.words (space_of f) (index_of (s.words f))) kept.1 in
      ap (id_at (finished s c) (space_of f)) (index_of-rewritten f found.0 reach (ap is_some bound) found.1)
      ∙ ap (option_map (λ (cell : Cell). cell.id)) (swept-place s c h is (space_of f) (index_of (s.words f)) found.0 found.1)
      ∙ kept.0

pub FieldsSound-finish : (s : Table) (c : Cycle) → IsSound s → s.cycle ≡ Some c → CanFinish s c →
    FieldsSound (id_at (finished s c)) (finished s c).fresh (finished s c).words (finished s c).bound (Reaches (finished s c).refs (finished s c).globals (finished s c).vars)
FieldsSound-finish s c h is can = record {
  own = id_at-own s c h is can;
  trusted = h.fields.trusted;
  settled = λ o b reach held. refl;
}

-- a ticket after the finish was one before, and its cell is kept
ticket_kept-is : (s : Table) (c : Cycle) (found : Option ℕ) (i : ℕ) → ticket_kept s c found ≡ Some i → (found ≡ Some i) × IsSome (swept s c Trusted i)
ticket_kept-is s c None i is = absurd (cc)
ticket_kept-is s c (Some j) i is =
    let kept = cond_some (is_some (swept s c Trusted j)) j i is in
    (ap Some kept.1, subst (λ (k : ℕ). IsSome (swept s c Trusted k)) kept.1 kept.0)

-- a trusted cell that is kept stands where it stood
swept-trusted : (s : Table) (c : Cycle) → IsSound s → s.cycle ≡ Some c → (i : ℕ) → IsSome (swept s c Trusted i) → swept s c Trusted i ≡ s.cells Trusted i
swept-trusted s c h is i some =
    let found = IsSome-value (swept s c Trusted i) some in
    let came = swept-from s c Trusted i found.0 found.1 in
    let same = cond_some (c.marks Trusted came.index) came.index i came.place_is in
    found.1 ∙ sym came.cell_is ∙ ap (s.cells Trusted) same.1

pub TicketsSound-finish : (s : Table) (c : Cycle) → IsSound s → s.cycle ≡ Some c → CanFinish s c →
    TicketsSound ((finished s c).cells Trusted) (finished s c).fresh (finished s c).ticket
TicketsSound-finish s c h is can = record {
  fresh_hidden = λ b i fresh. absurd (cc);
  hidden = λ b i there.
      let kept = ticket_kept-is s c (s.ticket b) i there in
      subst IsHidden (sym (swept-trusted s c h is i kept.1)) (h.tickets.hidden b i kept.0);
  settled = λ b d i there. refl;
  one_ticket = λ b d i here there.
      h.tickets.one_ticket b d i (ticket_kept-is s c (s.ticket b) i here).0 (ticket_kept-is s c (s.ticket d) i there).0;
  mutators = λ b i there. h.tickets.mutators b i (ticket_kept-is s c (s.ticket b) i there).0;
}

pub IsSound-finish : (s : Table) (c : Cycle) → IsSound s → s.cycle ≡ Some c → CanFinish s c → IsSound (finished s c)
IsSound-finish s c h is can = record {
  used = UsedSound-finish s c h is can;
  fresh = FreshSound-finish s c h is can;
  ids = IdsSound-finish s c h is can;
  cells = CellsSound-finish s c h is can;
  objects = ObjectsSound-finish s c h is can;
  fields = FieldsSound-finish s c h is can;
  tickets = TicketsSound-finish s c h is can;
  cycle = tt;
}

-- the same of the row of the finish
finished_in-by : (s : Table) (cycle : Option Cycle) → IsSound s → s.cycle ≡ cycle → IsSomeAnd cycle (CanFinish s) → IsSound (finished_in s cycle)
finished_in-by s None h is can = absurd can
finished_in-by s (Some c) h is can = IsSound-finish s c h is can

pub IsSound-row_finish : (s : Table) (b : ℕ) → IsSound s → (row s b Finish).allowed → IsSound (row s b Finish).next
IsSound-row_finish s b h k = finished_in-by s s.cycle h refl k.1
