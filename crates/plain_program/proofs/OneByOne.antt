-- The events of a list in turn: a legal history goes on by its next event, and has one put an event at the most.
use Rattle.std.proofs.Common.{◌≡◌, ℕ, ◌+◌, ◌<◌, ◌≤◌, ◌==◌, nat_lt, Bool, true, false, Option, Some, None, List, ◌∷◌, length, drop, get_or, refl, ap, sym, subst, arith, IsTrue}
use Rattle.std.specs.Prelude.{◌↔◌, if◌then◌else◌}
use Rattle.std.specs.Bool.{OnTrue}
use Rattle.std.proofs.lemmas.List.{drop_more}
use Rattle.plain_table.specs.declared.events.Act.{Act}
use Rattle.plain_table.specs.declared.events.Act.TheVariants.{New, Drop, Get, Link, Take, Below, Abort, Put, Bind, Name, Look, Set, Swap, Forge, Publish, Mark, Evac, Scan, Start, Finish}
use Rattle.plain_table.specs.declared.events.Event.{Event}
use Rattle.plain_table.specs.declared.events.Space.{Space}
use Rattle.plain_table.specs.declared.events.Space.TheVariants.{External}
use Rattle.plain_table.specs.declared.events.Spot.{Spot}
use Rattle.plain_table.specs.declared.events.Spot.TheVariants.{Global, Ref}
use Rattle.plain_table.specs.Cycle.{Cycle}
use Rattle.plain_table.specs.Table.{Table, opening, least_free}
use Rattle.plain_table.specs.declared.scripts.Limits.{Limits}
use Rattle.plain_table.specs.Rows.{row, free_below, object_in, with_object, with_taken, with_bound, with_unbound, with_linked, finished_in}
use Rattle.plain_table.specs.History.{IsLegalHistory, next}
use Rattle.plain_program.specs.Kept.{Kept, shown}
use Rattle.plain_program.specs.Steps.{CanStep}

-- one of two tables, each with at most one put more
either : (test : Bool) (s t u : Table) → t.next ≤ s.next + 1 → u.next ≤ s.next + 1 → (if test then t else u).next ≤ s.next + 1
either true s t u first second = first
either false s t u first second = second

-- a take is no put, by whether an index is free
taken : (s : Table) (b : ℕ) (p : Space) (free : Option ℕ) → (with_taken s b p free).next ≤ s.next + 1
taken s b p None = omega arith
taken s b p (Some i) = omega arith

-- a link is no put, at either place
linked : (s : Table) (spot : Spot) (object : Option ℕ) → (with_linked s spot object).next ≤ s.next + 1
linked s (Global g) object = omega arith
linked s (Ref from k) object = omega arith

-- a finish is no put, whether a cycle is under way or not
ended : (s : Table) (cycle : Option Cycle) → (finished_in s cycle).next ≤ s.next + 1
ended s None = omega arith
ended s (Some c) = omega arith

-- an event is one put at the most
one_put : (s : Table) (b : ℕ) (act : Act) → (row s b act).next.next ≤ s.next + 1
one_put s b (New var) = either (nat_lt s.count s.sizes.objects) s (with_object s b var) s (omega arith) (omega arith)
one_put s b (Take p) = taken s b p (least_free s p)
one_put s b (Put p i tag value) = omega arith
one_put s b (Bind f word) = either (s.words f == 0) s (with_bound s b f word) (with_unbound s b f word) (omega arith) (omega arith)
one_put s b (Name f) = omega arith
one_put s b (Look p word first last) = omega arith
one_put s b (Set word first last value) = omega arith
one_put s b (Swap word first last value) = omega arith
one_put s b (Forge number word) = omega arith
one_put s b (Drop var) = omega arith
one_put s b (Get var spot) = omega arith
one_put s b (Link spot var) = linked s spot (object_in s b var)
one_put s b (Below start) = taken s b External (free_below s start)
one_put s b Abort = omega arith
one_put s b (Publish i) = omega arith
one_put s b (Mark p i) = omega arith
one_put s b (Evac i f) = omega arith
one_put s b (Scan o) = omega arith
one_put s b (Start policy) = omega arith
one_put s b Finish = ended s s.cycle

-- so the ids given stay at most the events done
few_more : (new past old i : ℕ) → new ≡ past → past ≤ old + 1 → old ≤ i → new ≤ i + 1
few_more new past old i is more few = omega arith

few_first : (ids : ℕ) → ids ≡ 0 → ids ≤ 0
few_first ids is = omega arith

-- what a replay keeps: the events from the index i on are a legal history of the present table just where all are one
-- of the opening
pub record IsReplayed (k : Kept) (first : Table) (events : List Event) (i : ℕ) : Type 0 where
  pub unspent : k.spent ≡ false
  pub few : k.next ≤ i
  pub rest : IsLegalHistory (shown k) (drop i events) ↔ IsLegalHistory first events

pub replayed-start : (k : Kept) (limits : Limits) (events : List Event) → shown k ≡ opening limits → k.spent ≡ false → IsReplayed k (opening limits) events 0
replayed-start k limits events is unspent = record {
  unspent = unspent;
  few = few_first k.next (ap (λ (t : Table). t.next) is);
  rest = let P : Table → Type 0 = λ (t : Table). IsLegalHistory t events in (λ h. subst P is h, λ h. subst P (sym is) h);
}

-- the events from i on, as the event at i and those after it
ahead : (k : Kept) (first : Table) (events : List Event) (i : ℕ) (d : Event) → i < length events → IsReplayed k first events i →
    IsLegalHistory (shown k) (get_or events i d ∷ drop (i + 1) events) ↔ IsLegalHistory first events
ahead k first events i d below kept =
    subst (λ (es : List Event). IsLegalHistory (shown k) es ↔ IsLegalHistory first events) (drop_more events i d below) kept.rest

-- after a step that was made
pub replayed-next : (old new : Kept) (first : Table) (events : List Event) (i : ℕ) (d : Event) → i < length events →
    IsReplayed old first events i → (done : Bool) → done ≡ true → (IsTrue done ↔ CanStep old (get_or events i d)) →
    OnTrue done (shown new ≡ next (shown old) (get_or events i d)) → OnTrue done (new.spent ≡ false) → IsReplayed new first events (i + 1)
replayed-next old new first events i d below kept false is answer made unspent = absurd (cc)
replayed-next old new first events i d below kept true is answer made unspent =
    let can : CanStep old (get_or events i d) = answer.0 refl in
    let e : Event = get_or events i d in
    let more : (next (shown old) e).next ≤ (shown old).next + 1 = one_put (shown old) e.by e.act in
    let same : (shown new).next ≡ (next (shown old) e).next = ap (λ (t : Table). t.next) made in
    let now : IsLegalHistory (shown old) (e ∷ drop (i + 1) events) ↔ IsLegalHistory first events = ahead old first events i d below kept in
    let P : Table → Type 0 = λ (t : Table). IsLegalHistory t (drop (i + 1) events) in record {
      unspent = unspent;
      few = few_more new.next (next (shown old) e).next old.next i same more kept.few;
      rest = (λ h. now.0 (can.1, subst P made h), λ h. subst P (sym made) (now.1 h).1);
    }
