-- After each event only cells are marked, fresh ones are, and an external fresh one stands in the area only after an
-- abort.
use Rattle.std.proofs.Common.{◌≡◌, ℕ, ◌≤◌, ◌==◌, nat_lt, Bool, true, false, if◌then◌else◌, Option, Some, None, is_some, IsTrue, IsSome, IfSome, refl, ap, ◌∙◌, sym, subst, inl, inr, leb-true}
use Rattle.std.proofs.lemmas.Option.{IfSome_then}
use Rattle.plain_table.specs.declared.events.Act.{Act}
use Rattle.plain_table.specs.declared.events.Act.TheVariants.{New, Drop, Get, Link, Take, Below, Abort, Put, Bind, Name, Look, Set, Swap, Forge, Publish, Mark, Evac, Scan, Start, Finish}
use Rattle.plain_table.specs.declared.events.Cell.{Cell}
use Rattle.plain_table.specs.declared.events.Space.{Space}
use Rattle.plain_table.specs.declared.events.Space.TheVariants.{External, Trusted}
use Rattle.plain_table.specs.declared.events.Field.{Field}
use Rattle.plain_table.specs.Index.{index_of}
use Rattle.plain_table.specs.Places.{space_of, put_entry, put_claim}
use Rattle.plain_table.specs.Cycle.{Cycle, is_from, marked_in}
use Rattle.plain_table.specs.Table.{Table, least_free}
use Rattle.plain_table.specs.Finish.{id_at, CanFinish}
use Rattle.plain_table.specs.Rows.{HasCell, MayFill, free_below, object_in, with_object, with_cell, with_bound, with_unbound, with_value, with_published, row, is_asked}
use Rattle.plain_table.specs.Sound.{IsSound, CycleSound, MarksSound}
use Rattle.plain_table.proofs.PlaceReads.{read_entry, read_claim, put_entry-grows, put_entry-same}
use Rattle.plain_table.proofs.Options.{IsSomeAnd-some, is_some-option_map}
use Rattle.table_laws.proofs.ClaimReads.{put_claim-was}
use Rattle.table_laws.proofs.IdsAt.{id_at-with_value, id_at-with_published, id_at-with_cell-here, id_at-with_cell-was}
use Rattle.plain_table.proofs.CycleParts.{IfSome-and, IfSome-changed, IfSome-changed_by, IfSome-finished}
use Rattle.plain_table.proofs.Branches.{if_either, with_taken_either, with_linked_either}

-- the marks of a cycle, for a table
abbrev pub MarksIn : Table → Cycle → Type 0
MarksIn s c = MarksSound (id_at s) s.fresh c.marks c.start c.aborted

MarksIn-same : (s : Table) (cycle : Option Cycle) → IfSome cycle (CycleSound s) → IfSome cycle (MarksIn s)
MarksIn-same s cycle h = IfSome_then cycle h (λ c d. d.marks)

module _ (ids : Space → ℕ → Option ℕ) (fresh : ℕ → Space → ℕ → Bool) (marks : Space → ℕ → Bool) (start : Option ℕ) (aborted : Bool) where
  -- one more mark, of a cell, where no cell goes
  MarksSound-marked : (p : Space) (i : ℕ) (more : Space → ℕ → Option ℕ) → ((q : Space) (j : ℕ) → IsSome (ids q j) → IsSome (more q j)) →
      IsSome (more p i) → MarksSound ids fresh marks start aborted → MarksSound more fresh (put_entry marks p i true) start aborted
  MarksSound-marked p i more stay here h = record {
    cells = λ q j is. elim (read_entry true marks p i q j) [
      | inl r ↦ subst (λ (x : Space). IsSome (more x j)) r.0.0 (subst (λ (x : ℕ). IsSome (more p x)) r.0.1 here)
      | inr r ↦ stay q j (h.cells q j (sym r.1 ∙ is))
    ];
    filled = λ b q j is. put_entry-grows marks p i q j (h.filled b q j is);
    outside = h.outside;
  }

  -- a fresh cell, marked, and outside the area
  MarksSound-filled : (b : ℕ) (p : Space) (i : ℕ) → IsTrue (marks p i) → (p ≡ External → IsTrue (is_from start i) → IsTrue aborted) →
      MarksSound ids fresh marks start aborted → MarksSound ids (put_claim fresh b p i true) marks start aborted
  MarksSound-filled b p i marked out h = record {
    cells = h.cells;
    filled = λ c q j is. elim (read_claim fresh b p i true c q j) [
      | inl r ↦ subst (λ (x : Space). IsTrue (marks x j)) r.0.0.1 (subst (λ (x : ℕ). IsTrue (marks p x)) r.0.1 marked)
      | inr r ↦ h.filled c q j (sym r.1 ∙ is)
    ];
    outside = λ c j is from. elim (read_claim fresh b p i true c External j) [
      | inl r ↦ out r.0.0.1 (subst (λ (x : ℕ). IsTrue (is_from start x)) (sym r.0.1) from)
      | inr r ↦ h.outside c j (sym r.1 ∙ is) from
    ];
  }

  -- a cell that is no longer fresh
  MarksSound-bound : (b : ℕ) (p : Space) (i : ℕ) → MarksSound ids fresh marks start aborted →
      MarksSound ids (put_claim fresh b p i false) marks start aborted
  MarksSound-bound b p i h = record {
    cells = h.cells;
    filled = λ c q j is. h.filled c q j (put_claim-was fresh b p i c q j is);
    outside = λ c j is from. h.outside c j (put_claim-was fresh b p i c External j is) from;
  }

  MarksSound-aborted : MarksSound ids fresh marks start aborted → MarksSound ids fresh marks start true
  MarksSound-aborted h = record {
    cells = h.cells;
    filled = h.filled;
    outside = λ c j is from. refl;
  }

-- a put in the area comes after an abort
is_from-put : (start : Option ℕ) (aborted : Bool) (i : ℕ) → IfSome start (λ first. first ≤ i → IsTrue aborted) → IsTrue (is_from start i) → IsTrue aborted
is_from-put None aborted i may from = absurd (cc)
is_from-put (Some first) aborted i may from = may (leb-true first i from)

MayFill-outside : (s : Table) (cycle : Option Cycle) (p : Space) (i : ℕ) → MayFill (record s { cycle = cycle }) p i →
    IfSome cycle (λ c. p ≡ External → IsTrue (is_from c.start i) → IsTrue c.aborted)
MayFill-outside s None p i may = tt
MayFill-outside s (Some c) External i may = λ e from. is_from-put c.start c.aborted i may from
MayFill-outside s (Some c) Trusted i may = λ e from. absurd (cc)

MarksIn-put : (s : Table) (b : ℕ) (p : Space) (i tag value : ℕ) → IsSound s → MayFill s p i →
    IfSome (marked_in s.cycle p i) (MarksIn (with_cell s b p i tag value))
MarksIn-put s b p i tag value h may =
    IfSome-changed_by (MarksIn (with_cell s b p i tag value)) s.cycle h.cycle (MayFill-outside s s.cycle p i may)
    (λ c d out. MarksSound-filled (id_at (with_cell s b p i tag value)) s.fresh (put_entry c.marks p i true) c.start c.aborted b p i
    (put_entry-same c.marks p i true) out
    (MarksSound-marked (id_at s) s.fresh c.marks c.start c.aborted p i (id_at (with_cell s b p i tag value)) (id_at-with_cell-was s b p i tag value)
    (id_at-with_cell-here s b p i tag value) d.marks))

MarksIn-bind : (s : Table) (b : ℕ) (f : Field) (w : ℕ) (free : Bool) → IsSound s →
    IfSome (if free then with_bound s b f w else with_unbound s b f w).cycle (MarksIn (if free then with_bound s b f w else with_unbound s b f w))
MarksIn-bind s b f w false h =
    IfSome_then s.cycle h.cycle
    (λ c d. MarksSound-bound (id_at s) s.fresh c.marks c.start c.aborted b (space_of f) (index_of w) d.marks)
MarksIn-bind s b f w true h =
    IfSome-changed (MarksIn (with_bound s b f w)) s.cycle h.cycle
    (λ c d. MarksSound-bound (id_at s) s.fresh c.marks c.start c.aborted b (space_of f) (index_of w) d.marks)

MarksIn-value : (s : Table) (i value : ℕ) → IsSound s → IsSome (id_at s External i) → IfSome (marked_in s.cycle External i) (MarksIn (with_value s i value))
MarksIn-value s i value h is =
    IfSome-changed (MarksIn (with_value s i value)) s.cycle h.cycle
    (λ c d. MarksSound-marked (id_at s) s.fresh c.marks c.start c.aborted External i (id_at (with_value s i value))
    (λ q j e. ap (λ (ids : Space → ℕ → Option ℕ). is_some (ids q j)) (id_at-with_value s i value) ∙ e)
    (ap (λ (ids : Space → ℕ → Option ℕ). is_some (ids External i)) (id_at-with_value s i value) ∙ is) d.marks)

MarksIn-publish : (s : Table) (b i : ℕ) → IsSound s → IsSome (id_at s Trusted i) → IfSome (marked_in s.cycle Trusted i) (MarksIn (with_published s b i))
MarksIn-publish s b i h is =
    IfSome-changed (MarksIn (with_published s b i)) s.cycle h.cycle
    (λ c d. MarksSound-marked (id_at s) s.fresh c.marks c.start c.aborted Trusted i (id_at (with_published s b i))
    (λ q j e. ap (λ (ids : Space → ℕ → Option ℕ). is_some (ids q j)) (id_at-with_published s b i) ∙ e)
    (ap (λ (ids : Space → ℕ → Option ℕ). is_some (ids Trusted i)) (id_at-with_published s b i) ∙ is) d.marks)

MarksIn-mark : (s : Table) (p : Space) (i : ℕ) → IsSound s → IfSome s.cycle (λ c. IsSome (s.cells p i)) → IfSome (marked_in s.cycle p i) (MarksIn s)
MarksIn-mark s p i h is =
    IfSome-changed_by (MarksIn s) s.cycle h.cycle is
    (λ c d cell. MarksSound-marked (id_at s) s.fresh c.marks c.start c.aborted p i (id_at s) (λ q j e. e)
    (is_some-option_map (λ (x : Cell). x.id) (s.cells p i) ∙ cell) d.marks)

-- the cell of a store, and that of a ticket
id_at-cell : (s : Table) (w first last : ℕ) → HasCell s w first last → IsSome (id_at s External (index_of w))
id_at-cell s w first last h =
    is_some-option_map (λ (cell : Cell). cell.id) (s.cells External (index_of w))
    ∙ IsSomeAnd-some (s.cells External (index_of w)) (λ c. IsTrue (is_asked first last c.tag)) h

id_at-ticket : (s : Table) (b i : ℕ) → IsSound s → s.ticket b ≡ Some i → IsSome (id_at s Trusted i)
id_at-ticket s b i h e =
    is_some-option_map (λ (cell : Cell). cell.id) (s.cells Trusted i) ∙ IsSomeAnd-some (s.cells Trusted i) (λ c. c.shown ≡ false) (h.tickets.hidden b i e)

-- after any event
pub MarksIn-next : (s : Table) (b : ℕ) (a : Act) → IsSound s → (row s b a).allowed → IfSome (row s b a).next.cycle (MarksIn (row s b a).next)
MarksIn-next s b (New var) h k =
    if_either (λ t. IfSome t.cycle (MarksIn t)) (nat_lt s.count s.sizes.objects) (with_object s b var) s
    (IfSome-changed (MarksIn s) s.cycle h.cycle (λ c d. d.marks)) (MarksIn-same s s.cycle h.cycle)
MarksIn-next s b (Drop var) h k = MarksIn-same s s.cycle h.cycle
MarksIn-next s b (Get var spot) h k = MarksIn-same s s.cycle h.cycle
MarksIn-next s b (Link spot var) h k =
    with_linked_either (λ t. IfSome t.cycle (MarksIn t)) s spot (object_in s b var)
    (λ g. MarksIn-same s s.cycle h.cycle) (λ object i. MarksIn-same s s.cycle h.cycle)
MarksIn-next s b (Take p) h k =
    with_taken_either (λ t. IfSome t.cycle (MarksIn t)) s b p (least_free s p)
    (MarksIn-same s s.cycle h.cycle) (λ i. MarksIn-same s s.cycle h.cycle)
MarksIn-next s b (Below start) h k =
    with_taken_either (λ t. IfSome t.cycle (MarksIn t)) s b External (free_below s start)
    (MarksIn-same s s.cycle h.cycle) (λ i. MarksIn-same s s.cycle h.cycle)
MarksIn-next s b Abort h k =
    IfSome-changed (MarksIn s) s.cycle h.cycle (λ c d. MarksSound-aborted (id_at s) s.fresh c.marks c.start c.aborted d.marks)
MarksIn-next s b (Put p i tag value) h k = MarksIn-put s b p i tag value h k.3
MarksIn-next s b (Bind f w) h k = MarksIn-bind s b f w (s.words f == 0) h
MarksIn-next s b (Name f) h k = MarksIn-same s s.cycle h.cycle
MarksIn-next s b (Look p w first last) h k = MarksIn-same s s.cycle h.cycle
MarksIn-next s b (Set w first last value) h k = MarksIn-value s (index_of w) value h (id_at-cell s w first last k.0)
MarksIn-next s b (Swap w first last value) h k = MarksIn-value s (index_of w) value h (id_at-cell s w first last k.0)
MarksIn-next s b (Forge number w) h k = IfSome-changed (MarksIn s) s.cycle h.cycle (λ c d. d.marks)
MarksIn-next s b (Publish i) h k = MarksIn-publish s b i h (id_at-ticket s b i h k)
MarksIn-next s b (Mark p i) h k = MarksIn-mark s p i h (IfSome-and s.cycle k (λ c d. d.0))
MarksIn-next s b (Evac i number) h k = IfSome-changed (MarksIn s) s.cycle h.cycle (λ c d. d.marks)
MarksIn-next s b (Scan o) h k = IfSome-changed (MarksIn s) s.cycle h.cycle (λ c d. d.marks)
MarksIn-next s b (Start policy) h k = record {
  cells = λ p i is. absurd (cc);
  filled = λ c p i is. absurd (cc);
  outside = λ c i is from. absurd (cc);
}
MarksIn-next s b Finish h k = IfSome-finished (CanFinish s) _ s s.cycle k.1
