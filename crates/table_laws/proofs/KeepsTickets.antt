-- The tickets stay sound after each act other than the finish of a cycle.
use Rattle.std.proofs.Common.{◌≡◌, ◌⊎◌, ◌==◌, ℕ, Bool, true, false, Option, Some, None, refl, sym, ap, ◌∙◌, subst, true≢false, inl, inr, nat_lt, if◌then◌else◌, IsTrue, option_map, ◌<◌}
use Rattle.std.proofs.lemmas.Option.{none-some, same_Some}
use Rattle.plain_table.specs.declared.events.Act.{Act}
use Rattle.plain_table.specs.declared.events.Act.TheVariants.{New, Drop, Get, Link, Take, Below, Abort, Put, Bind, Name, Look, Set, Swap, Forge, Publish, Mark, Evac, Scan, Start, Finish}
use Rattle.plain_table.specs.declared.events.Cell.{Cell}
use Rattle.plain_table.specs.declared.events.Space.{Space}
use Rattle.plain_table.specs.declared.events.Space.TheVariants.{External, Trusted}
use Rattle.plain_table.specs.declared.events.Field.{Field}
use Rattle.plain_table.specs.declared.events.Field.TheVariants as field
use Rattle.plain_table.specs.Index.{index_of}
use Rattle.plain_table.specs.Places.{space_of, put_at, put_entry, put_claim, object_of}
use Rattle.plain_table.specs.Table.{Table, least_free}
use Rattle.plain_table.specs.Rows.{row, object_in, with_object, with_bound, with_unbound, with_cell, with_published, free_below}
use Rattle.plain_table.specs.Sound.{IsHidden, TicketsSound, IsSound}
use Rattle.table_laws.proofs.Acts.{IsNoFinish}
use Rattle.plain_table.proofs.PlaceReads.{Read, read_at, read_entry, read_claim}
use Rattle.table_laws.proofs.ClaimReads.{no_claim, put_claim-was, put_claim-alone, put_claim-elsewhere}
use Rattle.plain_table.proofs.Options.{option_map-none}
use Rattle.plain_table.proofs.Branches.{if_either, with_taken_either, with_linked_either}

hidden-none : (found : Option Cell) → IsHidden found → found ≡ None → ⊥
hidden-none found is none = subst IsHidden none is

module _ {trusted : ℕ → Option Cell} {fresh : ℕ → Space → ℕ → Bool} {ticket : ℕ → Option ℕ} where
  -- less is fresh
  pub TicketsSound-fresh : (less : ℕ → Space → ℕ → Bool) → TicketsSound trusted fresh ticket →
      ((b i : ℕ) → IsTrue (less b Trusted i) → IsTrue (fresh b Trusted i)) → TicketsSound trusted less ticket
  TicketsSound-fresh less h sub = record {
    fresh_hidden = λ b i is. h.fresh_hidden b i (sub b i is);
    hidden = h.hidden;
    settled = λ b c i e. no_claim (less c Trusted i) (fresh c Trusted i) (sub c i) (h.settled b c i e);
    one_ticket = h.one_ticket;
    mutators = h.mutators;
  }

  -- a hidden cell comes to an index where none stood, and is fresh
  pub TicketsSound-put : (more : ℕ → Option Cell) (new : Option Cell) (b i : ℕ) → TicketsSound trusted fresh ticket → trusted i ≡ None → IsHidden new →
      ((j : ℕ) → Read (i ≡ j) (more j) new (trusted j)) → TicketsSound more (put_claim fresh b Trusted i true) ticket
  TicketsSound-put more new b i h none is_hidden read = record {
    fresh_hidden = λ c j is. elim (read j) [
      | inl at ↦ subst IsHidden (sym at.1) is_hidden
      | inr away ↦ elim (read_claim fresh b Trusted i true c Trusted j) [
        | inl here ↦ absurd (away.0 here.0.1)
        | inr other ↦ subst IsHidden (sym away.1) (h.fresh_hidden c j (sym other.1 ∙ is))
      ]
    ];
    hidden = λ c j e. elim (read j) [
      | inl at ↦ subst IsHidden (sym at.1) is_hidden
      | inr away ↦ subst IsHidden (sym away.1) (h.hidden c j e)
    ];
    settled = λ c d j e. elim (read_claim fresh b Trusted i true d Trusted j) [
      | inl here ↦ absurd (hidden-none (trusted j) (h.hidden c j e) (ap trusted (sym here.0.1) ∙ none))
      | inr other ↦ other.1 ∙ h.settled c d j e
    ];
    one_ticket = h.one_ticket;
    mutators = h.mutators;
  }

  -- a number that bound its fresh cell gets the ticket for it
  pub TicketsSound-bind : (less : ℕ → Space → ℕ → Bool) (b i : ℕ) → b < 8 → TicketsSound trusted fresh ticket → IsTrue (fresh b Trusted i) →
      ((c : ℕ) → less c Trusted i ≡ false) → ((c j : ℕ) → IsTrue (less c Trusted j) → IsTrue (fresh c Trusted j)) →
      TicketsSound trusted less (put_at ticket b (Some i))
  TicketsSound-bind less b i low h own gone sub = record {
    fresh_hidden = λ c j is. h.fresh_hidden c j (sub c j is);
    hidden = λ c j e. elim (read_at (Some i) ticket b c) [
      | inl here ↦ let at : i ≡ j = same_Some i j (sym here.1 ∙ e) in subst (λ (k : ℕ). IsHidden (trusted k)) at (h.fresh_hidden b i own)
      | inr other ↦ h.hidden c j (sym other.1 ∙ e)
    ];
    settled = λ c d j e. elim (read_at (Some i) ticket b c) [
      | inl here ↦ let at : i ≡ j = same_Some i j (sym here.1 ∙ e) in subst (λ (k : ℕ). less d Trusted k ≡ false) at (gone d)
      | inr other ↦ no_claim (less d Trusted j) (fresh d Trusted j) (sub d j) (h.settled c d j (sym other.1 ∙ e))
    ];
    one_ticket = λ c d j e k. elim (read_at (Some i) ticket b c) [
      | inl here ↦ let at : i ≡ j = same_Some i j (sym here.1 ∙ e) in elim (read_at (Some i) ticket b d) [
        | inl there ↦ sym here.0 ∙ there.0
        | inr other ↦ absurd (true≢false (sym own ∙ ap (fresh b Trusted) at ∙ h.settled d b j (sym other.1 ∙ k)))
      ]
      | inr other ↦ elim (read_at (Some i) ticket b d) [
        | inl there ↦ let at : i ≡ j = same_Some i j (sym there.1 ∙ k) in
            absurd (true≢false (sym own ∙ ap (fresh b Trusted) at ∙ h.settled c b j (sym other.1 ∙ e)))
        | inr apart ↦ h.one_ticket c d j (sym other.1 ∙ e) (sym apart.1 ∙ k)
      ]
    ];
    mutators = λ c j e. elim (read_at (Some i) ticket b c) [
      | inl here ↦ subst (λ (m : ℕ). m < 8) here.0 low
      | inr other ↦ h.mutators c j (sym other.1 ∙ e)
    ];
  }

  -- a cell that has a ticket changes, and the ticket is given up
  pub TicketsSound-publish : (shown : ℕ → Option Cell) (b i : ℕ) → TicketsSound trusted fresh ticket → ticket b ≡ Some i →
      ((j : ℕ) → (i ≡ j) ⊎ (shown j ≡ trusted j)) → TicketsSound shown fresh (put_at ticket b None)
  TicketsSound-publish shown b i h held others = record {
    fresh_hidden = λ c j is. elim (others j) [
      | inl at ↦ absurd (true≢false (sym is ∙ ap (fresh c Trusted) (sym at) ∙ h.settled b c i held))
      | inr same ↦ subst IsHidden (sym same) (h.fresh_hidden c j is)
    ];
    hidden = λ c j e. elim (read_at None ticket b c) [
      | inl here ↦ absurd (none-some j (sym here.1 ∙ e))
      | inr other ↦ elim (others j) [
        | inl at ↦ absurd (other.0 (h.one_ticket b c j (held ∙ ap Some at) (sym other.1 ∙ e)))
        | inr same ↦ subst IsHidden (sym same) (h.hidden c j (sym other.1 ∙ e))
      ]
    ];
    settled = λ c d j e. elim (read_at None ticket b c) [
      | inl here ↦ absurd (none-some j (sym here.1 ∙ e))
      | inr other ↦ h.settled c d j (sym other.1 ∙ e)
    ];
    one_ticket = λ c d j e k. elim (read_at None ticket b c) [
      | inl here ↦ absurd (none-some j (sym here.1 ∙ e))
      | inr other ↦ elim (read_at None ticket b d) [
        | inl there ↦ absurd (none-some j (sym there.1 ∙ k))
        | inr apart ↦ h.one_ticket c d j (sym other.1 ∙ e) (sym apart.1 ∙ k)
      ]
    ];
    mutators = λ c j e. elim (read_at None ticket b c) [
      | inl here ↦ absurd (none-some j (sym here.1 ∙ e))
      | inr other ↦ h.mutators c j (sym other.1 ∙ e)
    ];
  }

-- the tickets of a table
abbrev pub AreTicketsSound : Table → Type 0
AreTicketsSound s = TicketsSound (s.cells Trusted) s.fresh s.ticket

AreTicketsSound-put : (s : Table) (b : ℕ) (p : Space) (i tag value : ℕ) → IsSound s → IsTrue (s.owed b p i) → AreTicketsSound (with_cell s b p i tag value)
AreTicketsSound-put s b External i tag value h owed =
    TicketsSound-fresh (put_claim s.fresh b External i true) h.tickets (λ c j is. sym (put_claim-elsewhere s.fresh b i true c j) ∙ is)
AreTicketsSound-put s b Trusted i tag value h owed =
    let new : Option Cell = Some (record { id = s.next; tag = tag; value = value; shown = false }) in
    TicketsSound-put (put_entry s.cells Trusted i new Trusted) new b i h.tickets
    (option_map-none (λ (cell : Cell). cell.id) (s.cells Trusted i) (h.used.claims b Trusted i owed).2) refl
    (λ j. elim (read_entry new s.cells Trusted i Trusted j) [
      | inl here ↦ inl (here.0.1, here.1)
      | inr other ↦ inr (λ at. other.0 (refl, at), other.1)
    ])

-- after a bind into an empty trusted field, with the test whether its cell was fresh
AreTicketsSound-fresh : (s : Table) (b i : ℕ) (test : Bool) → b < 8 → IsSound s → s.fresh b Trusted i ≡ test →
    TicketsSound (s.cells Trusted) (put_claim s.fresh b Trusted i false) (if test then put_at s.ticket b (Some i) else s.ticket)
AreTicketsSound-fresh s b i true low h own =
    TicketsSound-bind (put_claim s.fresh b Trusted i false) b i low h.tickets own (λ c. put_claim-alone s.fresh b Trusted i c h.fresh own)
    (λ c j. put_claim-was s.fresh b Trusted i c Trusted j)
AreTicketsSound-fresh s b i false low h none = TicketsSound-fresh (put_claim s.fresh b Trusted i false) h.tickets (λ c j. put_claim-was s.fresh b Trusted i c Trusted j)

-- after a bind, with the test whether the field was empty
AreTicketsSound-bind : (s : Table) (b : ℕ) (f : Field) (w : ℕ) (test : Bool) → b < 8 → IsSound s → AreTicketsSound (if test then with_bound s b f w else with_unbound s b f w)
AreTicketsSound-bind s b f w false low h =
    TicketsSound-fresh (put_claim s.fresh b (space_of f) (index_of w) false) h.tickets (λ c j. put_claim-was s.fresh b (space_of f) (index_of w) c Trusted j)
AreTicketsSound-bind s b (field.External number) w true low h =
    TicketsSound-fresh (put_claim s.fresh b External (index_of w) false) h.tickets (λ c j. put_claim-was s.fresh b External (index_of w) c Trusted j)
AreTicketsSound-bind s b (field.Trusted number) w true low h = AreTicketsSound-fresh s b (index_of w) (s.fresh b Trusted (index_of w)) low h refl

AreTicketsSound-published : (s : Table) (b i : ℕ) → IsSound s → s.ticket b ≡ Some i → AreTicketsSound (with_published s b i)
AreTicketsSound-published s b i h held =
    TicketsSound-publish ((with_published s b i).cells Trusted) b i h.tickets held
    (λ j. elim (read_entry (option_map (λ (c : Cell). record c { shown = true }) (s.cells Trusted i)) s.cells Trusted i Trusted j) [
      | inl here ↦ inl here.0.1
      | inr other ↦ inr other.1
    ])

pub TicketsSound-row : (s : Table) (b : ℕ) (a : Act) → IsSound s → (row s b a).allowed → IsNoFinish a →
    TicketsSound ((row s b a).next.cells Trusted) (row s b a).next.fresh (row s b a).next.ticket
TicketsSound-row s b (New var) h k o = if_either AreTicketsSound (nat_lt s.count s.sizes.objects) (with_object s b var) s h.tickets h.tickets
TicketsSound-row s b (Drop var) h k o = h.tickets
TicketsSound-row s b (Get var spot) h k o = h.tickets
TicketsSound-row s b (Link spot var) h k o =
    with_linked_either AreTicketsSound s spot (object_in s b var) (λ g. h.tickets) (λ object n. h.tickets)
TicketsSound-row s b (Take p) h k o = with_taken_either AreTicketsSound s b p (least_free s p) h.tickets (λ i. h.tickets)
TicketsSound-row s b (Below start) h k o =
    with_taken_either AreTicketsSound s b External (free_below s start) h.tickets (λ i. h.tickets)
TicketsSound-row s b Abort h k o = h.tickets
TicketsSound-row s b (Put p i tag value) h k o = AreTicketsSound-put s b p i tag value h k.0
TicketsSound-row s b (Bind f w) h k o = AreTicketsSound-bind s b f w (s.words f == 0) (h.objects.variables b k.0.0 (object_of f) k.0.2).0 h
TicketsSound-row s b (Name f) h k o = h.tickets
TicketsSound-row s b (Look p w first last) h k o = h.tickets
TicketsSound-row s b (Set w first last value) h k o = h.tickets
TicketsSound-row s b (Swap w first last value) h k o = h.tickets
TicketsSound-row s b (Forge number w) h k o = h.tickets
TicketsSound-row s b (Publish i) h k o = AreTicketsSound-published s b i h k
TicketsSound-row s b (Mark p i) h k o = h.tickets
TicketsSound-row s b (Evac i number) h k o = h.tickets
TicketsSound-row s b (Scan m) h k o = h.tickets
TicketsSound-row s b (Start policy) h k o = TicketsSound-fresh (λ b p i. false) h.tickets (λ c j is. absurd (cc))
TicketsSound-row s b Finish h k o = absurd o
