-- Binding a trusted cell that the caller filled to a field keeps the rule: where the field is 0, the cell becomes the caller's
-- ticket, and what a session has stays tied to its view.
use Rattle.std.proofs.Common.{◌≡◌, ℕ, ◌^◌, ◌<◌, ◌==◌, if◌then◌else◌, Bool, true, false, List, set, slice_index_or, length, get_or-set_same, get_or-set_other, Option, Some, None, IsTrue, IsSomeAnd, refl, sym, ap, subst, ◌∙◌, eq-eqb, inl, inr}
use Rattle.std.proofs.lemmas.Bool.{cases_lt}
use Rattle.std.proofs.lemmas.List.{get_or_past}
use prog.Atomic.{either}
use Rattle.atomic_table.specs.Table.{Me}
use Rattle.plain_table.specs.declared.events.Cell.{Cell}
use Rattle.plain_table.specs.declared.events.Event.{Event}
use Rattle.plain_table.specs.declared.events.Field.TheVariants as field
use Rattle.plain_table.specs.declared.events.Space.TheVariants.{Trusted}
use Rattle.plain_table.specs.Index.{index_of}
use Rattle.plain_table.specs.Places.{put_at}
use Rattle.plain_table.specs.Rows.{with_bound, with_unbound}
use Rattle.plain_table.specs.Shows.{IsPending}
use Rattle.plain_table.specs.Table.{Table}
use Rattle.plain_table.specs.Words.{field_place}
use Rattle.plain_table.proofs.PlaceReads.{read_at}
use Rattle.entry_word.specs.declared.image.Pending.{Pending}
use Rattle.entry_base.specs.declared.view.Claim.{Claim}
use Rattle.entry_base.specs.declared.view.Fact.TheVariants as fact
use Rattle.entry_base.specs.declared.view.Opening.{Opening}
use Rattle.entry_base.specs.declared.view.View.{View}
use Rattle.entry_base.specs.Callers.{IsCaller}
use Rattle.entry_base.specs.Lists.{Has}
use Rattle.entry_base.specs.Numbers.{HasNumber}
use Rattle.entry_base.specs.Openings.{pending_cell}
use Rattle.entry_base.specs.Owns.{IsHeld, Owns, claim_of, without_claim}
use Rattle.entry_base.specs.Tied.{IsTied, Parts}
use Rattle.entry_base.proofs.OwnsStay.{claims_left}
use Rattle.entry_base.proofs.Steps.{Given, Keeps}
use Rattle.entry_base.proofs.Sums.{each_has}
use Rattle.entry_base.proofs.TiedParts.{tied_ticket}
use Rattle.object_rule.specs.Fields.{BoundTrusted}
use Rattle.object_rule.proofs.BindSteps.{BindFits, binds_field, bound_view}

-- a view has a place for the ticket of each of its mutators: past the end of its tickets any value would be the ticket
place_within : (s : Table) (v : View) (b : ℕ) → Owns s v → HasNumber v b → b < 8 → b < length v.pending
place_within s v b owns has few = elim (cases_lt b (length v.pending)) [
  | inl within ↦ within
  | inr past ↦ absurd (not_all (s.ticket b) (λ d. subst (λ (x : Option Pending). IsPending s (s.ticket b) (pending_cell x)) (get_or_past v.pending b d past) (owns.pending b d has few)))
]
  where
    not_all : (ticket : Option ℕ) → ((d : Option Pending) → IsPending s ticket (pending_cell d)) → ⊥
    not_all None all = absurd (let wrong = all (Some (record { index = 0; tag = 0; value = 0 })) in cc)
    not_all (Some i) all = go (s.cells Trusted i) (all None)
      where
        go : (found : Option Cell) → IsSomeAnd found (λ c. pending_cell None ≡ Some (record { index = i; tag = c.tag; value = c.value })) → ⊥
        go None h = h
        go (Some c) h = absurd (cc)

module _ (v : View) (o word tag value : ℕ) where
  abbrev ticket : Option Pending
  ticket = Some (record { index = index_of word; tag = tag; value = value })

  abbrev pending : ℕ → List (Option Pending)
  pending n = if n == 0 then set v.pending v.number ticket else v.pending

  abbrev fresh : List Claim
  fresh = without_claim v.number Trusted (index_of word) v.fresh

  module _ (key : Opening) (log : List Event) (shown words : List ℕ) (s : Table) (g : Given key log shown words v s) (caller : IsCaller key v) (mutator : v.number < 8)
      (filled : Has v.fresh (claim_of v Trusted (index_of word))) (cell : Has v.facts (fact.Trusted (index_of word) tag value)) where
    fresh_here : IsTrue (s.fresh v.number Trusted (index_of word))
    fresh_here = (each_has _ v.fresh (claim_of v Trusted (index_of word)) g.owns.fresh filled).1

    -- the ticket of the caller, and those of its other numbers
    new_ticket : (b : ℕ) (d : Option Pending) → HasNumber v b → b < 8 → IsPending s (put_at s.ticket v.number (Some (index_of word)) b) (pending_cell (slice_index_or (set v.pending v.number ticket) b d))
    new_ticket b d has few = elim (read_at (Some (index_of word)) s.ticket v.number b) [
      | inl r ↦
          subst (λ x. IsPending s x (pending_cell (slice_index_or (set v.pending v.number ticket) b d))) (sym r.1)
          (subst (λ n. IsPending s (Some (index_of word)) (pending_cell (slice_index_or (set v.pending v.number ticket) n d))) r.0
          (subst (λ x. IsPending s (Some (index_of word)) (pending_cell x)) (sym (get_or-set_same v.pending v.number ticket d (place_within s v v.number g.owns caller.own mutator)))
          (there (s.cells Trusted (index_of word)) (each_has _ v.facts (fact.Trusted (index_of word) tag value) g.known cell).0)))
      | inr r ↦
          subst (λ x. IsPending s x (pending_cell (slice_index_or (set v.pending v.number ticket) b d))) (sym r.1)
          (subst (λ x. IsPending s (s.ticket b) (pending_cell x)) (sym (get_or-set_other v.pending v.number b ticket d (λ same. r.0 (sym same)))) (g.owns.pending b d has few))
    ]
      where
        there : (found : Option Cell) → IsSomeAnd found (λ c. (c.tag ≡ tag) × (c.value ≡ value))
            → IsSomeAnd found (λ c. pending_cell ticket ≡ Some (record { index = index_of word; tag = c.tag; value = c.value }))
        there None h = h
        there (Some c) h = λ i. Some (record { index = index_of word; tag = sym h.0 i; value = sym h.1 i })

    owns_either : (empty : Bool) (es : List Event) → Owns (if empty then with_bound s v.number (field.Trusted o) word else with_unbound s v.number (field.Trusted o) word)
        (bound_view v (if empty then set v.pending v.number ticket else v.pending) fresh es)
    owns_either true es = record {
      variables = g.owns.variables;
      pending = λ b d has few. subst (λ (m : ℕ → Option ℕ). IsPending s (m b) (pending_cell (slice_index_or (set v.pending v.number ticket) b d)))
          (sym (ap (λ (x : Bool). if x then put_at s.ticket v.number (Some (index_of word)) else s.ticket) fresh_here)) (new_ticket b d has few);
      owed = g.owns.owed;
      fresh = claims_left _ s.fresh v.number Trusted (index_of word) v.fresh g.owns.fresh;
    }
    owns_either false es = record { variables = g.owns.variables; pending = g.owns.pending; owed = g.owns.owed; fresh = claims_left _ s.fresh v.number Trusted (index_of word) v.fresh g.owns.fresh }

    trusted_fits : BindFits v (field.Trusted o) word pending fresh s
    trusted_fits = record {
      may = inl fresh_here;
      owns = λ n es is. subst (λ m. Owns (if s.words (field.Trusted o) == 0 then with_bound s v.number (field.Trusted o) word else with_unbound s v.number (field.Trusted o) word) (bound_view v (pending m) fresh es))
          (sym is) (owns_either (s.words (field.Trusted o) == 0) es);
    }

pub binds_trusted : (key : Opening) (slots id : ℕ) (me : Me (Unit {0}) View) (o word tag value : ℕ) → IsCaller key me.0 → me.0.number < 8 → IsHeld me.0 o → Has me.0.fresh (claim_of me.0 Trusted (index_of word)) → Has me.0.facts (fact.Trusted (index_of word) tag value) → word < 2 ^ 32 → Keeps key slots id me (field_place (field.Trusted o)) (λ n. either (n == 0) word n) (λ found w. BoundTrusted me.0 o word tag value found w)
binds_trusted key slots id me o word tag value caller mutator held filled cell fits =
    binds_field key me.0 (field.Trusted o) word (pending me.0 o word tag value) (fresh me.0 o word tag value) caller mutator held fits
    (λ log shown words s g. trusted_fits me.0 o word tag value key log shown words s g caller mutator filled cell)
    slots id me.1 (λ found w. BoundTrusted me.0 o word tag value found w) (λ n es small extends. record {
      same = record { opening = refl; number = refl; numbers = refl; cut = refl; knows = λ x has. has };
      rest = (refl, refl, refl);
      pending = refl;
      fresh = refl;
      extends = extends;
      small = small;
    })

-- what a session has stays tied to its view: where the field was 0, its ticket is set in both
pub bound_tied : (v w : View) (x : Parts) (o word tag value found : ℕ) → IsTied x v → BoundTrusted v o word tag value found w → found ≡ 0
    → IsTied (record x { pending = set x.pending x.number (ticket v o word tag value) }) w
bound_tied v w x o word tag value found is t none_there =
    subst (λ n. IsTied (record x { pending = set x.pending n (ticket v o word tag value) }) w) (sym is.number)
    (tied_ticket v w x v.number (ticket v o word tag value) t.same.opening t.same.number t.same.numbers t.rest.0
    (t.pending ∙ ap (λ (b : Bool). if b then set v.pending v.number (ticket v o word tag value) else v.pending) (eq-eqb found 0 none_there)) is)
