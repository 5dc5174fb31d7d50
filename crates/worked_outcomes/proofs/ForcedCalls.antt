-- The events that a call must have made: in a legal history each reply is that of the table, so a call with a known reply
-- has no choice.
use Rattle.std.proofs.Common.{◌≡◌, ◌≢◌, ◌⊎◌, ℕ, suc, ◌<◌, Bool, Option, Some, None, List, [], ◌∷◌, ◌++◌, refl, ap, subst, ◌∙◌, arith, inl, inr, eq-eqb}
use Rattle.std.specs.Prelude.{if◌then◌else◌}
use Rattle.std.specs.Option.{option_map_or}
use Rattle.std.specs.List.{All}
use Rattle.std.proofs.lemmas.Option.{MatchOption-at_some}
use Rattle.plain_table.specs.declared.scripts.Limits.{Limits}
use Rattle.plain_table.specs.declared.scripts.Op.{Op}
use Rattle.plain_table.specs.declared.scripts.Op.TheVariants as op
use Rattle.plain_table.specs.declared.events.Act.TheVariants.{New}
use Rattle.plain_table.specs.declared.events.Event.{Event}
use Rattle.plain_table.specs.declared.events.Space.TheVariants.{External}
use Rattle.plain_table.specs.declared.reports.Reply.{Reply}
use Rattle.plain_table.specs.declared.reports.Reply.TheVariants as reply
use Rattle.plain_table.specs.Table.{Table, least_free}
use Rattle.plain_table.specs.History.{IsLegalHistory, next, after}
use Rattle.plain_table.specs.Shapes.{Held, OwnTicket, MakesCalls, IsEmptyCall, IsInit, event, external_field, held_after, own_after}
use Rattle.plain_table.specs.Belongs.{IsMarker, events_by}
use Rattle.worked_outcomes.specs.Compactions.{init}

-- a legal history in two parts
pub legal-parts : (s : Table) (es fs : List Event) → IsLegalHistory s (es ++ fs) → IsLegalHistory s es × IsLegalHistory (after s es) fs
legal-parts s [] fs legal = (tt, legal)
legal-parts s (e ∷ es) fs legal = let more = legal-parts (next s e) es fs legal.1 in ((legal.0, more.0), more.1)

-- all events are those of the one mutator, where there is no marker
pub events-mine : (limits : Limits) (es : List Event) → limits.mutators ≡ 1 → limits.markers ≡ 0 →
    All (λ (e : Event). (e.by < limits.mutators) ⊎ IsMarker limits e.by) es → events_by 0 es ≡ es
events-mine limits [] one none numbers = refl
events-mine limits (e ∷ es) one none numbers =
    let mine : e.by ≡ 0 = elim (numbers 0 e (omega arith)) [ inl below ↦ omega arith | inr is ↦ absurd (omega (arith, is.0, is.1)) ] in
    ap (λ (test : Bool). if test then e ∷ events_by 0 es else events_by 0 es) (eq-eqb e.by 0 mine)
    ∙ ap (λ (more : List Event). e ∷ more) (events-mine limits es one none (λ k d within. numbers (suc k) d (omega arith)))

-- what follows the events of the first call
pub record Forced (s : Table) (held : Held) (own : OwnTicket) (front : List Event) (calls : List Op) (replies : List Reply) (es : List Event) : Type 0 where
  pub later : List Event
  pub is : es ≡ front ++ later
  pub made : MakesCalls 0 None (held_after held front) (own_after own front) calls replies later
  pub legal : IsLegalHistory (after s front) later

forced-by : (s : Table) (held : Held) (own : OwnTicket) (front first later : List Event) (calls : List Op) (replies : List Reply) (es : List Event) →
    es ≡ first ++ later → first ≡ front → MakesCalls 0 None (held_after held first) (own_after own first) calls replies later →
    IsLegalHistory s es → Forced s held own front calls replies es
forced-by s held own front first later calls replies es is same made legal =
    let whole : es ≡ front ++ later = is ∙ ap (λ (x : List Event). x ++ later) same in
    record {
      later = later;
      is = whole;
      made = subst (λ (x : List Event). MakesCalls 0 None (held_after held x) (own_after own x) calls replies later) same made;
      legal = (legal-parts s front later (subst (IsLegalHistory s) whole legal)).1;
    }

-- before the first call nothing has followed
pub none-forced : (s : Table) (held : Held) (own : OwnTicket) (calls : List Op) (replies : List Reply) (es : List Event) →
    MakesCalls 0 None held own calls replies es → IsLegalHistory s es → Forced s held own [] calls replies es
none-forced s held own calls replies es made legal = record { later = es; is = refl; made = made; legal = legal }

module _ {s : Table} {held : Held} {own : OwnTicket} {front : List Event} {calls : List Op} {replies : List Reply} {es : List Event} where
  pub new-forced : (var : ℕ) (said : Reply) (h : Forced s held own front (op.New var ∷ calls) (said ∷ replies) es) →
      Forced (after s front) (held_after held front) (own_after own front) (event 0 (New var) said ∷ []) calls replies h.later
  new-forced var said h =
      forced-by (after s front) (held_after held front) (own_after own front) (event 0 (New var) said ∷ []) h.made.0 h.made.1 calls replies h.later
      h.made.2 h.made.3 h.made.4 h.legal

  -- an init that did not find the space full took the least free index
  pub init-forced : (f i tag value : ℕ) (said : Reply) (h : Forced s held own front (op.Init 0 f tag value ∷ calls) (said ∷ replies) es) →
      held_after held front 0 ≡ Some 0 → said ≢ reply.Full → least_free (after s front) External ≡ Some i →
      Forced (after s front) (held_after held front) (own_after own front) (init f i tag value said) calls replies h.later
  init-forced f i tag value said h holds some free =
      let made = h.made in
      let shape : IsInit 0 None (external_field 0 f) tag value said made.0 =
      MatchOption-at_some (IsEmptyCall said made.0) (λ o. IsInit 0 None (external_field o f) tag value said made.0) 0 holds made.3 in
      elim shape [
        | inl full ↦ absurd (some full.0)
        | inr (j, is) ↦
            let whole : h.later ≡ init f j tag value said ++ made.1 = made.2 ∙ ap (λ (x : List Event). x ++ made.1) is in
            let taken : reply.Index j ≡ option_map_or reply.Index (least_free (after s front) External) reply.Full =
            (subst (IsLegalHistory (after s front)) whole h.legal).0.1 in
            let index : reply.Index j ≡ reply.Index i = taken ∙ ap (λ (o : Option ℕ). option_map_or reply.Index o reply.Full) free in
            let same : j ≡ i = cc in
            forced-by (after s front) (held_after held front) (own_after own front) (init f i tag value said) made.0 made.1 calls replies h.later made.2
            (is ∙ ap (λ (k : ℕ). init f k tag value said) same) made.4 h.legal
      ]
