-- The calls that make one event each, whatever their replies are: the reply is that of the row, so the event has no choice.
-- And the phases of a script, one by one.
use Rattle.std.proofs.Common.{◌≡◌, ℕ, Bool, Option, List, [], ◌∷◌, ◌++◌, refl, ap, subst, ◌∙◌}
use Rattle.plain_table.specs.declared.scripts.Limits.{Limits}
use Rattle.plain_table.specs.declared.scripts.Op.{Op}
use Rattle.plain_table.specs.declared.scripts.Phase.{Phase}
use Rattle.plain_table.specs.declared.events.Act.{Act}
use Rattle.plain_table.specs.declared.events.Event.{Event}
use Rattle.plain_table.specs.declared.reports.PhaseReport.{PhaseReport}
use Rattle.plain_table.specs.declared.reports.Reply.{Reply}
use Rattle.plain_table.specs.Cycle.{Cycle}
use Rattle.plain_table.specs.Table.{Table}
use Rattle.plain_table.specs.Rows.{row}
use Rattle.plain_table.specs.History.{IsLegalHistory, after}
use Rattle.plain_table.specs.Shapes.{Held, OwnTicket, IsShape, MakesCalls, event, held_after, own_after}
use Rattle.plain_table.specs.Sweeps.{linked_after}
use Rattle.plain_table.specs.Belongs.{Part, PhaseBelongs, PhasesBelong, events_of, is_start}

-- what follows the events of the calls so far, with some replies
pub record Follows (s : Table) (cycle : Option Cycle) (held : Held) (own : OwnTicket) (front : List Event) (calls : List Op) (es : List Event) : Type 0 where
  pub later : List Event
  pub replies : List Reply
  pub is : es ≡ front ++ later
  pub made : MakesCalls 0 cycle (held_after held front) (own_after own front) calls replies later
  pub legal : IsLegalHistory (after s front) later

single-by : (s : Table) (cycle : Option Cycle) (held : Held) (own : OwnTicket) (call : Op) (calls : List Op) (es : List Event) (act : Act)
    (replies : List Reply) → MakesCalls 0 cycle held own (call ∷ calls) replies es → IsLegalHistory s es →
    ((said : Reply) (first : List Event) → IsShape 0 cycle held own.ticket call said first → first ≡ event 0 act said ∷ []) →
    Follows s cycle held own (event 0 act (row s 0 act).reply ∷ []) calls es
single-by s cycle held own call calls es act [] made legal shape = absurd made
single-by s cycle held own call calls es act (said ∷ replies) made legal shape =
    let first : made.0 ≡ event 0 act said ∷ [] = shape said made.0 made.3 in
    let whole : es ≡ event 0 act said ∷ made.1 = made.2 ∙ ap (λ (x : List Event). x ++ made.1) first in
    let said_is : said ≡ (row s 0 act).reply = (subst (IsLegalHistory s) whole legal).0.1 in
    let front : made.0 ≡ event 0 act (row s 0 act).reply ∷ [] = first ∙ ap (λ (r : Reply). event 0 act r ∷ []) said_is in
    let is : es ≡ (event 0 act (row s 0 act).reply ∷ []) ++ made.1 = made.2 ∙ ap (λ (x : List Event). x ++ made.1) front in
    record {
      later = made.1;
      replies = replies;
      is = is;
      made = subst (λ (x : List Event). MakesCalls 0 cycle (held_after held x) (own_after own x) calls replies made.1) front made.4;
      legal = (subst (IsLegalHistory s) is legal).1;
    }

module _ {s : Table} {cycle : Option Cycle} {held : Held} {own : OwnTicket} {front : List Event} {call : Op} {calls : List Op} {es : List Event} where
  pub single : (act : Act) (h : Follows s cycle held own front (call ∷ calls) es) →
      ((said : Reply) (first : List Event) → IsShape 0 cycle (held_after held front) (own_after own front).ticket call said first → first ≡ event 0 act said ∷ []) →
      Follows (after s front) cycle (held_after held front) (own_after own front) (event 0 act (row (after s front) 0 act).reply ∷ []) calls h.later
  single act h shape = single-by (after s front) cycle (held_after held front) (own_after own front) call calls h.later act h.replies h.made h.legal shape

-- no event is left where no call is
pub none-left : (cycle : Option Cycle) (held : Held) (own : OwnTicket) (replies : List Reply) (es : List Event) →
    MakesCalls 0 cycle held own [] replies es → es ≡ []
none-left cycle held own [] es made = made
none-left cycle held own (said ∷ replies) es made = absurd made

pub none-later : {s : Table} {cycle : Option Cycle} {held : Held} {own : OwnTicket} {front es : List Event} (h : Follows s cycle held own front [] es) → h.later ≡ []
none-later {s} {cycle} {held} {own} {front} h = none-left cycle (held_after held front) (own_after own front) h.replies h.later h.made

-- the first of some phases, and the others
pub record First (limits : Limits) (begins : Bool) (linked : List ℕ) (s : Table) (phase : Phase) (phases : List Phase) (parts : List Part) : Type 0 where
  pub part : Part
  pub parts_left : List Part
  pub report : PhaseReport
  pub reports_left : List PhaseReport
  pub is : parts ≡ part ∷ parts_left
  pub here : PhaseBelongs limits begins linked s phase part report
  pub later : PhasesBelong limits (is_start phase.meet) (linked_after s linked (events_of part)) (after s (events_of part)) phases parts_left reports_left

pub first-phase : (limits : Limits) (begins : Bool) (linked : List ℕ) (s : Table) (phase : Phase) (phases : List Phase) (parts : List Part)
    (reports : List PhaseReport) → PhasesBelong limits begins linked s (phase ∷ phases) parts reports → First limits begins linked s phase phases parts
first-phase limits begins linked s phase phases [] [] h = absurd h
first-phase limits begins linked s phase phases [] (r ∷ rs) h = absurd h
first-phase limits begins linked s phase phases (p ∷ ps) [] h = absurd h
first-phase limits begins linked s phase phases (p ∷ ps) (r ∷ rs) h =
    record { part = p; parts_left = ps; report = r; reports_left = rs; is = refl; here = h.0; later = h.1 }

pub no-phase : (limits : Limits) (begins : Bool) (linked : List ℕ) (s : Table) (parts : List Part) (reports : List PhaseReport) →
    PhasesBelong limits begins linked s [] parts reports → parts ≡ []
no-phase limits begins linked s [] reports h = refl
no-phase limits begins linked s (p ∷ ps) [] h = absurd h
no-phase limits begins linked s (p ∷ ps) (r ∷ rs) h = absurd h
