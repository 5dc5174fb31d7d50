-- Calls of no event and of one.
use Rattle.std.proofs.Common.{◌≡◌, List, [], ◌∷◌, ◌++◌, Option, sym, subst, subst₂, refl}
use Rattle.plain_table.specs.declared.events.Act.{Act}
use Rattle.plain_table.specs.declared.events.Event.{Event}
use Rattle.plain_table.specs.declared.scripts.Op.{Op}
use Rattle.plain_table.specs.declared.reports.Reply.{Reply}
use Rattle.plain_table.specs.Cycle.{Cycle}
use Rattle.plain_table.specs.History.{IsLegal, IsLegalHistory, after, next}
use Rattle.plain_table.specs.Shapes.{Held, OwnTicket, IsShape, event, held_after, held_next, own_after, own_next}
use Rattle.plain_table.specs.Sound.{IsSound}
use Rattle.plain_table.specs.Table.{Table}
use Rattle.entry_base.specs.declared.view.View.{View}
use Rattle.entry_base.specs.Callers.{SameCaller, Extends, event_of}
use Rattle.entry_base.specs.Numbers.{HasNumber}
use Rattle.entry_base.specs.Openings.{sizes_in}
use Rattle.call_base.specs.Called.{Called, EndsWith, HeldAtLast, Made, Suits}
use Rattle.call_base.proofs.CallsInOrder.{EndsWith-last, called_extends, called_none, called_then, suits_stay}

-- a step with one event of the caller's number
pub called_once : (v w : View) (act : Act) (said : Reply) → HasNumber v v.number → SameCaller v w → Extends v (event_of v act said) w → Called v (event_of v act said ∷ []) w
called_once v w act said own same extends = called_extends v w (event_of v act said) refl own same extends

pub ends_once : (v w : View) (e : Event) → Extends v e w → EndsWith (e ∷ []) w.seen
ends_once v w e extends = (v.seen ++ extends.between, extends.seen)

-- and where it comes after the others of its call
pub ends_then : (v w : View) (es : List Event) (e : Event) → Extends v e w → EndsWith (es ++ e ∷ []) w.seen
ends_then v w es e extends = EndsWith-last es e (v.seen ++ extends.between) w.seen extends.seen

-- the call has this shape, whatever the model has that suits the view
abbrev pub HasShape : View → Op → Reply → List Event → Type 0
HasShape v call said events =
    (cycle : Option Cycle) (held : Held) (own : OwnTicket) → Suits v cycle held own → IsShape v.number cycle held own.ticket call said events

-- a call without an event
pub made_still : (v : View) (call : Op) (said : Reply) → HasShape v call said [] → Made v call said v
made_still v call said shape = record {
  own = [];
  called = called_none v;
  ends = tt;
  shape = shape;
  suits = λ cycle held own suits. suits;
}

-- a call whose events leave variables and ticket, in the model as in the view
pub made_stays : (v w : View) (call : Op) (said : Reply) (events : List Event) → Called v events w → EndsWith events w.seen → HasShape v call said events
    → ((cycle : Option Cycle) (held : Held) (own : OwnTicket) → Suits v cycle held own → Suits w cycle held own)
    → ((held : Held) → held_after held events ≡ held) → ((own : OwnTicket) → own_after own events ≡ own) → Made v call said w
made_stays v w call said events called ends shape suits held_still own_still = record {
  own = events;
  called = called;
  ends = ends;
  shape = shape;
  suits = λ cycle held own is. subst₂ (λ h t. Suits w cycle h t) (sym (held_still held)) (sym (own_still own)) (suits cycle held own is);
}

-- a call of one event that leaves variables and ticket
pub made_once : (v w : View) (call : Op) (act : Act) (said : Reply) → HasNumber v v.number → SameCaller v w → w.vars ≡ v.vars → w.pending ≡ v.pending
    → Extends v (event_of v act said) w → HasShape v call said (event_of v act said ∷ [])
    → ((held : Held) → held_next held act said ≡ held) → ((own : OwnTicket) → own_next own act said ≡ own) → Made v call said w
made_once v w call act said own same vars pending extends shape held_still own_still =
    made_stays v w call said (event_of v act said ∷ []) (called_once v w act said own same extends) (ends_once v w (event_of v act said) extends) shape
    (suits_stay v w same vars pending) held_still own_still

-- a step with one event, after others without one
pub called_after : (u v w : View) (act : Act) (said : Reply) → HasNumber v v.number → Called u [] v → SameCaller v w → Extends v (event_of v act said) w → Called u (event_of u act said ∷ []) w
called_after u v w act said own before same extends = called_then u v w [] (λ b. event b act said ∷ []) before (called_once v w act said own same extends)

pub ends_after : (u v w : View) (act : Act) (said : Reply) → Called u [] v → Extends v (event_of v act said) w → EndsWith (event_of u act said ∷ []) w.seen
ends_after u v w act said before extends = subst (λ b. EndsWith (event b act said ∷ []) w.seen) before.same.number (ends_once v w (event_of v act said) extends)

-- and a call that makes them, and leaves variables and ticket
pub made_after : (u v w : View) (call : Op) (act : Act) (said : Reply) → HasNumber v v.number → Called u [] v → SameCaller v w → w.vars ≡ u.vars → w.pending ≡ u.pending
    → Extends v (event_of v act said) w → HasShape u call said (event_of u act said ∷ [])
    → ((held : Held) → held_next held act said ≡ held) → ((own : OwnTicket) → own_next own act said ≡ own) → Made u call said w
made_after u v w call act said own before same vars pending extends shape held_still own_still =
    let called = called_after u v w act said own before same extends in
    made_stays u w call said (event_of u act said ∷ []) called (ends_after u v w act said before extends) shape (suits_stay u w called.same vars pending) held_still own_still

-- the last event of a legal history is legal in the table that the others left
pub IsLegalHistory-last : (b : Table) (es : List Event) (e : Event) → IsLegalHistory b (es ++ e ∷ []) → IsLegal (after b es) e
IsLegalHistory-last b [] e h = h.0
IsLegalHistory-last b (d ∷ es) e h = IsLegalHistory-last (next b d) es e h.1

-- what a step with an event says of the moment before it: the event was legal, with its reply, in a sound table of these sizes
pub held_at_last : (v w : View) (e : Event) (P : Table → Type 0) → Extends v e w
    → ((t : Table) → IsSound t → t.sizes ≡ sizes_in v.opening → IsLegal t e → P t) → HeldAtLast v.opening w.seen P
held_at_last v w e P x holds = record {
  front = v.seen ++ x.between;
  last = e;
  ends = x.seen;
  held = λ b is. holds (after b (v.seen ++ x.between)) (x.before b is).sound (x.before b is).sizes
      (IsLegalHistory-last b (v.seen ++ x.between) e (subst (IsLegalHistory b) x.seen (x.lawful.legal b is)));
}
