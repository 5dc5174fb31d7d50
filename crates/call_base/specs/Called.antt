-- What every call says of the views before and after it, and how the calls of a mutator follow one another.
use Rattle.std.specs.Prelude.{◌≡◌, ◌⊎◌, ℕ, ◌+◌, ◌*◌, ◌<◌, List, [], ◌∷◌, ◌++◌, Option, IfSome, slice_index}
use Rattle.plain_table.specs.declared.events.Event.{Event}
use Rattle.plain_table.specs.declared.scripts.Op.{Op}
use Rattle.plain_table.specs.declared.reports.Reply.{Reply}
use Rattle.plain_table.specs.Belongs.{events_by}
use Rattle.plain_table.specs.Cycle.{Cycle, start_in}
use Rattle.plain_table.specs.History.{after}
use Rattle.plain_table.specs.Table.{Table}
use Rattle.plain_table.specs.Words.{object_word, phase_word}
use Rattle.plain_table.specs.Shapes.{Held, OwnTicket, IsShape, MakesCalls, held_after, own_after, with_ticket}
use Rattle.entry_base.specs.declared.view.Opening.{Opening}
use Rattle.entry_base.specs.declared.view.View.{View}
use Rattle.entry_base.specs.Callers.{SameCaller, SameOwn}
use Rattle.entry_base.specs.Lists.{Each, count_in}
use Rattle.entry_base.specs.Openings.{IsBase, phase_of, sizes_in, start_of}
use Rattle.entry_base.specs.Sessions.{ticket_in}

-- an event of the caller, or of a number that is none of its numbers
abbrev pub IsHere : View → Event → Type 0
IsHere v e = (e.by ≡ v.number) ⊎ (count_in e.by v.numbers ≡ 0)

-- the history that was seen grew by a part whose own events are these, in this order; others' may stand between
pub record Called (v : View) (own : List Event) (w : View) : Type 0 where
  pub same : SameCaller v w
  pub grown : List Event
  pub seen : w.seen ≡ v.seen ++ grown
  pub mine : events_by v.number grown ≡ own
  pub here : Each (IsHere v) grown

-- the history ends with the last one of these events, where there is one
abbrev pub EndsWith : List Event → List Event → Type 0
EndsWith [] seen = Unit {0}
EndsWith (e ∷ []) seen = (front : List Event) × (seen ≡ front ++ e ∷ [])
EndsWith (e ∷ f ∷ es) seen = EndsWith (f ∷ es) seen

-- this held of the table right before the last event of a history, whichever table the phase began in
pub record HeldAtLast (key : Opening) (h : List Event) (P : Table → Type 0) : Type 0 where
  pub front : List Event
  pub last : Event
  pub ends : h ≡ front ++ last ∷ []
  pub held : (b : Table) → IsBase key b → P (after b front)

-- the cycle, the variables and the ticket of the model are those that the view tells
pub record Suits (v : View) (cycle : Option Cycle) (held : Held) (own : OwnTicket) : Type 0 where
  pub phase : phase_word cycle ≡ phase_of v.opening
  pub start : start_in cycle ≡ start_of v.opening
  pub holds : (i : ℕ) → i < 16 → slice_index v.vars (16 * v.number + i) ≡ object_word (held i)
  pub pends : own ≡ with_ticket (ticket_in v)

-- one call of a mutator: its events are its shape with its reply, for whatever the view tells, and they leave what the view
-- then tells
pub record Made (v : View) (call : Op) (said : Reply) (w : View) : Type 0 where
  pub own : List Event
  pub called : Called v own w
  pub ends : EndsWith own w.seen
  pub shape : (cycle : Option Cycle) (held : Held) (ticket : OwnTicket) → Suits v cycle held ticket → IsShape v.number cycle held ticket.ticket call said own
  pub suits : (cycle : Option Cycle) (held : Held) (ticket : OwnTicket) → Suits v cycle held ticket → Suits w cycle (held_after held own) (own_after ticket own)

-- calls one after another
pub record MadeAll (v : View) (calls : List Op) (replies : List Reply) (w : View) : Type 0 where
  pub own : List Event
  pub called : Called v own w
  pub makes : (cycle : Option Cycle) (held : Held) (ticket : OwnTicket) → Suits v cycle held ticket → MakesCalls v.number cycle held ticket calls replies own
  pub suits : (cycle : Option Cycle) (held : Held) (ticket : OwnTicket) → Suits v cycle held ticket → Suits w cycle (held_after held own) (own_after ticket own)

-- what a caller owns, and its hands, are as before
pub record LeavesOwn (v w : View) : Type 0 where
  pub own : SameOwn v w
  pub hands : w.hands ≡ v.hands

-- what stands in a variable of the view's own number: nothing, or an object within the limit
abbrev pub HeldAs : View → ℕ → Option ℕ → Type 0
HeldAs v var o = (var < 16) × (slice_index v.vars (16 * v.number + var) ≡ object_word o) × IfSome o (λ q. q < (sizes_in v.opening).objects)
