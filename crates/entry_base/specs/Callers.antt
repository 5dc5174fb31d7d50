-- What a contract says of a view before and after a call.
use Rattle.std.specs.Prelude.{◌≡◌, ℕ, ◌^◌, ◌<◌, ◌≤◌, List, [], ◌∷◌, ◌++◌, Option, IfSome}
use Rattle.plain_table.specs.declared.events.Act.{Act}
use Rattle.plain_table.specs.declared.events.Event.{Event}
use Rattle.plain_table.specs.declared.events.Space.TheVariants.{Trusted}
use Rattle.plain_table.specs.declared.reports.Reply.{Reply}
use Rattle.plain_table.specs.History.{after}
use Rattle.plain_table.specs.Rows.{IsTag}
use Rattle.plain_table.specs.Table.{Table, limit_in}
use Rattle.entry_word.specs.declared.image.Pending.{Pending}
use Rattle.entry_base.specs.declared.view.Fact.{Fact}
use Rattle.entry_base.specs.declared.view.Opening.{Opening}
use Rattle.entry_base.specs.declared.view.View.{View}
use Rattle.entry_base.specs.Histories.{IsPhaseHistory, AreTrueAfter}
use Rattle.entry_base.specs.Lists.{Each, Has}
use Rattle.entry_base.specs.Numbers.{HasNumber, IsQuiet}
use Rattle.entry_base.specs.Openings.{IsBase, IsOpenable, phase_of, sizes_in, start_of}

-- objects that are within the limit, and what variables hold: 0 or the number of such an object plus 1
abbrev pub AreWithin : Opening → List ℕ → Type 0
AreWithin key objects = Each (λ o. o < (sizes_in key).objects) objects

abbrev pub AreVariables : Opening → List ℕ → Type 0
AreVariables key vars = Each (λ x. x ≤ (sizes_in key).objects) vars

-- a trusted cell that waits for its publishing: an index below the limit, a tag, and a value of 48 bits
pub record IsPublishable (key : Opening) (cell : Pending) : Type 0 where
  pub inside : cell.index < limit_in (sizes_in key) Trusted
  pub tagged : IsTag cell.tag × (cell.value < 2 ^ 48)

abbrev pub ArePublishable : Opening → List (Option Pending) → Type 0
ArePublishable key cells = Each (λ (cell : Option Pending). IfSome cell (IsPublishable key)) cells

-- a view that a call can be made from
pub record IsCaller (key : Opening) (v : View) : Type 0 where
  pub opened : v.opening ≡ key
  pub own : HasNumber v v.number
  pub lawful : IsPhaseHistory key v.seen
  pub variables : AreVariables key v.vars
  pub pending : ArePublishable key v.pending
  pub hands : AreWithin key v.hands

-- an event of the view's own number
abbrev pub event_of : View → Act → Reply → Event
event_of v act said = record { by = v.number; act = act; said = said }

-- the history so far was seen: what is new in it is by others
pub record Looks (v w : View) : Type 0 where
  pub between : List Event
  pub seen : w.seen ≡ v.seen ++ between
  pub quiet : IsQuiet v between
  pub lawful : IsPhaseHistory v.opening w.seen
  pub sure : AreTrueAfter v.opening w.seen w.facts

-- and then the event was added
pub record Extends (v : View) (e : Event) (w : View) : Type 0 where
  pub between : List Event
  pub seen : w.seen ≡ (v.seen ++ between) ++ e ∷ []
  pub quiet : IsQuiet v between
  pub lawful : IsPhaseHistory v.opening w.seen
  pub before : AreTrueAfter v.opening (v.seen ++ between) v.facts
  pub sure : AreTrueAfter v.opening w.seen w.facts

-- what no step changes but those that split and join; and what was known stays known
pub record SameCaller (v w : View) : Type 0 where
  pub opening : w.opening ≡ v.opening
  pub number : w.number ≡ v.number
  pub numbers : w.numbers ≡ v.numbers
  pub cut : w.cut ≡ v.cut
  pub knows : (f : Fact) → Has v.facts f → Has w.facts f

-- what a caller owns is as before
pub record SameOwn (v w : View) : Type 0 where
  pub vars : w.vars ≡ v.vars
  pub pending : w.pending ≡ v.pending
  pub owed : w.owed ≡ v.owed
  pub fresh : w.fresh ≡ v.fresh

-- the image of a phase that ended with the history h: it shows the table after h, whichever table the phase began in
pub record IsClosed (key : Opening) (h : List Event) (closed : Opening) : Type 0 where
  pub sizes : sizes_in closed ≡ sizes_in key
  pub lawful : IsPhaseHistory key h
  pub shows : (b : Table) → IsBase key b → IsBase closed (after b h)
  -- so another phase can be opened with it, in the same cycle and with the same area
  pub openable : IsOpenable closed
  pub phase : phase_of closed ≡ phase_of key
  pub start : start_of closed ≡ start_of key
