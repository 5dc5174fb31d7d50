-- What a mutator's calls in a phase leave: the shapes of the calls with their replies, and what the calls link.
use Rattle.std.specs.Prelude.{◌≡◌, ◌⊎◌, ℕ, ◌+◌, List, [], ◌∷◌, ◌++◌, Option, Some}
use Rattle.std.specs.Option.{option_to_list}
use Rattle.plain_table.specs.declared.events.Act.{Act}
use Rattle.plain_table.specs.declared.events.Act.TheVariants.{Link}
use Rattle.plain_table.specs.declared.events.Event.{Event}
use Rattle.plain_table.specs.declared.events.Spot.TheVariants.{Ref}
use Rattle.plain_table.specs.declared.reports.Reply.{Reply}
use Rattle.plain_table.specs.declared.reports.Reply.TheVariants as reply
use Rattle.plain_table.specs.declared.scripts.Op.{Op}
use Rattle.plain_table.specs.declared.scripts.Op.TheVariants.{Init}
use Rattle.plain_table.specs.Cycle.{Cycle}
use Rattle.plain_table.specs.Shapes.{Held, OwnTicket, held_next}
use Rattle.entry_base.specs.declared.view.Fact.TheVariants as fact
use Rattle.entry_base.specs.declared.view.View.{View}
use Rattle.entry_base.specs.Lists.{Has}
use Rattle.entry_base.specs.Openings.{phase_of}
use Rattle.call_base.specs.Called.{Made, MadeAll, Suits}

-- the object that an event of a mutator links to a reference, by what its variables hold before it
abbrev pub linked_at : Held → Act → List ℕ
linked_at held (Link (Ref o k) (Some var)) = option_to_list (held var)
linked_at held _ = []

-- those that its events link, one after another
abbrev pub linked_by : Held → List Event → List ℕ
linked_by held [] = []
linked_by held (e ∷ es) = linked_at held e.act ++ linked_by (held_next held e.act e.said) es

-- what a mutator's events leave of marking: an object that came into the hands was linked to a reference, and what was linked in
-- a cycle is known as shaded
pub record Links (v : View) (own : List Event) (w : View) : Type 0 where
  pub hands : (cycle : Option Cycle) (held : Held) (ticket : OwnTicket) → Suits v cycle held ticket →
      (o : ℕ) → Has w.hands o → Has v.hands o ⊎ Has (linked_by held own) o
  pub shaded : (cycle : Option Cycle) (held : Held) (ticket : OwnTicket) → Suits v cycle held ticket → phase_of v.opening ≡ 1 →
      (o : ℕ) → Has (linked_by held own) o → Has w.facts (fact.Shaded o)

-- one call: its shape with its reply, and what it links
pub record Makes (v : View) (call : Op) (said : Reply) (w : View) : Type 0 where
  pub made : Made v call said w
  pub links : Links v made.own w

-- calls one after another
pub record MakesInTurn (v : View) (calls : List Op) (replies : List Reply) (w : View) : Type 0 where
  pub made : MadeAll v calls replies w
  pub links : Links v made.own w

-- how many external cells a call put, by its reply, and how many calls one after another did
abbrev pub puts_by : Op → Reply → ℕ
puts_by (Init var f tag value) reply.Ok = 1
puts_by (Init var f tag value) (reply.Taken word) = 1
puts_by _ _ = 0

abbrev pub puts_of : List Op → List Reply → ℕ
puts_of (call ∷ calls) (said ∷ replies) = puts_by call said + puts_of calls replies
puts_of _ _ = 0
