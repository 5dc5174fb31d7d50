-- The events of takes, and how often a take tries.
use Rattle.std.specs.Prelude.{◌≡◌, ℕ, ◌+◌, ◌≤◌, ◌==◌, not, List, [], ◌∷◌, ◌++◌}
use Rattle.std.specs.List.{filter}
use Rattle.plain_table.specs.declared.events.Act.{Act}
use Rattle.plain_table.specs.declared.events.Event.{Event}
use Rattle.plain_table.specs.declared.events.Space.{Space}
use Rattle.plain_table.specs.declared.reports.Reply.{Reply}
use Rattle.plain_table.specs.declared.reports.Reply.TheVariants as reply
use Rattle.entry_base.specs.declared.view.View.{View}
use Rattle.entry_base.specs.Callers.{event_of}
use Rattle.entry_base.specs.Ranks.{takes_in}
use Rattle.call_base.specs.Called.{Called, EndsWith, LeavesOwn}
use Rattle.space_steps.specs.declared.tickets.Taken.{Taken}
use Rattle.space_steps.specs.declared.tickets.Taken.TheVariants as taken
use Rattle.space_steps.specs.declared.tickets.Ticket.{Ticket}
use Rattle.space_steps.specs.Segments.{HasRisen}
use Rattle.space_steps.specs.Tickets.{OwesIndex}

-- the reply of the event of a take
abbrev pub taken_reply : Taken → Reply
taken_reply (taken.At t) = reply.Index t.index
taken_reply taken.Full = reply.Full
taken_reply taken.NoRoom = reply.NoRoom

-- how many indexes of the space other numbers took in these events
abbrev pub taken_by_others : Space → ℕ → List Event → ℕ
taken_by_others p b events = takes_in p (filter (λ e. not (e.by == b)) events)

-- the count of tries grew by at most one more than others took indexes in what came to be seen
abbrev pub HasFewTries : View → Space → ℕ → ℕ → View → Type 0
HasFewTries v p before now w = (grown : List Event) × (w.seen ≡ v.seen ++ grown) × (now ≤ before + taken_by_others p v.number grown + 1)

-- an index was taken
pub record TookIndex (v : View) (p : Space) (a : Act) (t : Ticket) (w : View) : Type 0 where
  pub called : Called v (event_of v a (reply.Index t.index) ∷ []) w
  pub ends : EndsWith (event_of v a (reply.Index t.index) ∷ []) w.seen
  pub owes : OwesIndex v p t w

-- none was, and the freelist word has risen
pub record MovedOn (v : View) (p : Space) (word : ℕ) (w : View) : Type 0 where
  pub called : Called v [] w
  pub leaves : LeavesOwn v w
  pub risen : HasRisen p word w
