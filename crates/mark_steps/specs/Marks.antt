-- What a mark answers, and its event.
use Rattle.std.specs.Prelude.{◌≡◌, ◌⊎◌, ℕ, ◌<◌, ◌≤◌, Bool, true, false, List, [], ◌∷◌, ◌++◌}
use Rattle.plain_table.specs.declared.events.Act.TheVariants as act
use Rattle.plain_table.specs.declared.events.Event.{Event}
use Rattle.plain_table.specs.declared.events.Space.{Space}
use Rattle.plain_table.specs.declared.reports.Reply.TheVariants as reply
use Rattle.plain_table.specs.Table.{limit_in}
use Rattle.entry_base.specs.declared.view.Fact.TheVariants as fact
use Rattle.entry_base.specs.declared.view.View.{View}
use Rattle.entry_base.specs.Callers.{event_of}
use Rattle.entry_base.specs.Lists.{Has, StartsWith}
use Rattle.entry_base.specs.Openings.{sizes_in}
use Rattle.mark_rule.specs.Marking.{HasMarkAfter, NoneThere, SomeThere}
use Rattle.mark_steps.specs.declared.answers.Mark.{Mark}
use Rattle.mark_steps.specs.declared.answers.Mark.TheVariants as mark

abbrev pub mark_events : View → Space → ℕ → Mark → List Event
mark_events v p i mark.NoCell = []
mark_events v p i _ = event_of v (act.Mark p i) reply.Ok ∷ []

-- at a moment between two views a cell stood at an index below the limit: where the call loaded its entry
pub record FoundCell (v : View) (p : Space) (i : ℕ) (w : View) : Type 0 where
  pub below : i < limit_in (sizes_in v.opening) p
  pub load : List Event
  pub since : StartsWith load v.seen
  pub until : StartsWith w.seen load
  pub stood : SomeThere v.opening load p i

-- before the last event the index was marked, or not
pub record HadMark (v : View) (p : Space) (i : ℕ) (had : Bool) (w : View) : Type 0 where
  pub found : FoundCell v p i w
  pub before : List Event
  pub last : w.seen ≡ before ++ event_of v (act.Mark p i) reply.Ok ∷ []
  pub was : HasMarkAfter v.opening before p i had

-- the cause of each answer: the index is past the limit or no cell stood there; the call set the mark; or it found the mark set
abbrev pub IsMarkCause : View → Space → ℕ → Mark → View → Type 0
IsMarkCause v p i mark.NoCell w = (limit_in (sizes_in v.opening) p ≤ i) ⊎ NoneThere v.opening w.seen p i
IsMarkCause v p i mark.Set w = HadMark v p i false w
IsMarkCause v p i mark.Already w = HadMark v p i true w

-- where there is a mark, it is known
abbrev pub IsMarkedAfter : View → Space → ℕ → Mark → Type 0
IsMarkedAfter w p i mark.NoCell = Unit {0}
IsMarkedAfter w p i _ = Has w.facts (fact.Marked p i)
