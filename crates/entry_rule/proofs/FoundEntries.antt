-- A view after an event that adds facts and changes nothing else.
use Rattle.std.proofs.Common.{[], ◌∷◌, ◌++◌, List, refl}
use Rattle.plain_table.specs.declared.events.Event.{Event}
use Rattle.entry_base.specs.declared.view.Fact.{Fact}
use Rattle.entry_base.specs.declared.view.View.{View}
use Rattle.entry_base.specs.Callers.{Extends}
use Rattle.entry_base.specs.Learned.{Answered}
use Rattle.entry_base.proofs.Sums.{has_append}

-- an event was added to the history, and facts to those that were known
abbrev pub answered_view : View → List Event → Event → List Fact → View
answered_view v log e more = record v { seen = log ++ e ∷ []; facts = more ++ v.facts }

pub answered : (v : View) (log : List Event) (e : Event) (more : List Fact) → Extends v e (answered_view v log e more) → Answered v e (answered_view v log e more)
answered v log e more extends = record {
  same = record { opening = refl; number = refl; numbers = refl; cut = refl; knows = λ f has. has_append more v.facts f has };
  own = record { vars = refl; pending = refl; owed = refl; fresh = refl };
  hands = refl;
  extends = extends;
}
