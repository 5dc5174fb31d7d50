-- History and numbers: each number up to 12 stands in one view, and what came after what a view has seen has no event of
-- its numbers.
use Rattle.std.specs.Prelude.{◌≡◌, ℕ, ◌<◌, ◌≤◌, List, ◌++◌}
use mathlib.Core.Option.{some}
use lib.ListN.{get_elem?}
use Rattle.plain_table.specs.declared.events.Event.{Event}
use Rattle.table_laws.specs.Steady.{IsDuringPhase}
use Rattle.entry_base.specs.declared.view.View.{View}
use Rattle.entry_base.specs.Lists.{Each, total, count_in}

-- the view has the number, as its own, as one joined into it, or as one that it may still give
abbrev pub HasNumber : View → ℕ → Type 0
HasNumber v n = 1 ≤ count_in n v.numbers

-- no event of the list is of a number of the view
abbrev pub IsQuiet : View → List Event → Type 0
IsQuiet v es = Each (λ e. count_in e.by v.numbers ≡ 0) es

-- an event of a phase: by a number up to 12, and neither the start nor the finish of a cycle
abbrev pub IsPhaseEvent : Event → Type 0
IsPhaseEvent e = (e.by ≤ 12) × IsDuringPhase e.act

-- where a view stands in the history: what it has seen, and then the rest
pub record Stands (log : List Event) (v : View) : Type 0 where
  pub rest : List Event
  pub seen : log ≡ v.seen ++ rest
  pub quiet : IsQuiet v rest

pub record NumbersKept (log : List Event) (views : List View) : Type 0 where
  pub one : (n : ℕ) → n ≤ 12 → total (λ v. count_in n v.numbers) views ≡ 1
  pub none : (n : ℕ) → 12 < n → total (λ v. count_in n v.numbers) views ≡ 0
  pub events : Each IsPhaseEvent log
  pub stands : (seat : ℕ) (v : View) → get_elem? views seat ≡ some v → Stands log v
