-- What a step tells its own seat: the kinds of step without an event that open, join and load share. The kinds of the crates
-- above have records of their own.
use Rattle.std.specs.Prelude.{◌≡◌, ℕ, ◌≤◌, List, [], ◌++◌}
use Rattle.atomic_table.specs.Table.{Step, Me}
use Rattle.plain_table.specs.declared.events.Event.{Event}
use Rattle.entry_base.specs.declared.view.Fact.{Fact}
use Rattle.entry_base.specs.declared.view.Fact.TheVariants as fact
use Rattle.entry_base.specs.declared.view.View.{View}
use Rattle.entry_base.specs.Callers.{SameCaller, SameOwn, Looks, Extends}
use Rattle.entry_base.specs.Facts.{GoesOn}
use Rattle.entry_base.specs.Lists.{Has, count_in}

-- these facts were learned by a load without an event
pub record Loaded (v : View) (more : List Fact) (w : View) : Type 0 where
  pub same : SameCaller v w
  pub own : SameOwn v w
  pub looks : Looks v w
  pub hands : w.hands ≡ v.hands
  pub facts : w.facts ≡ more ++ v.facts

-- an event was added, and nothing else changed
pub record Answered (v : View) (e : Event) (w : View) : Type 0 where
  pub same : SameCaller v w
  pub own : SameOwn v w
  pub hands : w.hands ≡ v.hands
  pub extends : Extends v e w

-- what the load after a join tells: the histories that were put together, and that each number is there once
pub record Met (v w : View) : Type 0 where
  pub loaded : Loaded v [] w
  pub joined : (short long : List Event) (numbers : List ℕ) → Has v.facts (fact.Joined short long numbers) → GoesOn short long numbers
  pub once : (n : ℕ) → count_in n v.numbers ≤ 1

abbrev pub meets : Step (Unit {0}) → Me (Unit {0}) View → ℕ → Me (Unit {0}) View → Type 0
meets s m found n = Met m.0 n.0 × (n.1 ≡ m.1)

-- what a step learns is said of the word that it finds, and of its view before and after
abbrev pub learned_by : (ℕ → View → View → Type 0) → Step (Unit {0}) → Me (Unit {0}) View → ℕ → Me (Unit {0}) View → Type 0
learned_by learns s m found n = learns found m.0 n.0 × (n.1 ≡ m.1)

abbrev pub learns_nothing : ℕ → View → View → Type 0
learns_nothing found v w = Unit {0}
