-- The rule of the table of a phase, which each step keeps: one history for every table that the phase may have begun in,
-- and what the words and all views are in the table after it.
use Rattle.std.specs.Prelude.{◌≡◌, ℕ, List}
use mathlib.Core.Option.{some}
use lib.ListN.{get_elem?}
use Rattle.atomic_table.specs.Table.{State}
use Rattle.plain_table.specs.declared.events.Event.{Event}
use Rattle.plain_table.specs.Cycle.{start_in}
use Rattle.plain_table.specs.Table.{Table}
use Rattle.plain_table.specs.History.{IsLegalHistory, after}
use Rattle.plain_table.specs.Near.{IsNear}
use Rattle.plain_table.specs.Sound.{IsSound}
use Rattle.plain_table.specs.Words.{phase_word}
use Rattle.plain_table.specs.Shows.{Shows, IsCovered}
use Rattle.word_laws.specs.Small.{AreSmall}
use Rattle.entry_base.specs.declared.view.Opening.{Opening}
use Rattle.entry_base.specs.declared.view.View.{View}
use Rattle.entry_base.specs.Lists.{Each}
use Rattle.entry_base.specs.Facts.{IsKnown}
use Rattle.entry_base.specs.Hands.{HandsKept, CutsKept}
use Rattle.entry_base.specs.Numbers.{NumbersKept}
use Rattle.entry_base.specs.Openings.{IsBase, phase_of, sizes_in, start_of}
use Rattle.entry_base.specs.Owns.{Owns}

-- the table after the history: `shown` show it
pub record StateKept (key : Opening) (log : List Event) (shown words : List ℕ) (views : List View) (s : Table) : Type 0 where
  pub sizes : s.sizes ≡ sizes_in key
  -- a cycle is under way where one was at the opening, with the same area
  pub phase : phase_word s.cycle ≡ phase_of key
  pub start : start_in s.cycle ≡ start_of key
  pub sound : IsSound s
  pub shows : Shows shown s
  pub covered : IsCovered shown s
  pub owns : (seat : ℕ) (v : View) → get_elem? views seat ≡ some v → Owns s v
  pub known : (seat : ℕ) (v : View) → get_elem? views seat ≡ some v → Each (IsKnown (sizes_in key) log s shown words) v.facts

-- the history is legal from a table that the phase may have begun in
pub record Stays (key : Opening) (log : List Event) (shown words : List ℕ) (views : List View) (b : Table) : Type 0 where
  pub follows : IsLegalHistory b log
  pub state : StateKept key log shown words views (after b log)

pub record Kept (key : Opening) (words : List ℕ) (views : List View) : Type 0 where
  pub log : List Event
  pub shown : List ℕ
  -- there is a table that the phase may have begun in, and the sizes are in range
  pub base : Table
  pub is_base : IsBase key base
  pub few : AreSmall (sizes_in key)
  pub near : IsNear (sizes_in key) words shown
  pub numbers : NumbersKept log views
  pub hands : HandsKept (sizes_in key) shown views
  pub cuts : CutsKept views
  pub states : (b : Table) → IsBase key b → Stays key log shown words views b

abbrev pub Ruled : Opening → State (Unit {0}) View → Type 0
Ruled key t = Kept key t.words t.views
