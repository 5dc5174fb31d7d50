-- The evacuation area of a cycle.
use Rattle.std.specs.Prelude.{◌≡◌, ℕ, ◌≤◌, Some}
use Rattle.plain_table.specs.declared.events.Space.TheVariants.{External}
use Rattle.entry_base.specs.declared.view.Fact.TheVariants as fact
use Rattle.entry_base.specs.declared.view.View.{View}
use Rattle.entry_base.specs.Lists.{Has}
use Rattle.entry_base.specs.Openings.{start_of}

-- the cycle has an area, and no index below its start is known to be free: a take below it found no room, or an index at or
-- above it was taken
abbrev pub IsAreaFull : View → Type 0
IsAreaFull v = (start : ℕ) × (start_of v.opening ≡ Some start) × ((n : ℕ) × Has v.facts (fact.Used External n) × (start ≤ n))
