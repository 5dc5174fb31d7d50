-- The acts of a pause: those of scans, and among them those of visits; and how many objects a list of events scans.
use Rattle.std.specs.Prelude.{ℕ, ◌+◌, List, [], ◌∷◌}
use Rattle.plain_table.specs.declared.events.Act.{Act}
use Rattle.plain_table.specs.declared.events.Act.TheVariants.{Mark, Below, Evac, Abort, Scan}
use Rattle.plain_table.specs.declared.events.Event.{Event}

-- the events of scans
abbrev pub IsPauseAct : Act → Type 0
IsPauseAct (Mark p i) = Unit {0}
IsPauseAct (Below start) = Unit {0}
IsPauseAct (Evac i number) = Unit {0}
IsPauseAct Abort = Unit {0}
IsPauseAct (Scan o) = Unit {0}
IsPauseAct _ = ⊥

-- those of visits, which scan nothing
abbrev pub IsVisitAct : Act → Type 0
IsVisitAct (Mark p i) = Unit {0}
IsVisitAct (Below start) = Unit {0}
IsVisitAct (Evac i number) = Unit {0}
IsVisitAct Abort = Unit {0}
IsVisitAct _ = ⊥

-- how many objects a list of events scans
abbrev pub scans_of : Act → ℕ
scans_of (Scan o) = 1
scans_of _ = 0

abbrev pub scans_in : List Event → ℕ
scans_in [] = 0
scans_in (e ∷ es) = scans_of e.act + scans_in es
