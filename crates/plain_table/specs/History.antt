-- Legal histories: each event is legal in the table that the events before it left, and has the reply of its row. A
-- history is a list of events in the order in which they took effect, and the table after it follows from the table
-- that it begins at.
use Rattle.std.specs.Prelude.{◌≡◌, List, [], ◌∷◌}
use Rattle.plain_table.specs.declared.events.Event.{Event}
use Rattle.plain_table.specs.Table.{Table}
use Rattle.plain_table.specs.Rows.{row}

-- the event is legal, with the reply that it was given
abbrev pub IsLegal : Table → Event → Type 0
IsLegal s e = (row s e.by e.act).allowed × (e.said ≡ (row s e.by e.act).reply)

-- the table after an event
abbrev pub next : Table → Event → Table
next s e = (row s e.by e.act).next

abbrev pub IsLegalHistory : Table → List Event → Type 0
IsLegalHistory s [] = Unit {0}
IsLegalHistory s (e ∷ es) = IsLegal s e × IsLegalHistory (next s e) es

-- the table after a history
abbrev pub after : Table → List Event → Table
after s [] = s
after s (e ∷ es) = after (next s e) es
