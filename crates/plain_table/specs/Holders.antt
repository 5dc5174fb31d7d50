-- Bound fields and live holders: a field that names a cell as its own, and one of them whose object can be reached and
-- whose cell can be seen. External cells can always be seen, so only a trusted entry that is not published yet is
-- excepted. A forge takes a field out of the bound ones, even where it writes the word that was there.
use Rattle.std.specs.Prelude.{◌≡◌, ℕ, Some, IsTrue, IsSomeAnd}
use Rattle.plain_table.specs.declared.events.Space.{Space}
use Rattle.plain_table.specs.declared.events.Field.{Field}
use Rattle.plain_table.specs.Places.{object_of}
use Rattle.plain_table.specs.Table.{Table}
use Rattle.plain_table.specs.Finish.{IsReachable}

-- the field names the cell of this id as its own
abbrev pub IsBound : Table → Field → ℕ → Type 0
IsBound s f id = s.bound f ≡ Some id

-- the cell of this id, wherever it stands, can be seen
abbrev pub CanBeSeen : Table → ℕ → Type 0
CanBeSeen s id = (p : Space) × (i : ℕ) × IsSomeAnd (s.cells p i) (λ c. (c.id ≡ id) × IsTrue c.shown)

abbrev pub IsLiveHolder : Table → Field → ℕ → Type 0
IsLiveHolder s f id = IsBound s f id × IsReachable s (object_of f) × CanBeSeen s id
