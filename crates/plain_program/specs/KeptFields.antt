-- The fields whose objects are among the reached ones, where a cycle is to finish: each has its own cell at its word's
-- index, and that cell is kept. These are the words of the contracts by which the plain program decides that a cycle may
-- finish.
use Rattle.std.specs.Prelude.{◌≡◌, ℕ, List, Some, IsTrue}
use Rattle.plain_table.specs.declared.events.Field.{Field}
use Rattle.plain_table.specs.Index.{index_of}
use Rattle.plain_table.specs.Places.{space_of, object_of}
use Rattle.plain_program.specs.Entries.{has}
use Rattle.plain_table.specs.Cycle.{Cycle}
use Rattle.plain_table.specs.Table.{Table}
use Rattle.plain_table.specs.Finish.{IsKept, IsOwn}

-- the cell with this number is the field's own one, and is kept
abbrev pub IsOwnKept : Table → Cycle → Field → ℕ → Type 0
IsOwnKept s c f id = IsOwn s f id × IsKept c s.words (space_of f) (index_of (s.words f))

-- where the object of the field is reached, the cell with this number is its own, and is kept
abbrev pub IsEntryKept : Table → Cycle → List ℕ → Field → ℕ → Type 0
IsEntryKept s c reached f id = IsTrue (has reached (object_of f)) → IsOwnKept s c f id

-- the same of the cell that the field names as its own, where it names one
abbrev pub IsFieldKept : Table → Cycle → List ℕ → Field → Type 0
IsFieldKept s c reached f = (id : ℕ) → s.bound f ≡ Some id → IsEntryKept s c reached f id
