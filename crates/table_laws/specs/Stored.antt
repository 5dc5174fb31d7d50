-- What was last stored in each cell, by the history alone: the tag and value of the put with an id, and after it the
-- value of each set or swap on the cell of that id. A finish may move the cell to another index; its id, and so what was
-- stored in it, goes with it.
use Rattle.std.specs.Prelude.{ℕ, List, [], ◌∷◌, Option, Some, None}
use Rattle.std.specs.Option.{option_map}
use Rattle.plain_table.specs.declared.events.Act.{Act}
use Rattle.plain_table.specs.declared.events.Act.TheVariants.{Put, Set, Swap}
use Rattle.plain_table.specs.declared.events.Event.{Event}
use Rattle.plain_table.specs.declared.events.Space.TheVariants.{External}
use Rattle.plain_table.specs.Index.{index_of}
use Rattle.plain_table.specs.Places.{put_at}
use Rattle.plain_table.specs.Table.{Table}
use Rattle.plain_table.specs.Finish.{id_at}
use Rattle.plain_table.specs.History.{next}

-- the tag and value of each id
abbrev pub Stored : Type 0
Stored = ℕ → Option (ℕ × ℕ)

-- a store of a value in the cell of an id
abbrev pub store_at : Stored → Option ℕ → ℕ → Stored
store_at stored None value = stored
store_at stored (Some id) value = put_at stored id (option_map (λ (old : ℕ × ℕ). (old.0, value)) (stored id))

abbrev pub stored_next : Table → Act → Stored → Stored
stored_next s (Put p i tag value) stored = put_at stored s.next (Some (tag, value))
stored_next s (Set word first last value) stored = store_at stored (id_at s External (index_of word)) value
stored_next s (Swap word first last value) stored = store_at stored (id_at s External (index_of word)) value
stored_next s _ stored = stored

-- what was stored after a history that begins at the table s
abbrev pub stored_after : Table → List Event → Stored → Stored
stored_after s [] stored = stored
stored_after s (e ∷ es) stored = stored_after (next s e) es (stored_next s e.act stored)

-- nothing is stored at first
abbrev pub nothing_stored : Stored
nothing_stored id = None
