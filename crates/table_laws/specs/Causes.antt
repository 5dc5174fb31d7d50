-- Why a cell is kept: in its cycle it was put, stored to, exchanged or published, or a word that stood in a field of its
-- space named its index. A cause is known from the history since the start of the cycle and the cycle's own record of
-- words, so a finish keeps nothing that nothing named.
use Rattle.std.specs.Prelude.{◌≡◌, ◌⊎◌, ℕ, List, [], ◌∷◌}
use Rattle.plain_table.specs.declared.events.Act.{Act}
use Rattle.plain_table.specs.declared.events.Act.TheVariants.{Put, Set, Swap, Publish}
use Rattle.plain_table.specs.declared.events.Event.{Event}
use Rattle.plain_table.specs.declared.events.Space.{Space}
use Rattle.plain_table.specs.declared.events.Space.TheVariants.{External, Trusted}
use Rattle.plain_table.specs.Index.{index_of}
use Rattle.plain_table.specs.Table.{Table}
use Rattle.plain_table.specs.Rows.{InCycle, IsNamed}
use Rattle.plain_table.specs.History.{after}
use Rattle.table_laws.specs.Steady.{IsDuringPhase}

-- the act writes the cell at an index
abbrev pub Writes : Act → Space → ℕ → Type 0
Writes (Put q j tag value) p i = (q ≡ p) × (j ≡ i)
Writes (Set word first last value) p i = (p ≡ External) × (index_of word ≡ i)
Writes (Swap word first last value) p i = (p ≡ External) × (index_of word ≡ i)
Writes (Publish j) p i = (p ≡ Trusted) × (j ≡ i)
Writes _ p i = ⊥

-- each event is concurrent with the mutators' ones: the history neither starts nor finishes a cycle
abbrev pub AreDuringPhase : List Event → Type 0
AreDuringPhase [] = Unit {0}
AreDuringPhase (e ∷ es) = IsDuringPhase e.act × AreDuringPhase es

-- some event of the history writes the cell at an index
abbrev pub IsWrittenIn : List Event → Space → ℕ → Type 0
IsWrittenIn [] p i = ⊥
IsWrittenIn (e ∷ es) p i = Writes e.act p i ⊎ IsWrittenIn es p i

-- why an index may be marked after a history since the start of its cycle
abbrev pub HasCause : Table → List Event → Space → ℕ → Type 0
HasCause s es p i = IsWrittenIn es p i ⊎ InCycle (after s es) (λ c. IsNamed c p i)
