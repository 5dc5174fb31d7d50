-- A word that names an index of a space: one that stood in a field at the start of a cycle, or one that came into it
-- since. Only an index that some such word names may be marked; the two halves are what the plain program looks through,
-- each in its own list.
use Rattle.std.specs.Prelude.{◌≡◌, ◌≢◌, ℕ, IsTrue}
use Rattle.plain_table.specs.declared.events.Space.{Space}
use Rattle.plain_table.specs.declared.events.Field.{Field}
use Rattle.plain_table.specs.Index.{index_of}
use Rattle.plain_table.specs.Places.{space_of, object_of}
use Rattle.plain_table.specs.Reachable.{Reaches}
use Rattle.plain_program.specs.Entries.{at, at_pair, word_at}
use Rattle.plain_table.specs.Cycle.{Cycle}
use Rattle.plain_program.specs.Kept.{KeptOrigin, by_field}

-- an object that was reachable at the start, and the word that stood in a field then
abbrev pub WasReachable : KeptOrigin → ℕ → Type 0
WasReachable k o = Reaches (at_pair k.references) (at k.globals) (at_pair k.variables) o

abbrev pub stood_in : KeptOrigin → Field → ℕ
stood_in k = by_field (word_at k.external_words) (word_at k.trusted_words)

-- a word that stood in a field of the space, of an object that was reachable, names the index
abbrev pub StoodNamed : KeptOrigin → Space → ℕ → Type 0
StoodNamed k p i =
    (f : Field) × (space_of f ≡ p) × (index_of (stood_in k f) ≡ i) × (stood_in k f ≢ 0) × WasReachable k (object_of f)

-- a word that came into a field of the space names the index
abbrev pub CameNamed : Cycle → Space → ℕ → Type 0
CameNamed c p i = (f : Field) × (w : ℕ) × (space_of f ≡ p) × (index_of w ≡ i) × IsTrue (c.came f w)
