-- Passed fields and passed references: what a view has to know of an object of its hands before it may scan it.
use Rattle.std.specs.Prelude.{◌≡◌, ◌⊎◌, ℕ, ◌+◌, ◌*◌, ◌<◌, ◌≤◌, zero, suc, IfSome}
use Rattle.plain_table.specs.declared.events.Field.{Field}
use Rattle.plain_table.specs.declared.events.Field.TheVariants as field
use Rattle.plain_table.specs.Index.{index_of}
use Rattle.plain_table.specs.Places.{space_of, object_of}
use Rattle.entry_base.specs.declared.view.Fact.TheVariants as fact
use Rattle.entry_base.specs.declared.view.View.{View}
use Rattle.entry_base.specs.Lists.{Has, count_in}
use Rattle.entry_base.specs.Openings.{start_of}

-- the cell at the word's index will not move without the field: there is no area, the index is below it, the compaction is
-- aborted, or the view knows the field as placed
abbrev pub WillNotMove : View → Field → ℕ → Type 0
WillNotMove v (field.External number) w =
    IfSome (start_of v.opening) (λ start. (index_of w < start) ⊎ Has v.facts fact.Aborted ⊎ Has v.facts (fact.Placed (field.External number) w))
WillNotMove v (field.Trusted number) w = Unit {0}

-- a word was read from the field, a cell at its index is marked, and it will not move without the field
pub record PassedField (v : View) (f : Field) : Type 0 where
  pub word : ℕ
  pub read : Has v.facts (fact.Read f word)
  pub visited : Has v.facts (fact.Visited (space_of f) (index_of word))
  pub placed : WillNotMove v f word

-- a word was read from the reference, and its object, where it has one, was shaded
pub record PassedReference (v : View) (o k : ℕ) : Type 0 where
  pub word : ℕ
  pub read : Has v.facts (fact.Reference o k word)
  pub shaded : (q : ℕ) → word ≡ q + 1 → Has v.facts (fact.Shaded q)

-- an object of the hands, all of whose fields and references were passed
pub record IsPassed (v : View) (o : ℕ) : Type 0 where
  pub hands : 1 ≤ count_in o v.hands
  pub fields : (f : Field) → object_of f ≡ o → PassedField v f
  pub references : (k : ℕ) → k < 4 → PassedReference v o k

-- the three fields of an object: two external ones, and a trusted one
abbrev pub field_of : ℕ → ℕ → Field
field_of o zero = field.External (2 * o)
field_of o (suc zero) = field.External (2 * o + 1)
field_of o _ = field.Trusted o
