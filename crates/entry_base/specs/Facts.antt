-- What a view knows of entries, fields and objects. Each fact is steady: no step of a phase ends it. It is said of the table
-- after the history alone (`TableKnows`), or of the words too (`WordsKnow`): `shown` show that table, and `words` are the
-- present ones, which are near them.
use Rattle.std.specs.Prelude.{◌≡◌, ◌≢◌, ◌⊎◌, ℕ, ◌<◌, ◌≤◌, false, List, ◌++◌, slice_index, Some, IsTrue, IsSome, IsSomeAnd, IfSome}
use Rattle.plain_table.specs.declared.events.Event.{Event}
use Rattle.plain_table.specs.declared.events.Field.{Field}
use Rattle.plain_table.specs.declared.events.Space.TheVariants.{Trusted}
use Rattle.plain_table.specs.Index.{index_of}
use Rattle.plain_table.specs.Cycle.{Cycle, IsOld, IsTouched}
use Rattle.plain_table.specs.Table.{Table, Sizes, limit_in}
use Rattle.plain_table.specs.Rows.{InCycle, IsPlaced, IsSafe}
use Rattle.plain_table.specs.Words.{freelist_place, entry_place, object_word, no_access_word}
use Rattle.plain_table.specs.Shows.{IsShaded}
use Rattle.word_laws.specs.CoverLaws.{IsClear}
use Rattle.entry_base.specs.declared.view.Fact.{Fact}
use Rattle.entry_base.specs.declared.view.Fact.TheVariants as fact
use Rattle.entry_base.specs.Lists.{Each, count_in}
use Rattle.entry_base.specs.Ranks.{takes_in, Rises}

-- a history goes on as another one, without an event of these numbers
abbrev pub GoesOn : List Event → List Event → List ℕ → Type 0
GoesOn short long numbers = (rest : List Event) × (long ≡ short ++ rest) × Each (λ e. count_in e.by numbers ≡ 0) rest

-- a bound field is safe, if it is bound at all
abbrev pub IsSafeIfBound : Table → Cycle → Field → Type 0
IsSafeIfBound s c f = (id : ℕ) → s.bound f ≡ Some id → IsSafe s c f id

-- the facts that speak of the table alone
abbrev pub TableKnows : Table → Fact → Type 0
TableKnows s (fact.Cell p i tag) = IsSomeAnd (s.cells p i) (λ c. c.tag ≡ tag)
TableKnows s (fact.Trusted i tag value) = IsSomeAnd (s.cells Trusted i) (λ c. (c.tag ≡ tag) × (c.value ≡ value))
TableKnows s (fact.Settled i) = IsSome (s.cells Trusted i) × ((b : ℕ) → s.fresh b Trusted i ≡ false)
TableKnows s (fact.Used p n) = (i : ℕ) → 1 ≤ i → i < n → IsTrue (s.used p i)
TableKnows s (fact.Count n) = n ≤ s.count
TableKnows s (fact.Traced o) = InCycle s (λ c. IsOld c o ⊎ IsTrue (c.born o))
TableKnows s fact.Aborted = InCycle s (λ c. IsTrue c.aborted)
TableKnows s (fact.Touched f w) = InCycle s (λ c. IsTouched c f w)
TableKnows s (fact.Marked p i) = InCycle s (λ c. IsTrue (c.marks p i))
TableKnows s (fact.Visited p i) = InCycle s (λ c. IsSome (s.cells p i) → IsTrue (c.marks p i))
TableKnows s (fact.Placed f w) = InCycle s (λ c. (id : ℕ) → s.bound f ≡ Some id → s.words f ≡ w → IsPlaced c f (index_of w))
TableKnows s (fact.Read f w) = InCycle s (λ c. (s.words f ≡ w) ⊎ IsSafeIfBound s c f)
TableKnows s (fact.Joined short long numbers) = GoesOn short long numbers
TableKnows s _ = Unit {0}

-- those that speak of words too: `shown` shows the table, `words` are the present ones
abbrev pub WordsKnow : Sizes → List Event → Table → List ℕ → List ℕ → Fact → Type 0
WordsKnow z log s shown words (fact.Shaded o) = (o < z.objects) × IsShaded shown o
WordsKnow z log s shown words (fact.Entry p i w) =
    IsSome (s.cells p i) × IfSome s.cycle (λ c. (slice_index shown (entry_place z p i) ≡ w) ⊎ IsTrue (c.marks p i))
WordsKnow z log s shown words (fact.Freelist p w n) = Rises w n (slice_index shown (freelist_place p)) (takes_in p log)
WordsKnow z log s shown words (fact.Link p i w) =
    IsTrue (s.used p i) ⊎ ((i < limit_in z p) × (slice_index shown (entry_place z p i) ≡ w) × (w ≢ no_access_word))
WordsKnow z log s shown words (fact.Linked p i) = (i < limit_in z p) × (slice_index words (entry_place z p i) ≢ no_access_word)
WordsKnow z log s shown words (fact.Reference o k w) =
    (o < z.objects) × IfSome s.cycle (λ c. (object_word (s.refs o k) ≡ w) ⊎ IsClear shown (s.refs o k))
WordsKnow z log s shown words _ = Unit {0}

abbrev pub IsKnown : Sizes → List Event → Table → List ℕ → List ℕ → Fact → Type 0
IsKnown z log s shown words f = TableKnows s f × WordsKnow z log s shown words f
