-- The marking invariant after a step, by what the step changes: no header, the header of an object that is shaded, or that
-- of one that is scanned. The step may be an event or none. Two tables are spoken of, those before and after it.
use Rattle.std.specs.Prelude.{◌≡◌, ◌⊎◌, ℕ, ◌<◌, Bool, true, List, length, slice_index, slice_set, Option, Some, IsTrue, IsSomeAnd, IfSome}
use Rattle.plain_table.specs.Cycle.{Cycle, IsOld}
use Rattle.plain_table.specs.Table.{Table}
use Rattle.plain_table.specs.Words.{header_place, header_word}
use Rattle.plain_table.specs.Shows.{IsShaded, IsScanned, IsCovered}

-- where a cycle is under way after the step, one was before, and its old objects are old
abbrev pub StaysOld : Option Cycle → Option Cycle → Type 0
StaysOld before after = IfSome after (λ d. IsSomeAnd before (λ c. (o : ℕ) → IsOld c o → IsOld d o))

-- the references are to objects within the limit, as in each sound table
abbrev pub HasReferencesWithin : Table → Type 0
HasReferencesWithin s = (o k q : ℕ) → s.refs o k ≡ Some q → q < s.sizes.objects

-- the step begins no cycle, and leaves the sizes as they are
pub record IsStep (s t : Table) : Type 0 where
  pub within : HasReferencesWithin s
  pub sizes : t.sizes ≡ s.sizes
  pub old : StaysOld s.cycle t.cycle

-- nothing, or a shaded object
abbrev pub IsClear : List ℕ → Option ℕ → Type 0
IsClear words target = IfSome target (IsShaded words)

-- no header changes, and a reference keeps what it holds, or comes to hold nothing or a shaded object
abbrev pub CoveredWordsStay : Type 0
CoveredWordsStay =
    (words later : List ℕ) (s t : Table) → IsStep s t →
    ((o : ℕ) → o < s.sizes.objects → slice_index later (header_place o) ≡ slice_index words (header_place o)) →
    IfSome t.cycle (λ d. (o k : ℕ) → o < s.sizes.objects → (t.refs o k ≡ s.refs o k) ⊎ IsClear later (t.refs o k)) →
    IsCovered words s → IsCovered later t

-- references stay
abbrev pub HasSameReferences : Table → Table → Type 0
HasSameReferences s t = (o k : ℕ) → t.refs o k ≡ s.refs o k

-- an object that is old, or scanned already, is shaded, and its scanned bit stays
abbrev pub ShadedWordsStayCovered : Type 0
ShadedWordsStayCovered =
    (words : List ℕ) (s t : Table) (o : ℕ) (scanned : Bool) → IsStep s t → HasSameReferences s t → header_place o < length words →
    IfSome s.cycle (λ c. IsTrue scanned ⊎ IsOld c o) → (IsTrue scanned → IsScanned words o) →
    IsCovered words s → IsCovered (slice_set words (header_place o) (header_word true scanned)) t

-- an object is scanned, whose references hold nothing or shaded objects
abbrev pub ScannedWordsStayCovered : Type 0
ScannedWordsStayCovered =
    (words : List ℕ) (s t : Table) (o : ℕ) → IsStep s t → HasSameReferences s t → header_place o < length words →
    ((k : ℕ) → IsClear words (s.refs o k)) →
    IsCovered words s → IsCovered (slice_set words (header_place o) (header_word true true)) t
