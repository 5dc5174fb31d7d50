-- The rounds that find what is reachable: in each, the targets of the references of the objects found so far are added.
-- A round keeps what was found, finds only what is reachable, and where it finds nothing new, all that is reachable was
-- found.
use Rattle.std.specs.Prelude.{◌≡◌, ℕ, Bool, Option, Some, List, not, ◌||◌, count_by, IsTrue}
use Rattle.plain_table.specs.Reachable.{Reaches}
use Rattle.plain_program.specs.Entries.{at_pair, has}

-- each found object is reachable
abbrev pub IsWithin : List ((ℕ × ℕ) × ℕ) → (ℕ → Option ℕ) → (ℕ → ℕ → Option ℕ) → List ℕ → Type 0
IsWithin refs globals variables found = (o : ℕ) → IsTrue (has found o) → Reaches (at_pair refs) globals variables o

-- where all that was found before is reachable, so is all that is found after, whatever globals and variables hold
abbrev pub StaysWithin : List ((ℕ × ℕ) × ℕ) → List ℕ → List ℕ → Type 0
StaysWithin refs before after = (globals : ℕ → Option ℕ) (variables : ℕ → ℕ → Option ℕ) →
    IsWithin refs globals variables before → IsWithin refs globals variables after

-- each target of a found object's reference is found
abbrev pub IsClosed : List ((ℕ × ℕ) × ℕ) → List ℕ → Type 0
IsClosed refs found = (o k q : ℕ) → IsTrue (has found o) → at_pair refs o k ≡ Some q → IsTrue (has found q)

-- each object that was found before is found after
abbrev pub Keeps : List ℕ → List ℕ → Type 0
Keeps before after = (o : ℕ) → IsTrue (has before o) → IsTrue (has after o)

-- how many references have a target that is not found
abbrev pub unfound : List ((ℕ × ℕ) × ℕ) → List ℕ → ℕ
unfound refs found = count_by (λ entry. not (has found entry.1)) refs

-- the target of a reference is found, if its object is
abbrev pub leads : List ℕ → (ℕ × ℕ) × ℕ → Bool
leads found entry = not (has found entry.0.0) || has found entry.1
