-- Lists of entries as maps and sets: what stands at a number or at a pair of numbers. The plain program keeps its maps
-- as such lists in the order of their keys, and each definition of the table is a function, so these are the functions
-- that the lists stand for.
use Rattle.std.specs.Prelude.{ℕ, Bool, List, Option, unwrap_or}
use Rattle.std.specs.declared.cmp.Ordering.{Ordering}
use Rattle.std.specs.Ordering.{nat_cmp, ordering_then}
use Rattle.std.specs.List.{list_any}
use Rattle.std.specs.Map.{lookup}
use Rattle.std.specs.BTreeMap.{is_at}

-- pairs in the order of their first parts, and then of their second ones
abbrev pub pair_cmp : ℕ × ℕ → ℕ × ℕ → Ordering
pair_cmp a b = ordering_then (nat_cmp a.0 b.0) (nat_cmp a.1 b.1)

abbrev pub at : {A : Type 0} → List (ℕ × A) → ℕ → Option A
at entries i = lookup (is_at (nat_cmp i)) entries

-- the word of a number, which is 0 where the map names none
abbrev pub word_at : List (ℕ × ℕ) → ℕ → ℕ
word_at words number = unwrap_or (at words number) 0

abbrev pub at_pair : {A : Type 0} → List ((ℕ × ℕ) × A) → ℕ → ℕ → Option A
at_pair entries m i = lookup (is_at (pair_cmp (m, i))) entries

abbrev pub has : List ℕ → ℕ → Bool
has keys i = list_any (is_at (nat_cmp i)) keys

abbrev pub has_pair : List (ℕ × ℕ) → ℕ → ℕ → Bool
has_pair keys m i = list_any (is_at (pair_cmp (m, i))) keys
