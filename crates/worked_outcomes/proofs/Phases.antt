-- What the parts of a phase need that are the same in each worked outcome: which numbers make events, that there is one
-- mutator or one marker, and which fields an object has.
use Rattle.std.proofs.Common.{◌≡◌, ◌⊎◌, ℕ, zero, suc, ◌+◌, ◌<◌, ◌≤◌, Bool, true, List, [], ◌∷◌, sym, ap, arith, inl, inr, subst, ◌∙◌, eqb-true}
use Rattle.std.specs.Prelude.{◌==◌, ◌||◌, ◌&&◌, if◌then◌else◌, nat_lt, nat_le}
use Rattle.std.specs.List.{All}
use Rattle.std.proofs.lemmas.Bool.{and_parts}
use Rattle.std.proofs.lemmas.Bool.Decides.{nat_tests, eqb_tells}
use Rattle.plain_table.specs.declared.scripts.Limits.{Limits}
use Rattle.plain_table.specs.declared.events.Event.{Event}
use Rattle.plain_table.specs.Table.{Table}
use Rattle.plain_table.specs.History.{next}
use Rattle.plain_table.specs.Scans.{IsReadConcurrently, Rest, Scans, Ends, Others}
use Rattle.plain_table.specs.Belongs.{IsMarker, events_by}

-- the number is that of a mutator or of a marker
abbrev is_number : Limits → ℕ → Bool
is_number limits b = nat_lt b limits.mutators || (nat_le 8 b && nat_lt b (8 + limits.markers))

abbrev are_numbers : Limits → List Event → Bool
are_numbers limits [] = true
are_numbers limits (e ∷ es) = is_number limits e.by && are_numbers limits es

number-by : (limits : Limits) (b : ℕ) → is_number limits b ≡ true → (b < limits.mutators) ⊎ IsMarker limits b
number-by limits b h = grind (arith, nat_tests)

pub numbers-by : (limits : Limits) (es : List Event) → are_numbers limits es ≡ true →
    All (λ (e : Event). (e.by < limits.mutators) ⊎ IsMarker limits e.by) es
numbers-by limits [] h k d within = absurd (omega arith)
numbers-by limits (e ∷ es) h zero d within = number-by limits e.by (and_parts _ _ h).0
numbers-by limits (e ∷ es) h (suc k) d within = numbers-by limits es (and_parts _ _ h).1 k d (omega arith)

abbrev are_by : ℕ → List Event → Bool
are_by b [] = true
are_by b (e ∷ es) = (e.by == b) && are_by b es

pub own-by : (b : ℕ) (es : List Event) → are_by b es ≡ true → All (λ (e : Event). e.by ≡ b) es
own-by b [] h k d within = absurd (omega arith)
own-by b (e ∷ es) h zero d within = eqb-true e.by b (and_parts _ _ h).0
own-by b (e ∷ es) h (suc k) d within = own-by b es (and_parts _ _ h).1 k d (omega arith)

-- one mutator has the number 0, and one marker the number 8
pub one-mutator : (P : ℕ → Type 0) → P 0 → (b : ℕ) → b < 1 → P b
one-mutator P here zero below = here
one-mutator P here (suc b) below = absurd (omega arith)

pub one-marker : (P : ℕ → Type 0) → P 8 → (b : ℕ) → (8 ≤ b) × (b < 9) → P b
one-marker P here b is = let same : 8 ≡ b = omega (arith, is.0, is.1) in subst P same here

-- a number that makes no event scans nothing
pub scans-nothing : (b : ℕ) (s : Table) (es : List Event) → events_by b es ≡ [] → Scans (λ t o. Unit {0}) IsReadConcurrently b Rest s es Rest
scans-nothing b s [] none = Ends Rest s
scans-nothing b s (e ∷ es) none = elim (eqb_tells e.by b) [
  | inl is ↦ absurd (let some : e ∷ events_by b es ≡ [] = sym (ap (λ (t : Bool). if t then e ∷ events_by b es else events_by b es) is.0) ∙ none in cc)
  | inr other ↦ Others Rest s e es Rest other.1
      (scans-nothing b (next s e) es (sym (ap (λ (t : Bool). if t then e ∷ events_by b es else events_by b es) other.0) ∙ none))
]
