-- Which object is shaded and not scanned at the end of a phase.
use Rattle.std.specs.Prelude.{◌≡◌, ℕ, ◌<◌, List, Option, Some}
use Rattle.plain_table.specs.Shows.{IsShaded, IsScanned}

-- each object below n that is shaded is scanned, but for the one that is left, where there is one
abbrev pub IsLeft : List ℕ → Option ℕ → ℕ → Type 0
IsLeft words left n = (o : ℕ) → o < n → IsShaded words o → (IsScanned words o → ⊥) → left ≡ Some o
