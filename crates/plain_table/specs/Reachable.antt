-- Reachable objects: those that a global or a variable of any mutator holds, the roots, and those that a reference of
-- a reachable object holds. It is stated of the three maps, so that an event that changes none of them leaves it alone.
-- A collection cycle keeps the cells of reachable objects.
use Rattle.std.specs.Prelude.{◌≡◌, ◌⊎◌, ℕ, Option, Some}

pub data Reaches (refs : ℕ → ℕ → Option ℕ) (globals : ℕ → Option ℕ) (vars : ℕ → ℕ → Option ℕ) : ℕ → Type 0 where
  By_global : (g o : ℕ) → globals g ≡ Some o → Reaches refs globals vars o
  By_variable : (b v o : ℕ) → vars b v ≡ Some o → Reaches refs globals vars o
  By_reference : (o k q : ℕ) → Reaches refs globals vars o → refs o k ≡ Some q → Reaches refs globals vars q

-- an object in a global or in a variable
abbrev pub IsRoot : (ℕ → Option ℕ) → (ℕ → ℕ → Option ℕ) → ℕ → Type 0
IsRoot globals vars o = ((g : ℕ) × (globals g ≡ Some o)) ⊎ ((b : ℕ) × (v : ℕ) × (vars b v ≡ Some o))
