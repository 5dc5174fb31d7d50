-- Calls in a row, as reads that each gave some bytes, or writes that each took some.
use Rattle.std.specs.Prelude.{ℕ, ◌<◌, List, [], ◌++◌, length}

-- from the old state to the new one by calls that each moved at least one byte, and these bytes together
pub data InCalls {A : Type 0} (moves : A → List ℕ → A → Type 0) (old : A) : List ℕ → A → Type 0 where
  none : InCalls moves old [] old
  more : (bytes piece : List ℕ) (mid new : A) → InCalls moves old bytes mid → 0 < length piece → moves mid piece new →
      InCalls moves old (bytes ++ piece) new

-- such calls, and then one more
abbrev pub InCallsThen : {A : Type 0} → (A → List ℕ → A → Type 0) → A → List ℕ → (A → Type 0) → Type 0
InCallsThen {A} moves old bytes then = (last : A) × InCalls moves old bytes last × then last
