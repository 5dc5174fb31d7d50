-- The roots of an image: the objects that its globals and variables hold.
use Rattle.std.specs.Prelude.{◌≡◌, ◌⊎◌, ℕ, zero, suc, ◌+◌, ◌-◌, ◌<◌, nat_le, Bool, true, false, ◌&&◌, if◌then◌else◌, List, [], ◌∷◌, ◌++◌, length, slice_index, slice_index_or, slice_set, IsTrue}
use Rattle.plain_table.specs.Words.{global_place}

-- the object of a word that is 0 for nothing, and else the object's number plus 1, is held too
abbrev pub held_with : List Bool → ℕ → List Bool
held_with held word = if nat_le 1 word && nat_le word (length held) then slice_set held (word - 1) true else held

abbrev pub is_held : List Bool → ℕ → Bool
is_held held o = slice_index_or held o false

-- an object that a global or a variable holds
abbrev pub holds_global : List ℕ → ℕ → Type 0
holds_global words o = (g : ℕ) × (g < 16) × (slice_index words (global_place g) ≡ o + 1)

abbrev pub holds_variable : List ℕ → ℕ → Type 0
holds_variable variables o = (k : ℕ) × (k < length variables) × (slice_index variables k ≡ o + 1)

-- more objects are held, and just these
pub record IsHeldMore (old now : List Bool) (holds : ℕ → Type 0) : Type 0 where
  pub long : length now ≡ length old
  pub was : (o : ℕ) → IsTrue (is_held old o) → IsTrue (is_held now o)
  pub more : (o : ℕ) → o < length old → holds o → IsTrue (is_held now o)
  pub only : (o : ℕ) → IsTrue (is_held now o) → IsTrue (is_held old o) ⊎ holds o

-- the roots among the objects below a number
pub record AreHeld (held : List Bool) (words vars : List ℕ) (objects : ℕ) : Type 0 where
  pub long : length held ≡ objects
  pub globals : (o : ℕ) → o < objects → holds_global words o → IsTrue (is_held held o)
  pub variables : (o : ℕ) → o < objects → holds_variable vars o → IsTrue (is_held held o)
  pub only : (o : ℕ) → IsTrue (is_held held o) → holds_global words o ⊎ holds_variable vars o

-- the members of a set below n, ascending
abbrev pub members_below : (ℕ → Bool) → ℕ → List ℕ
members_below set zero = []
members_below set (suc n) = if set n then members_below set n ++ n ∷ [] else members_below set n
