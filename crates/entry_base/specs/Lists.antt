-- Words for lists: beginnings, what holds of each element, membership, sums, and how often a number stands in one.
use Rattle.std.specs.Prelude.{◌≡◌, ◌⊎◌, ℕ, ◌+◌, ◌≤◌, ◌==◌, if◌then◌else◌, List, [], ◌∷◌, ◌++◌, length, nat_lt}

-- xs begins with ys
abbrev pub StartsWith : {A : Type 0} → List A → List A → Type 0
StartsWith {A} xs ys = (rest : List A) × (xs ≡ ys ++ rest)

-- P holds of each one
abbrev pub Each : {A : Type 0} → (A → Type 0) → List A → Type 0
Each P [] = Unit {0}
Each P (x ∷ xs) = P x × Each P xs

-- x is in the list
abbrev pub Has : {A : Type 0} → List A → A → Type 0
Has [] x = ⊥
Has (y ∷ ys) x = (y ≡ x) ⊎ Has ys x

-- f of each, added up
abbrev pub total : {A : Type 0} → (A → ℕ) → List A → ℕ
total f [] = 0
total f (x ∷ xs) = f x + total f xs

-- how often a number stands in the list
abbrev pub count_in : ℕ → List ℕ → ℕ
count_in n [] = 0
count_in n (m ∷ ms) = (if n == m then 1 else 0) + count_in n ms

-- some numbers stand in a list, each at least as often as it is given
abbrev pub AreIn : List ℕ → List ℕ → Type 0
AreIn ns ms = (n : ℕ) → count_in n ns ≤ count_in n ms

-- the list without the first n, and without one of each of some numbers
abbrev pub without_one : ℕ → List ℕ → List ℕ
without_one n [] = []
without_one n (m ∷ ms) = if n == m then ms else m ∷ without_one n ms

abbrev pub without_all : List ℕ → List ℕ → List ℕ
without_all [] ms = ms
without_all (n ∷ ns) ms = without_all ns (without_one n ms)

abbrev pub longer : {A : Type 0} → List A → List A → List A
longer xs ys = if nat_lt (length xs) (length ys) then ys else xs

abbrev pub shorter : {A : Type 0} → List A → List A → List A
shorter xs ys = if nat_lt (length xs) (length ys) then xs else ys
