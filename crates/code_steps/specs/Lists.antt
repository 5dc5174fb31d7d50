-- The list of pairs of each entry, its sequences, and the stores that stand in it.
use Rattle.std.specs.Prelude.{◌≡◌, ℕ, suc, ◌+◌, ◌*◌, ◌<◌, ◌≤◌, List, [], ◌∷◌, ◌++◌, length, slice_index_or, slice_set, nat_lt, if◌then◌else◌}
use Rattle.code_steps.specs.declared.view.Store.{Store}

-- a code number and an entry number
abbrev pub Pair : Type 0
Pair = ℕ × ℕ

-- xs begins with ys
abbrev pub StartsWith : {A : Type 0} → List A → List A → Type 0
StartsWith {A} xs ys = (rest : List A) × (xs ≡ ys ++ rest)

-- P holds of each one
abbrev pub Each : {A : Type 0} → (A → Type 0) → List A → Type 0
Each P [] = Unit {0}
Each P (x ∷ xs) = P x × Each P xs

-- f of each, added up
abbrev pub total : {A : Type 0} → (A → ℕ) → List A → ℕ
total f [] = 0
total f (x ∷ xs) = f x + total f xs

-- of lists for each entry, that of entry i
abbrev pub list_at : {A : Type 0} → List (List A) → ℕ → List A
list_at ls i = slice_index_or ls i []

-- the list of entry i grew at its end
abbrev pub grown_at : {A : Type 0} → List (List A) → ℕ → List A → List (List A)
grown_at ls i more = slice_set ls i (list_at ls i ++ more)

-- p ends the list, whose opening pair has the sequence `start` and each later one two more, and so has the sequence seq
pub record EndsWith (start : ℕ) (l : List Pair) (seq : ℕ) (p : Pair) : Type 0 where
  pub before : List Pair
  pub is : l ≡ before ++ p ∷ []
  pub place : seq ≡ start + 2 * length before

abbrev pub store_of : ℕ → ℕ → Pair → Store
store_of at seq p = record { at = at; seq = seq; code = p.0; entry = p.1 }

-- the stores of these pairs at one entry, the first of which has the sequence seq
abbrev pub stores_from : ℕ → ℕ → List Pair → List Store
stores_from at seq [] = []
stores_from at seq (p ∷ ps) = store_of at seq p ∷ stores_from at (seq + 2) ps

-- the stores after the opening pair
abbrev pub stores_in : ℕ → ℕ → List Pair → List Store
stores_in at start [] = []
stores_in at start (p ∷ ps) = stores_from at (start + 2) ps

-- the stores after the opening pairs of these lists, which are those of entry `at` and the next ones
abbrev pub all_stores : ℕ → ℕ → List (List Pair) → List Store
all_stores at start [] = []
all_stores at start (l ∷ ls) = stores_in at start l ++ all_stores (suc at) start ls

-- the store x is that of a pair after the opening one, which was seen
pub record IsSeenStore (start : ℕ) (lists seen : List (List Pair)) (x : Store) : Type 0 where
  pub place : ℕ
  pub seq : x.seq ≡ start + 2 * place
  pub past : 1 ≤ place
  pub within : place < length (list_at seen x.at)
  pub pair : slice_index_or (list_at lists x.at) place (0, 0) ≡ (x.code, x.entry)

-- the longer one of two lists, and the shorter one
abbrev pub longer : {A : Type 0} → List A → List A → List A
longer xs ys = if nat_lt (length xs) (length ys) then ys else xs

abbrev pub shorter : {A : Type 0} → List A → List A → List A
shorter xs ys = if nat_lt (length xs) (length ys) then xs else ys

abbrev pub in_turn : {A : Type 0} → List A → List A → List A
in_turn xs ys = xs ++ ys

-- f of the two lists of each entry
abbrev pub of_both : {A : Type 0} → (List A → List A → List A) → List (List A) → List (List A) → List (List A)
of_both f [] yss = []
of_both f (xs ∷ xss) [] = []
of_both f (xs ∷ xss) (ys ∷ yss) = f xs ys ∷ of_both f xss yss
