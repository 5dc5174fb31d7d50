-- How a list is split at the first element that passes a test.
use Rattle.std.proofs.Common.{◌≡◌, ℕ, ◌+◌, ◌-◌, ◌≤◌, Bool, true, false, not, cond, List, [], ◌∷◌, length, take, drop, Some, None, refl, arith, length-drop}
use Rattle.std.specs.List.{slice_split, onto_first, position, position_or_len}
use Rattle.std.proofs.lemmas.Grind.{common_steps}
use Rattle.std.proofs.lemmas.List.{take_all}
use Rattle.std.proofs.lemmas.List.Splits.{slice_split_first}
use Rattle.script_reader.specs.Grammar.{is_empty}

-- where no element passes, the list is the one part
unsplit : (p : ℕ → Bool) (xs : List ℕ) → length xs ≤ position_or_len p xs → slice_split p xs ≡ xs ∷ []
unsplit p [] h = refl
unsplit p (x ∷ xs) h =
    (elim (p x) as (λ b. length (x ∷ xs) ≤ cond (not b) (1 + position_or_len p xs) 0
    → cond b ([] ∷ slice_split p xs) (onto_first x (slice_split p xs)) ≡ (x ∷ xs) ∷ [])
    [ true ↦ λ g. absurd (omega arith) | false ↦ λ g. rw (unsplit p xs (omega arith)) ]) h

pub whole_from_position : (p : ℕ → Bool) (xs : List ℕ) → position p xs ≡ None → slice_split p xs ≡ xs ∷ []
whole_from_position p xs h = grind (arith, common_steps, unsplit p xs)

pub split_from_position : (p : ℕ → Bool) (xs : List ℕ) (i : ℕ) → position p xs ≡ Some i
    → slice_split p xs ≡ take i xs ∷ slice_split p (take (length xs - (i + 1)) (drop (i + 1) xs))
split_from_position p xs i h =
    rw (take_all (length xs - (i + 1)) (drop (i + 1) xs) (omega (arith, length-drop (i + 1) xs)))
    (grind (arith, common_steps, slice_split_first p xs 0))

-- there is at least one part
onto_first-full : (x : ℕ) (parts : List (List ℕ)) → is_empty (onto_first x parts) ≡ false
onto_first-full x [] = refl
onto_first-full x (part ∷ parts) = refl

pub slice_split-full : (p : ℕ → Bool) (xs : List ℕ) → is_empty (slice_split p xs) ≡ false
slice_split-full p [] = refl
slice_split-full p (x ∷ xs) =
    elim (p x) as (λ b. is_empty (cond b ([] ∷ slice_split p xs) (onto_first x (slice_split p xs))) ≡ false)
    [ true ↦ refl | false ↦ onto_first-full x (slice_split p xs) ]

next : {parts : List (List ℕ)} {word : List ℕ} (onward : List (List ℕ)) → parts ≡ word ∷ onward → is_empty onward ≡ false
    → (a b : List ℕ) × (more : List (List ℕ)) × (parts ≡ a ∷ b ∷ more)
next [] h full = absurd cc
next {word = word} (b ∷ more) h full = (word, b, more, h)

-- where a part follows the first, there are two at least
pub two_parts : (p : ℕ → Bool) (line word rest : List ℕ) → slice_split p line ≡ word ∷ slice_split p rest
    → (a b : List ℕ) × (more : List (List ℕ)) × (slice_split p line ≡ a ∷ b ∷ more)
two_parts p line word rest h = next (slice_split p rest) h (slice_split-full p rest)
