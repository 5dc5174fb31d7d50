-- What it tells of a set of pairs that no pair, or some pair, has a number as its second part.
use Rattle.std.proofs.Common.{◌≡◌, ℕ, ◌==◌, Bool, true, false, ◌&&◌, List, [], ◌∷◌, refl, sym, subst, arith, nat_cmp}
use Rattle.std.specs.Prelude.{◌||◌, IsTrue, ◌↔◌, not}
use Rattle.std.proofs.lemmas.Bool.Decides.{nat_tests}
use Rattle.std.specs.Ordering.{is_eq, ordering_then}
use Rattle.std.specs.List.{list_any}
use Rattle.plain_program.specs.Entries.{has_pair}

pub is_eq-nat_cmp : (k i : ℕ) → is_eq (nat_cmp k i) ≡ (k == i)
is_eq-nat_cmp k i = grind (arith, nat_tests)

pub is_eq-pair_cmp : (k l m i : ℕ) → is_eq (ordering_then (nat_cmp k m) (nat_cmp l i)) ≡ ((k == m) && (l == i))
is_eq-pair_cmp k l m i = grind (arith, nat_tests)

-- the pairs that have it as their second part, by a case on the first pair's
pub settled_from-none : (keys : List (ℕ × ℕ)) (i : ℕ) → list_any (λ (pair : ℕ × ℕ). pair.1 == i) keys ≡ false → (m : ℕ) → has_pair keys m i ≡ false
settled_from-none [] i none m = refl
settled_from-none (pair ∷ keys) i none m =
    grind (arith, nat_tests, is_eq-pair_cmp m i pair.0 pair.1, settled_from-none keys i)

here : (pair : ℕ × ℕ) (keys : List (ℕ × ℕ)) (i : ℕ) → (pair.1 == i) ≡ true → has_pair (pair ∷ keys) pair.0 i ≡ true
here pair keys i is = grind (arith, nat_tests, is_eq-pair_cmp pair.0 i pair.0 pair.1)

there : (pair : ℕ × ℕ) (keys : List (ℕ × ℕ)) (m i : ℕ) → has_pair keys m i ≡ true → has_pair (pair ∷ keys) m i ≡ true
there pair keys m i is = grind (arith, nat_tests)

-- by a case on the first pair, where the other ones give a pair of their own
some_from-first : (test : Bool) (pair : ℕ × ℕ) (keys : List (ℕ × ℕ)) (i : ℕ) → (pair.1 == i) ≡ test →
    (test ≡ false → (m : ℕ) × (has_pair keys m i ≡ true)) → (m : ℕ) × (has_pair (pair ∷ keys) m i ≡ true)
some_from-first true pair keys i is rest = (pair.0, here pair keys i is)
some_from-first false pair keys i is rest = ((rest refl).0, there pair keys (rest refl).0 i (rest refl).1)

pub some_from-any : (keys : List (ℕ × ℕ)) (i : ℕ) → list_any (λ (pair : ℕ × ℕ). pair.1 == i) keys ≡ true → (m : ℕ) × (has_pair keys m i ≡ true)
some_from-any [] i any = absurd (cc)
some_from-any (pair ∷ keys) i any = some_from-first (pair.1 == i) pair keys i refl
    (λ none. some_from-any keys i (subst (λ (test : Bool). (test || list_any (λ (other : ℕ × ℕ). other.1 == i) keys) ≡ true) none any))

pub settled-not_any : (keys : List (ℕ × ℕ)) (i : ℕ) (test : Bool) → test ≡ list_any (λ (pair : ℕ × ℕ). pair.1 == i) keys →
    (IsTrue (not test) ↔ ((m : ℕ) → has_pair keys m i ≡ false))
settled-not_any keys i true is = (λ h. absurd (cc), λ settled. let some : (m : ℕ) × (has_pair keys m i ≡ true) = some_from-any keys i (sym is) in let at : has_pair keys some.0 i ≡ false = settled some.0 in absurd (cc))
settled-not_any keys i false is = (λ h. settled_from-none keys i (sym is), λ settled. refl)
