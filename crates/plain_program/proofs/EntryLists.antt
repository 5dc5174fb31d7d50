-- Lists of entries in order: what a look-up finds is an element, and each element is found.
use Rattle.std.specs.Prelude.{◌≡◌, ℕ, Bool, true, Some, List, Contains, ◌↔◌}
use Rattle.std.specs.List.{list_any}
use Rattle.std.specs.List.Sorted.{IsStrictlySortedBy}
use Rattle.std.specs.Map.{keys_of, values_of}
use Rattle.std.specs.Cmp.{IsTotalOrder}
use Rattle.std.specs.Ordering.{nat_cmp}
use Rattle.std.proofs.lemmas.Cmp.{nat_cmp_total, then_total, on_total, eq_by_cmp_equiv}
use Rattle.std.proofs.lemmas.Map.Lookups.{CmpEqualImpliesEq, exact_unsigned, exact_pairs}
use Rattle.std.proofs.lemmas.Map.Keys.{IsDistinct-from_sorted}
use Rattle.std.proofs.lemmas.Map.Made.{Contains-from_values_of, Contains-values_of}
use Rattle.std.proofs.lemmas.Map.Views.{Contains-from_lookup, lookup-from_Contains, Contains-from_any, list_any-from_Contains, tells_apart}
use Rattle.std.proofs.lemmas.List.Folds.{Any-from_list_any, list_any-from_Any}
use Rattle.plain_program.specs.Entries.{pair_cmp, at, at_pair, has, has_pair}

-- the order of pairs
pub pair_cmp_total : IsTotalOrder pair_cmp
pair_cmp_total = then_total (on_total (λ (p : ℕ × ℕ). p.0) nat_cmp_total) (on_total (λ (p : ℕ × ℕ). p.1) nat_cmp_total)

pub pair_cmp_exact : CmpEqualImpliesEq pair_cmp
pair_cmp_exact = exact_pairs nat_cmp nat_cmp exact_unsigned exact_unsigned

-- a look-up finds the elements and no other
pub Contains-from_at : {A : Type 0} (entries : List (ℕ × A)) (k : ℕ) (v : A) → at entries k ≡ Some v → Contains entries (k, v)
Contains-from_at entries k v is = Contains-from_lookup (tells_apart exact_unsigned) k v entries is

pub at-from_Contains : {A : Type 0} (entries : List (ℕ × A)) → IsStrictlySortedBy nat_cmp (keys_of entries) → (k : ℕ) (v : A) → Contains entries (k, v) → at entries k ≡ Some v
at-from_Contains entries sorted k v is =
    lookup-from_Contains (eq_by_cmp_equiv nat_cmp_total) k v entries (IsDistinct-from_sorted nat_cmp (keys_of entries) sorted) is

pub Contains-from_at_pair : {A : Type 0} (entries : List ((ℕ × ℕ) × A)) (m i : ℕ) (v : A) → at_pair entries m i ≡ Some v → Contains entries ((m, i), v)
Contains-from_at_pair entries m i v is = Contains-from_lookup (tells_apart pair_cmp_exact) (m, i) v entries is

pub at_pair-from_Contains : {A : Type 0} (entries : List ((ℕ × ℕ) × A)) → IsStrictlySortedBy pair_cmp (keys_of entries) → (m i : ℕ) (v : A) → Contains entries ((m, i), v) → at_pair entries m i ≡ Some v
at_pair-from_Contains entries sorted m i v is =
    lookup-from_Contains (eq_by_cmp_equiv pair_cmp_total) (m, i) v entries (IsDistinct-from_sorted pair_cmp (keys_of entries) sorted) is

pub has_iff : (keys : List ℕ) (i : ℕ) → (has keys i ≡ true) ↔ Contains keys i
has_iff keys i = (Contains-from_any (tells_apart exact_unsigned) i keys, list_any-from_Contains (eq_by_cmp_equiv nat_cmp_total) i keys)

pub has_pair_iff : (keys : List (ℕ × ℕ)) (m i : ℕ) → (has_pair keys m i ≡ true) ↔ Contains keys (m, i)
has_pair_iff keys m i = (Contains-from_any (tells_apart pair_cmp_exact) (m, i) keys, list_any-from_Contains (eq_by_cmp_equiv pair_cmp_total) (m, i) keys)

-- a test of the elements, where IsIn says what it is to be one
module _ {X : Type 0} (test : X → Bool) (xs : List X) (IsIn : X → Type 0) (says : (x : X) → IsIn x ↔ Contains xs x) where
  any-by : (list_any test xs ≡ true) ↔ ((x : X) × IsIn x × (test x ≡ true))
  any-by = (
    λ any. let a = Any-from_list_any test xs any in (a.1, (says a.1).1 (a.0, a.2, a.3), a.4),
    λ (s : (x : X) × IsIn x × (test x ≡ true)). let h = (says s.0).0 s.1 in list_any-from_Any test xs (h.0, s.0, h.1, h.2, s.2),
  )

-- some pair of a set passes a test
module _ (test : ℕ × ℕ → Bool) (keys : List (ℕ × ℕ)) where
  pub list_any-pairs : (list_any test keys ≡ true) ↔ ((m : ℕ) × (i : ℕ) × (has_pair keys m i ≡ true) × (test (m, i) ≡ true))
  list_any-pairs = let any = any-by test keys (λ p. has_pair keys p.0 p.1 ≡ true) (λ p. has_pair_iff keys p.0 p.1) in (
    λ h. let s = any.0 h in (s.0.0, s.0.1, s.1, s.2),
    λ (s : (m : ℕ) × (i : ℕ) × (has_pair keys m i ≡ true) × (test (m, i) ≡ true)). any.1 ((s.0, s.1), s.2, s.3),
  )

-- a value is one that some look-up finds
pub has-values_of : (entries : List (ℕ × ℕ)) → IsStrictlySortedBy nat_cmp (keys_of entries) → (v : ℕ) → (has (values_of entries) v ≡ true) ↔ ((k : ℕ) × (at entries k ≡ Some v))
has-values_of entries sorted v = (
  λ h. let s = Contains-from_values_of entries v ((has_iff (values_of entries) v).0 h) in (s.0, at-from_Contains entries sorted s.0 v s.1),
  λ (s : (k : ℕ) × (at entries k ≡ Some v)). (has_iff (values_of entries) v).1 (Contains-values_of entries s.0 v (Contains-from_at entries s.0 v s.1)),
)

pub has-pair_values_of : (entries : List ((ℕ × ℕ) × ℕ)) → IsStrictlySortedBy pair_cmp (keys_of entries) → (v : ℕ) →
    (has (values_of entries) v ≡ true) ↔ ((m : ℕ) × (i : ℕ) × (at_pair entries m i ≡ Some v))
has-pair_values_of entries sorted v = (
  λ h. let s = Contains-from_values_of entries v ((has_iff (values_of entries) v).0 h) in (s.0.0, s.0.1, at_pair-from_Contains entries sorted s.0.0 s.0.1 v s.1),
  λ (s : (m : ℕ) × (i : ℕ) × (at_pair entries m i ≡ Some v)). (has_iff (values_of entries) v).1 (Contains-values_of entries (s.0, s.1) v (Contains-from_at_pair entries s.0 s.1 v s.2)),
)
