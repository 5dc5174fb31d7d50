-- What is added up over the views of all seats, what holds of each view after a change of one, and lists of facts.
use Rattle.std.proofs.Common.{◌≡◌, ◌≢◌, ℕ, zero, suc, ◌+◌, ◌≤◌, ◌==◌, inl, inr, ⊎_elim, Bool, true, false, if◌then◌else◌, List, [], ◌∷◌, ◌++◌, set, refl, sym, ap, subst, ◌∙◌, arith, append_assoc, append-nil}
use Rattle.std.proofs.lemmas.Bool.Decides.{nat_tests}
use mathlib.Core.Option.{some, some-injective, some-ne-none}
use lib.ListN.{get_elem?}
use Rattle.atomic_table.proofs.Lists.{at_set}
use Rattle.entry_base.specs.Views.{pick_from}
use Rattle.entry_base.specs.Lists.{StartsWith, Each, Has, AreIn, total, count_in, without_one, without_all}

module _ {V : Type 0} where
  -- after a change of one view
  pub total_set : (f : V → ℕ) (views : List V) (id : ℕ) (v w : V) → get_elem? views id ≡ some v → total f (set views id w) + f v ≡ total f views + f w
  total_set f [] id v w e = absurd (some-ne-none v (sym e))
  total_set f (x ∷ xs) zero v w e = let is : f x ≡ f v = ap f (some-injective x v e) in omega arith
  total_set f (x ∷ xs) (suc i) v w e = let r = total_set f xs i v w e in omega arith

  pub total_append : (f : V → ℕ) (xs ys : List V) → total f (xs ++ ys) ≡ total f xs + total f ys
  total_append f [] ys = omega arith
  total_append f (x ∷ xs) ys = let r = total_append f xs ys in omega arith

  -- one view, and two of different seats, weigh no more than all
  pub among : (f : V → ℕ) (views : List V) (id : ℕ) (v : V) → get_elem? views id ≡ some v → f v ≤ total f views
  among f [] id v e = absurd (some-ne-none v (sym e))
  among f (x ∷ xs) zero v e = let is : f x ≡ f v = ap f (some-injective x v e) in omega arith
  among f (x ∷ xs) (suc i) v e = let r = among f xs i v e in omega arith

  pub both_among : (f : V → ℕ) (views : List V) (i j : ℕ) (v u : V) → i ≢ j → get_elem? views i ≡ some v → get_elem? views j ≡ some u → f v + f u ≤ total f views
  both_among f [] i j v u ne e e' = absurd (some-ne-none v (sym e))
  both_among f (x ∷ xs) zero zero v u ne e e' = absurd (ne refl)
  both_among f (x ∷ xs) zero (suc j) v u ne e e' = let is : f x ≡ f v = ap f (some-injective x v e) in let r = among f xs j u e' in omega arith
  both_among f (x ∷ xs) (suc i) zero v u ne e e' = let is : f x ≡ f u = ap f (some-injective x u e') in let r = among f xs i v e in omega arith
  both_among f (x ∷ xs) (suc i) (suc j) v u ne e e' = let r = both_among f xs i j v u (λ s. ne (ap suc s)) e e' in omega arith

  -- what holds of each view holds after one is set
  pub views_set : (P : ℕ → V → Type 0) (views : List V) (id : ℕ) (w : V)
      → ((j : ℕ) (u : V) → j ≢ id → get_elem? views j ≡ some u → P j u) → P id w → (j : ℕ) (u : V) → get_elem? (set views id w) j ≡ some u → P j u
  views_set P views id w others mine j u at =
      ⊎_elim
      (λ (t : (j ≡ id) × (w ≡ u)). subst (λ (p : ℕ × V). P p.0 p.1) (λ i. (sym t.0 i, t.1 i)) mine)
      (λ (t : (j ≢ id) × (get_elem? views j ≡ some u)). others j u t.0 t.1)
      (at_set views id j w u at)

module _ {A : Type 0} where
  pub each_map : (P Q : A → Type 0) (xs : List A) → ((x : A) → P x → Q x) → Each P xs → Each Q xs
  each_map P Q [] f h = tt
  each_map P Q (x ∷ xs) f h = (f x h.0, each_map P Q xs f h.1)

  pub each_append : (P : A → Type 0) (xs ys : List A) → Each P xs → Each P ys → Each P (xs ++ ys)
  each_append P [] ys h g = g
  each_append P (x ∷ xs) ys h g = (h.0, each_append P xs ys h.1 g)

  pub each_last : (P : A → Type 0) (xs ys : List A) → Each P (xs ++ ys) → Each P ys
  each_last P [] ys h = h
  each_last P (x ∷ xs) ys h = each_last P xs ys h.1

  pub each_has : (P : A → Type 0) (xs : List A) (x : A) → Each P xs → Has xs x → P x
  each_has P [] x h is = absurd is
  each_has P (y ∷ ys) x h is = ⊎_elim (λ (e : y ≡ x). subst P e h.0) (λ (t : Has ys x). each_has P ys x h.1 t) is

  pub has_append : (xs ys : List A) (x : A) → Has ys x → Has (xs ++ ys) x
  has_append [] ys x h = h
  has_append (y ∷ xs) ys x h = inr (has_append xs ys x h)

  -- of two lists, the elements that a test picks
  pub each_pick : (P : A → Type 0) (f : ℕ → Bool) (i : ℕ) (xs ys : List A) → Each P xs → Each P ys → Each P (pick_from f i xs ys)
  each_pick P f i [] ys h g = tt
  each_pick P f i (x ∷ xs) [] h g = tt
  each_pick P f i (x ∷ xs) (y ∷ ys) h g = (one (f i), each_pick P f (i + 1) xs ys h.1 g.1)
    where
      one : (b : Bool) → P (if b then y else x)
      one true = g.0
      one false = h.0

  pub starts_self : (xs : List A) → StartsWith xs xs
  starts_self xs = ([], sym (append-nil xs))

  pub starts_trans : (xs ys zs : List A) → StartsWith xs ys → StartsWith ys zs → StartsWith xs zs
  starts_trans xs ys zs (r, is) (q, was) = (q ++ r, is ∙ (ap (λ l. l ++ r) was ∙ append_assoc zs q r))

-- a list without one n has one n less, and as much of all else
pub count_without : (n : ℕ) (ms : List ℕ) (m : ℕ) → 1 ≤ count_in n ms → count_in m (without_one n ms) + count_in m (n ∷ []) ≡ count_in m ms
count_without n [] m h = absurd (omega arith)
count_without n (x ∷ xs) m h = go (n == x) refl h (λ l. count_without n xs m l)
  where
    go : (b : Bool) → (n == x) ≡ b → 1 ≤ (if b then 1 else 0) + count_in n xs
        → (1 ≤ count_in n xs → count_in m (without_one n xs) + count_in m (n ∷ []) ≡ count_in m xs)
        → count_in m (if b then xs else x ∷ without_one n xs) + count_in m (n ∷ []) ≡ (if m == x then 1 else 0) + count_in m xs
    go true e l r = let same : n ≡ x = grind (arith, nat_tests) in
        let t : count_in m (n ∷ []) ≡ count_in m (x ∷ []) = ap (λ (y : ℕ). count_in m (y ∷ [])) same in omega arith
    go false e l r = let q = r (omega arith) in omega arith

pub count_append : (n : ℕ) (xs ys : List ℕ) → count_in n (xs ++ ys) ≡ count_in n xs + count_in n ys
count_append n [] ys = omega arith
count_append n (x ∷ xs) ys = let r = count_append n xs ys in omega arith

-- what holds of each of a list holds of each that stands in it, and of what is left without some
pub has_count : (n : ℕ) (ms : List ℕ) → 1 ≤ count_in n ms → Has ms n
has_count n [] h = absurd (omega (arith, h))
has_count n (m ∷ ms) h = go (n == m) refl h (λ l. has_count n ms l)
  where
    go : (b : Bool) → (n == m) ≡ b → 1 ≤ (if b then 1 else 0) + count_in n ms → (1 ≤ count_in n ms → Has ms n) → Has (m ∷ ms) n
    go true e l rest = inl (let same : m ≡ n = grind (arith, nat_tests) in same)
    go false e l rest = inr (rest (omega (arith, l)))

pub count_self : (n : ℕ) (ns : List ℕ) → count_in n (n ∷ ns) ≡ 1 + count_in n ns
count_self n ns = let t : (n == n) ≡ true = grind (arith, nat_tests) in ap (λ (b : Bool). (if b then 1 else 0) + count_in n ns) t

pub count_more : (n m : ℕ) (ns : List ℕ) → count_in m ns ≤ count_in m (n ∷ ns)
count_more n m ns = go (m == n)
  where
    go : (b : Bool) → count_in m ns ≤ (if b then 1 else 0) + count_in m ns
    go true = omega arith
    go false = omega arith

pub each_in : (P : ℕ → Type 0) (ns ms : List ℕ) → AreIn ns ms → Each P ms → Each P ns
each_in P [] ms are h = tt
each_in P (n ∷ ns) ms are h = (
  each_has P ms n h (has_count n ms (let a = are n in let c = count_self n ns in omega arith)),
  each_in P ns ms (λ m. let a = are m in let c = count_more n m ns in omega arith) h,
)

each_without_one : (P : ℕ → Type 0) (n : ℕ) (ms : List ℕ) → Each P ms → Each P (without_one n ms)
each_without_one P n [] h = tt
each_without_one P n (m ∷ ms) h = go (n == m) (each_without_one P n ms h.1)
  where
    go : (b : Bool) → Each P (without_one n ms) → Each P (if b then ms else m ∷ without_one n ms)
    go true r = h.1
    go false r = (h.0, r)

pub each_without : (P : ℕ → Type 0) (ns ms : List ℕ) → Each P ms → Each P (without_all ns ms)
each_without P [] ms h = h
each_without P (n ∷ ns) ms h = each_without P ns (without_one n ms) (each_without_one P n ms h)
