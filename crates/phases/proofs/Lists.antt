-- Lists: elements and their places, sums over some sessions, and the events of a number.
use Rattle.std.proofs.Common.{◌≡◌, ◌≢◌, ℕ, zero, suc, ◌<◌, ◌≤◌, ◌==◌, Bool, true, false, if◌then◌else◌, List, [], ◌∷◌, ◌++◌, length, get_or, refl, sym, ap, subst, ◌∙◌, inl, inr, arith, eq-eqb, ne_eqb}
use Rattle.std.proofs.lemmas.Bool.Decides.{nat_tests}
use Rattle.std.specs.List.{All, Any, Contains}
use Rattle.plain_table.specs.declared.events.Event.{Event}
use Rattle.plain_table.specs.Belongs.{events_by}
use Rattle.entry_base.specs.Lists.{Each, Has, count_in, total}
use Rattle.entry_base.proofs.Sums.{count_self}
use Rattle.phase_calls.proofs.LinkedObjects.{Contains-has}

-- elements of a list and their places
module _ {A : Type 0} where
  pub Any-has : (P : A → Type 0) (xs : List A) (x : A) → Has xs x → P x → Any P xs
  Any-has P xs x has holds = let c = Contains-has xs x has in (c.0, x, c.1, c.2, holds)

  -- what holds of each element, at each place, and of each that stands in the list
  pub Each-at : (P : A → Type 0) (xs : List A) → Each P xs → (i : ℕ) (d : A) → i < length xs → P (get_or xs i d)
  Each-at P [] h i d low = absurd (omega (arith, low))
  Each-at P (x ∷ xs) h zero d low = h.0
  Each-at P (x ∷ xs) h (suc i) d low = Each-at P xs h.1 i d (omega (arith, low))

  pub All-each : (P : A → Type 0) (xs : List A) → Each P xs → All P xs
  All-each P xs h i d low = Each-at P xs h i d low

  pub Each-all : (P : A → Type 0) (xs : List A) → All P xs → Each P xs
  Each-all P [] h = tt
  Each-all P (x ∷ xs) h = (h 0 x (omega arith), Each-all P xs (λ i d low. h (suc i) d (omega (arith, low))))

  pub Each-has : (P : A → Type 0) (xs : List A) → ((x : A) → Has xs x → P x) → Each P xs
  Each-has P [] h = tt
  Each-has P (x ∷ xs) h = (h x (inl refl), Each-has P xs (λ y has. h y (inr has)))

  pub Each-places : (P : A → Type 0) (xs : List A) → ((i : ℕ) (d : A) → i < length xs → P (get_or xs i d)) → Each P xs
  Each-places P xs h = Each-all P xs h

  pub Each-first : (P : A → Type 0) (xs ys : List A) → Each P (xs ++ ys) → Each P xs
  Each-first P [] ys h = tt
  Each-first P (x ∷ xs) ys h = (h.0, Each-first P xs ys h.1)

  -- a sum that is none, and one that is some
  pub total-none : (f : A → ℕ) (xs : List A) → ((i : ℕ) (d : A) → i < length xs → f (get_or xs i d) ≡ 0) → total f xs ≡ 0
  total-none f [] none = refl
  total-none f (x ∷ xs) none =
      let a = none 0 x (omega arith) in
      let r = total-none f xs (λ i d low. none (suc i) d (omega (arith, low))) in
      omega arith

  pub total-some : (f : A → ℕ) (xs : List A) → 1 ≤ total f xs → (i : ℕ) × (i < length xs) × ((d : A) → 1 ≤ f (get_or xs i d))
  total-some f [] some = absurd (omega (arith, some))
  total-some f (x ∷ xs) some = go (f x) refl (λ more. total-some f xs more)
    where
      go : (n : ℕ) → f x ≡ n → (1 ≤ total f xs → (i : ℕ) × (i < length xs) × ((d : A) → 1 ≤ f (get_or xs i d)))
          → (i : ℕ) × (i < length (x ∷ xs)) × ((d : A) → 1 ≤ f (get_or (x ∷ xs) i d))
      go zero is rest = let r = rest (omega (arith, some, is)) in (suc r.0, omega (arith, r.1), r.2)
      go (suc n) is rest = (0, omega arith, λ d. omega (arith, is))

  pub total-at : (f : A → ℕ) (xs : List A) (i : ℕ) (d : A) → i < length xs → f (get_or xs i d) ≤ total f xs
  total-at f [] i d low = absurd (omega (arith, low))
  total-at f (x ∷ xs) zero d low = omega arith
  total-at f (x ∷ xs) (suc i) d low = let r = total-at f xs i d (omega (arith, low)) in omega arith

pub count-has : (n : ℕ) (ms : List ℕ) → Has ms n → 1 ≤ count_in n ms
count-has n [] has = absurd has
count-has n (m ∷ ms) (inl same) = let c = count_self n ms in subst (λ k. 1 ≤ count_in n (k ∷ ms)) (sym same) (omega (arith, c))
count-has n (m ∷ ms) (inr has) = let r = count-has n ms has in omega (arith, r)

-- the events of a number are events of the list, and of the number
pub Has-events : (n : ℕ) (es : List Event) (e : Event) → Has (events_by n es) e → Has es e × (e.by ≡ n)
Has-events n [] e has = absurd has
Has-events n (f ∷ fs) e has = go (f.by == n) refl has (λ more. Has-events n fs e more)
  where
    go : (b : Bool) → (f.by == n) ≡ b → Has (if b then f ∷ events_by n fs else events_by n fs) e → (Has (events_by n fs) e → Has fs e × (e.by ≡ n))
        → Has (f ∷ fs) e × (e.by ≡ n)
    go true is (inl same) later = (inl same, ap (λ (x : Event). x.by) (sym same) ∙ (let same_by : f.by ≡ n = grind (arith, nat_tests) in same_by))
    go true is (inr rest) later = let r = later rest in (inr r.0, r.1)
    go false is rest later = let r = later rest in (inr r.0, r.1)

-- and where it has none, no event of the list is of the number
pub events_by-none : (n : ℕ) (es : List Event) → events_by n es ≡ [] → (e : Event) → Has es e → e.by ≢ n
events_by-none n [] none e has = absurd has
events_by-none n (f ∷ fs) none e has = λ same. go (f.by == n) refl none has same (λ none has. events_by-none n fs none e has)
  where
    go : (b : Bool) → (f.by == n) ≡ b → (if b then f ∷ events_by n fs else events_by n fs) ≡ [] → Has (f ∷ fs) e → e.by ≡ n
        → (events_by n fs ≡ [] → Has fs e → e.by ≢ n) → ⊥
    go true is none has same later = absurd (cc)
    go false is none (inl first) same later = absurd (let t : (f.by == n) ≡ true = ap (λ (x : Event). x.by == n) first ∙ eq-eqb e.by n same in cc)
    go false is none (inr rest) same later = later none rest same

-- where no event of the list is of the number, it has none
pub events_by-absent : (n : ℕ) (es : List Event) → ((e : Event) → Has es e → e.by ≢ n) → events_by n es ≡ []
events_by-absent n [] absent = refl
events_by-absent n (e ∷ es) absent =
    ap (λ (b : Bool). if b then e ∷ events_by n es else events_by n es) (ne_eqb e.by n (absent e (inl refl)))
    ∙ events_by-absent n es (λ f has. absent f (inr has))
