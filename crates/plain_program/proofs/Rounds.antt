-- A round over references: an object that is added leaves fewer to be found, and a round that adds none has found all.
use Rattle.std.proofs.Common.{◌≡◌, ℕ, ◌+◌, ◌<◌, ◌≤◌, ◌==◌, Bool, true, false, cond, not, ◌||◌, ◌&&◌, List, [], ◌∷◌, Option, Some, count_by, IsTrue, if◌then◌else◌, ◌↔◌, ◌⊎◌, inl, inr, refl, sym, ap, subst, ◌∙◌, arith}
use Rattle.std.specs.List.{list_all, list_any}
use Rattle.std.proofs.lemmas.Bool.Decides.{nat_tests}
use Rattle.std.proofs.lemmas.List.Sums.{sum_by-cons, AllPass-from_list_all}
use Rattle.std.proofs.lemmas.List.Folds.{list_any-from_Any}
use Rattle.std.proofs.lemmas.List.Elements.{All-contains}
use Rattle.plain_table.specs.Reachable.{Reaches, By_global, By_variable, By_reference}
use Rattle.plain_program.specs.Entries.{at_pair, has}
use Rattle.plain_program.specs.Rounds.{IsClosed, IsWithin, Keeps, StaysWithin, leads, unfound}
use Rattle.plain_program.proofs.EntryLists.{Contains-from_at_pair}

count_by-cons : {A : Type 0} (p : A → Bool) (x : A) (xs : List A) → count_by p (x ∷ xs) ≡ cond (p x) 1 0 + count_by p xs
count_by-cons p x xs = sum_by-cons (λ y. cond (p y) 1 0) x xs

cond-le : (a b : Bool) (m n : ℕ) → (a ≡ true → b ≡ true) → m ≤ n → cond a 1 0 + m ≤ cond b 1 0 + n
cond-le true true m n more le = omega arith
cond-le true false m n more le = let e : false ≡ true = more refl in absurd (cc)
cond-le false true m n more le = omega arith
cond-le false false m n more le = omega arith

-- fewer elements pass a test that asks more
count_by-le : {A : Type 0} (p q : A → Bool) → ((x : A) → p x ≡ true → q x ≡ true) → (xs : List A) → count_by p xs ≤ count_by q xs
count_by-le p q more [] = omega arith
count_by-le p q more (x ∷ xs) = rw (count_by-cons p x xs, count_by-cons q x xs) (cond-le (p x) (q x) (count_by p xs) (count_by q xs) (more x) (count_by-le p q more xs))

-- one of the elements passes the second test alone, by a case on the first element
lt-first : (a b : Bool) (m n : ℕ) (rest : Bool) → (a ≡ true → b ≡ true) → m ≤ n → (rest ≡ true → m < n) → ((b && not a) || rest) ≡ true → cond a 1 0 + m < cond b 1 0 + n
lt-first false true m n rest more le lt some = omega arith
lt-first false false m n rest more le lt some = omega (arith, lt some)
lt-first true true m n rest more le lt some = omega (arith, lt some)
lt-first true false m n rest more le lt some = let e : false ≡ true = more refl in absurd (cc)

count_by-lt : {A : Type 0} (p q : A → Bool) → ((x : A) → p x ≡ true → q x ≡ true) → (xs : List A) → list_any (λ x. q x && not (p x)) xs ≡ true → count_by p xs < count_by q xs
count_by-lt p q more [] some = absurd (cc)
count_by-lt p q more (x ∷ xs) some = rw (count_by-cons p x xs, count_by-cons q x xs)
    (lt-first (p x) (q x) (count_by p xs) (count_by q xs) (list_any (λ y. q y && not (p y)) xs) (more x) (count_by-le p q more xs) (count_by-lt p q more xs) some)

-- what is found once the object q is added
abbrev Adds : List ℕ → ℕ → List ℕ → Type 0
Adds found q after = (i : ℕ) → has after i ≡ (if q == i then true else has found i)

has-adds : (found : List ℕ) (q : ℕ) (after : List ℕ) → Adds found q after → has after q ≡ true
has-adds found q after adds = let e = adds q in grind (arith, nat_tests)

pub Keeps-adds : (found : List ℕ) (q : ℕ) (after : List ℕ) → Adds found q after → Keeps found after
Keeps-adds found q after adds i h = let e = adds i in grind (arith, nat_tests)

not-flips : (a b : Bool) → (b ≡ true → a ≡ true) → not a ≡ true → not b ≡ true
not-flips a true more h = let e : a ≡ true = more refl in absurd (cc)
not-flips a false more h = refl

pub unfound-adds : (refs : List ((ℕ × ℕ) × ℕ)) (found : List ℕ) (o k q : ℕ) (after : List ℕ) → at_pair refs o k ≡ Some q → has found q ≡ false → Adds found q after →
    unfound refs after < unfound refs found
unfound-adds refs found o k q after is new adds =
    let h = Contains-from_at_pair refs o k q is in
    count_by-lt (λ (e : (ℕ × ℕ) × ℕ). not (has after e.1)) (λ (e : (ℕ × ℕ) × ℕ). not (has found e.1))
    (λ (e : (ℕ × ℕ) × ℕ). not-flips (has after e.1) (has found e.1) (Keeps-adds found q after adds e.1)) refs
    (list_any-from_Any (λ (e : (ℕ × ℕ) × ℕ). not (has found e.1) && not (not (has after e.1))) refs
    (h.0, ((o, k), q), h.1, h.2, let a = has-adds found q after adds in grind (arith, nat_tests)))

-- the found object, by a case on whether it is the one that was added
within-adds : (test : Bool) (refs : List ((ℕ × ℕ) × ℕ)) (globals : ℕ → Option ℕ) (variables : ℕ → ℕ → Option ℕ) (found : List ℕ) (q i : ℕ) → (q == i) ≡ test →
    Reaches (at_pair refs) globals variables q → IsWithin refs globals variables found → (if test then true else has found i) ≡ true → Reaches (at_pair refs) globals variables i
within-adds true refs globals variables found q i same at_q within h = subst (Reaches (at_pair refs) globals variables) (grind (arith, nat_tests)) at_q
within-adds false refs globals variables found q i other at_q within h = within i h

pub StaysWithin-adds : (refs : List ((ℕ × ℕ) × ℕ)) (found : List ℕ) (o k q : ℕ) (after : List ℕ) → at_pair refs o k ≡ Some q → has found o ≡ true → Adds found q after →
    StaysWithin refs found after
StaysWithin-adds refs found o k q after is old adds globals variables within i h =
    within-adds (q == i) refs globals variables found q i refl (By_reference o k q (within o old) is) within (sym (adds i) ∙ h)

pub IsClosed-from_leads : (refs : List ((ℕ × ℕ) × ℕ)) (found : List ℕ) → list_all (leads found) refs ≡ true → IsClosed refs found
IsClosed-from_leads refs found all o k q old is =
    let passes : leads found ((o, k), q) ≡ true = All-contains (λ e. leads found e ≡ true) refs ((o, k), q) (AllPass-from_list_all (leads found) refs all) (Contains-from_at_pair refs o k q is) in
    grind (arith, nat_tests)

or_values : (values : Bool) {P : Type 0} → (values ≡ true) ↔ P → IsTrue false ⊎ P → values ≡ true
or_values values says (inl h) = absurd (cc)
or_values values says (inr p) = says.1 p

-- an object after a union, by what it is for it to be in the second part
pub or_iff : (after before values : Bool) {P : Type 0} → after ≡ (before || values) → (values ≡ true) ↔ P → IsTrue after ↔ (IsTrue before ⊎ P)
or_iff after true values is says = (λ h. inl refl, λ h. is)
or_iff after false values is says = (λ h. inr (says.0 (sym is ∙ h)), λ h. is ∙ or_values values says h)

-- what is found once the objects that globals hold are added, and then those that variables hold
abbrev AddsGlobals : (ℕ → Option ℕ) → List ℕ → List ℕ → Type 0
AddsGlobals globals before after = (o : ℕ) → IsTrue (has after o) ↔ (IsTrue (has before o) ⊎ ((g : ℕ) × (globals g ≡ Some o)))

abbrev AddsVariables : (ℕ → ℕ → Option ℕ) → List ℕ → List ℕ → Type 0
AddsVariables variables before after = (o : ℕ) → IsTrue (has after o) ↔ (IsTrue (has before o) ⊎ ((b : ℕ) × (v : ℕ) × (variables b v ≡ Some o)))

module _ (refs : List ((ℕ × ℕ) × ℕ)) (globals : ℕ → Option ℕ) (variables : ℕ → ℕ → Option ℕ) (none held all found : List ℕ) (empty : none ≡ []) (by_globals : AddsGlobals globals none held) (by_variables : AddsVariables variables held all) where
  not_in-none : (o : ℕ) → IsTrue (has none o) → ⊥
  not_in-none o h = let e : has none o ≡ false = ap (λ os. has os o) empty in absurd (cc)

  within-globals : IsWithin refs globals variables held
  within-globals o h = elim ((by_globals o).0 h) [ inl old ↦ absurd (not_in-none o old) | inr s ↦ By_global s.0 o s.1 ]

  within-variables : IsWithin refs globals variables all
  within-variables o h = elim ((by_variables o).0 h) [ inl old ↦ within-globals o old | inr s ↦ By_variable s.0 s.1 o s.2 ]

  found-reaches : Keeps all found → IsClosed refs found → (o : ℕ) → Reaches (at_pair refs) globals variables o → IsTrue (has found o)
  found-reaches kept closed _ (By_global g o e) = kept o ((by_variables o).1 (inl ((by_globals o).1 (inr (g, e)))))
  found-reaches kept closed _ (By_variable b v o e) = kept o ((by_variables o).1 (inr (b, v, e)))
  found-reaches kept closed _ (By_reference o k q h e) = closed o k q (found-reaches kept closed o h) e

  pub found-iff-reaches : Keeps all found → StaysWithin refs all found → IsClosed refs found → (o : ℕ) → IsTrue (has found o) ↔ Reaches (at_pair refs) globals variables o
  found-iff-reaches kept within closed o = (within globals variables within-variables o, found-reaches kept closed o)
