-- Beginnings of lists, and the lists of each entry.
use Rattle.std.proofs.Common.{◌≡◌, ◌≢◌, ℕ, zero, suc, ◌≤◌, ◌<◌, ◌⊎◌, inl, inr, ◌==◌, nat_lt, Bool, true, false, if◌then◌else◌, List, [], ◌∷◌, ◌++◌, map, length, get_or, set, refl, sym, ap, ◌∙◌, subst, arith, append_assoc, append-nil, length-append, length-set, get_or-set_same, get_or-set_other, set-set}
use Rattle.std.proofs.lemmas.Bool.Decides.{nat_tests}
use Rattle.std.proofs.lemmas.List.{get_or_append_left}
use Rattle.code_steps.specs.Lists.{StartsWith, Each, list_at, grown_at, longer, shorter, of_both}

pub same_or_not : (j i : ℕ) → (j ≡ i) ⊎ (j ≢ i)
same_or_not j i = go (j == i) refl
  where
    go : (b : Bool) → (j == i) ≡ b → (j ≡ i) ⊎ (j ≢ i)
    go true e = inl (grind (arith, nat_tests))
    go false e = inr (grind (arith, nat_tests))

-- what holds at i and at every other place
pub at_each : (P : ℕ → Type 0) (i : ℕ) → P i → ((j : ℕ) → j ≢ i → P j) → (j : ℕ) → P j
at_each P i here rest j = go (same_or_not j i)
  where
    go : (j ≡ i) ⊎ (j ≢ i) → P j
    go (inl e) = subst P (sym e) here
    go (inr ne) = rest j ne

pub map_long : {A B : Type 0} (f : A → B) (xs : List A) → length (map f xs) ≡ length xs
map_long f [] = refl
map_long f (x ∷ xs) = ap suc (map_long f xs)

module _ {A : Type 0} where
  pub each_map : (P Q : A → Type 0) (xs : List A) → ((x : A) → P x → Q x) → Each P xs → Each Q xs
  each_map P Q [] f h = tt
  each_map P Q (x ∷ xs) f h = (f x h.0, each_map P Q xs f h.1)

  pub each_append : (P : A → Type 0) (xs ys : List A) → Each P xs → Each P ys → Each P (xs ++ ys)
  each_append P [] ys h g = g
  each_append P (x ∷ xs) ys h g = (h.0, each_append P xs ys h.1 g)

  pub starts_self : (xs : List A) → StartsWith xs xs
  starts_self xs = ([], sym (append-nil xs))

  pub starts_trans : (xs ys zs : List A) → StartsWith xs ys → StartsWith ys zs → StartsWith xs zs
  starts_trans xs ys zs (r, is) (q, was) = (q ++ r, is ∙ (ap (λ l. l ++ r) was ∙ append_assoc zs q r))

  pub starts_long : (xs ys : List A) → StartsWith xs ys → length ys ≤ length xs
  starts_long xs ys (r, is) = let a = ap length is in let b = length-append ys r in omega arith

  pub starts_read : (xs ys : List A) (k : ℕ) (d : A) → StartsWith xs ys → k < length ys → get_or xs k d ≡ get_or ys k d
  starts_read xs ys k d (r, is) low = ap (λ l. get_or l k d) is ∙ get_or_append_left ys r d k low

  -- of two beginnings of one list the longer begins with the shorter
  pub two_starts : (xs ys rs qs : List A) → xs ++ rs ≡ ys ++ qs → length xs ≤ length ys → StartsWith ys xs
  two_starts [] ys rs qs e le = (ys, refl)
  two_starts (x ∷ xs) [] rs qs e le = absurd (omega arith)
  two_starts (x ∷ xs) (y ∷ ys) rs qs e le =
      let tails : xs ++ rs ≡ ys ++ qs = cc in
      let heads : x ≡ y = cc in
      let r = two_starts xs ys rs qs tails (omega arith) in
      (r.0, (λ i. sym heads i ∷ r.1 i))

  pub one_of : (P : List A → Type 0) (b : Bool) (xs ys : List A) → P xs → P ys → P (if b then xs else ys)
  one_of P true xs ys p q = p
  one_of P false xs ys p q = q

  pub longer_starts : (l xs ys : List A) → StartsWith l xs → StartsWith l ys
      → StartsWith (longer xs ys) (shorter xs ys) × StartsWith (longer xs ys) xs × StartsWith (longer xs ys) ys
  longer_starts l xs ys (r, is) (q, was) = go (nat_lt (length xs) (length ys)) refl
    where
      go : (b : Bool) → nat_lt (length xs) (length ys) ≡ b
          → StartsWith (if b then ys else xs) (if b then xs else ys) × StartsWith (if b then ys else xs) xs × StartsWith (if b then ys else xs) ys
      go true e = let le : length xs ≤ length ys = grind (arith, nat_tests) in let s = two_starts xs ys r q (sym is ∙ was) le in (s, s, starts_self ys)
      go false e = let le : length ys ≤ length xs = grind (arith, nat_tests) in let s = two_starts ys xs q r (sym was ∙ is) le in (s, starts_self xs, s)

  -- what begins with the shorter one begins with both
  pub from_shorter : (xs ys : List A) → StartsWith (longer xs ys) (shorter xs ys) → StartsWith (longer xs ys) xs × StartsWith (longer xs ys) ys
  from_shorter xs ys s = go (nat_lt (length xs) (length ys)) s
    where
      go : (b : Bool) → StartsWith (if b then ys else xs) (if b then xs else ys) → StartsWith (if b then ys else xs) xs × StartsWith (if b then ys else xs) ys
      go true s = (s, starts_self ys)
      go false s = (starts_self xs, s)

  pub longer_long : (xs ys : List A) → (length xs ≤ length (longer xs ys)) × (length ys ≤ length (longer xs ys))
  longer_long xs ys = go (nat_lt (length xs) (length ys)) refl
    where
      go : (b : Bool) → nat_lt (length xs) (length ys) ≡ b → (length xs ≤ length (if b then ys else xs)) × (length ys ≤ length (if b then ys else xs))
      go true e = let le : length xs ≤ length ys = grind (arith, nat_tests) in (omega arith, omega arith)
      go false e = let le : length ys ≤ length xs = grind (arith, nat_tests) in (omega arith, omega arith)

  pub of_both_long : (f : List A → List A → List A) (xss yss : List (List A)) → length xss ≡ length yss → length (of_both f xss yss) ≡ length xss
  of_both_long f [] yss e = refl
  of_both_long f (xs ∷ xss) [] e = absurd (omega arith)
  of_both_long f (xs ∷ xss) (ys ∷ yss) e = let r = of_both_long f xss yss (omega arith) in omega arith

  pub of_both_at : (f : List A → List A → List A) (xss yss : List (List A)) (i : ℕ) → f [] [] ≡ [] → length xss ≡ length yss → list_at (of_both f xss yss) i ≡ f (list_at xss i) (list_at yss i)
  of_both_at f [] [] i none e = sym none
  of_both_at f [] (ys ∷ yss) i none e = absurd (omega arith)
  of_both_at f (xs ∷ xss) [] i none e = absurd (omega arith)
  of_both_at f (xs ∷ xss) (ys ∷ yss) zero none e = refl
  of_both_at f (xs ∷ xss) (ys ∷ yss) (suc i) none e = of_both_at f xss yss i none (omega arith)

  pub grown_here : (ls : List (List A)) (i : ℕ) (more : List A) → i < length ls → list_at (grown_at ls i more) i ≡ list_at ls i ++ more
  grown_here ls i more low = get_or-set_same ls i (list_at ls i ++ more) [] low

  pub grown_else : (ls : List (List A)) (i j : ℕ) (more : List A) → j ≢ i → list_at (grown_at ls i more) j ≡ list_at ls j
  grown_else ls i j more ne = get_or-set_other ls i j (list_at ls i ++ more) [] ne

  pub grown_long : (ls : List (List A)) (i : ℕ) (more : List A) → length (grown_at ls i more) ≡ length ls
  grown_long ls i more = length-set ls i (list_at ls i ++ more)

  pub grown_starts : (ls : List (List A)) (i j : ℕ) (more : List A) → i < length ls → StartsWith (list_at (grown_at ls i more) j) (list_at ls j)
  grown_starts ls i j more low = at_each (λ n. StartsWith (list_at (grown_at ls i more) n) (list_at ls n)) i (more, grown_here ls i more low) (λ n ne. subst (λ l. StartsWith l (list_at ls n)) (sym (grown_else ls i n more ne)) (starts_self (list_at ls n))) j

  pub grown_twice : (ls : List (List A)) (i : ℕ) (more again : List A) → i < length ls → grown_at (grown_at ls i more) i again ≡ grown_at ls i (more ++ again)
  grown_twice ls i more again low =
      ap (λ l. set (grown_at ls i more) i (l ++ again)) (grown_here ls i more low)
      ∙ (set-set ls i (list_at ls i ++ more) ((list_at ls i ++ more) ++ again) ∙ ap (set ls i) (append_assoc (list_at ls i) more again))
