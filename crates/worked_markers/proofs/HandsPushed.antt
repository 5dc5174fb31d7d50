-- Hands into which an object came, and the list that it was put on.
use Rattle.std.proofs.Common.{◌≡◌, ℕ, List, [], ◌∷◌, ◌++◌, sym, subst, arith}
use Rattle.entry_base.specs.Lists.{AreIn}
use Rattle.entry_base.proofs.Sums.{count_append}

pub AreIn-push : (q : ℕ) (objects list hands left : List ℕ) → AreIn objects hands → list ≡ objects ++ q ∷ [] → left ≡ q ∷ hands → AreIn list left
AreIn-push q objects list hands left are pushed came =
    subst (λ (xs : List ℕ). AreIn xs left) (sym pushed) (subst (AreIn (objects ++ q ∷ [])) (sym came) all)
  where
    all : AreIn (objects ++ q ∷ []) (q ∷ hands)
    all n = let a = are n in let b = count_append n objects (q ∷ []) in omega (arith, a, b)
