-- A seat that was split from an open one is fresh.
use Rattle.std.proofs.Common.{◌≡◌, List, [], ◌∷◌, map, length, refl, ap, ◌∙◌, arith}
use Rattle.code_steps.specs.declared.view.View.{View}
use Rattle.code_steps.specs.Views.{giver, newcomer}
use Rattle.code_run.specs.Runs.{opening_lists, IsOpen, IsFresh}

four_empty : {A B : Type 0} (xs : List A) → length xs ≡ 4 → map (λ (_ : A). let l : List B = [] in l) xs ≡ [] ∷ [] ∷ [] ∷ [] ∷ []
four_empty [] e = absurd (omega arith)
four_empty (a ∷ []) e = absurd (omega arith)
four_empty (a ∷ b ∷ []) e = absurd (omega arith)
four_empty (a ∷ b ∷ c ∷ []) e = absurd (omega arith)
four_empty (a ∷ b ∷ c ∷ d ∷ []) e = refl
four_empty (a ∷ b ∷ c ∷ d ∷ f ∷ xs) e = absurd (omega arith)

-- what a seat of four quiet lists has, however many parts it gave
pub record IsQuiet (v : View) : Type 0 where
  pub start : v.start ≡ 0
  pub seen : v.seen ≡ opening_lists
  pub shown : length v.shown ≡ 4

pub quiet_open : (v : View) → IsOpen v → length v.shown ≡ length v.seen → IsQuiet v
quiet_open v o same = record { start = o.start; seen = o.seen; shown = same ∙ ap length o.seen }

pub quiet_giver : (v w : View) → w ≡ giver v → IsQuiet v → IsQuiet w
quiet_giver v w is q = record { start = ap (λ (x : View). x.start) is ∙ q.start; seen = ap (λ (x : View). x.seen) is ∙ q.seen; shown = ap (λ (x : View). length x.shown) is ∙ q.shown }

pub fresh_newcomer : (v w : View) → w ≡ newcomer v → IsQuiet v → IsFresh w
fresh_newcomer v w is q = record {
  start = ap (λ (x : View). x.start) is ∙ q.start;
  parts = ap (λ (x : View). x.parts) is;
  seen = ap (λ (x : View). x.seen) is ∙ q.seen;
  own = ap (λ (x : View). x.own) is;
  shown = ap (λ (x : View). x.shown) is ∙ four_empty v.shown q.shown;
}
