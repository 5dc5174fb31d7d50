-- What the words show at the end, and lists that are read place by place.
use Rattle.std.proofs.Common.{◌≡◌, ◌≢◌, ℕ, zero, suc, ◌+◌, ◌<◌, List, [], ◌∷◌, length, get_or, set, sym, ◌∙◌, subst, false, arith, below_more, get_or-set_other, get_or-set_same}
use mathlib.Core.Option.{some, some-injective, some-ne-none}
use lib.ListN.{get_elem?}
use Rattle.atomic_table.specs.Table.{Final, Seen}
use Rattle.code_steps.specs.declared.view.View.{View}
use Rattle.code_steps.specs.Views.{IsWhole}
use Rattle.code_steps.specs.Seats.{ShowLast}
use Rattle.code_steps.specs.Rule.{Ruled}
use Rattle.code_steps.proofs.Whole.{is_whole, shows_last}

got : (xs : List ℕ) (i x : ℕ) → get_elem? xs i ≡ some x → get_or xs i 0 ≡ x
got [] i x e = absurd (some-ne-none x (sym e))
got (y ∷ xs) zero x e = some-injective y x e
got (y ∷ xs) (suc i) x e = got xs i x e

pub closes : (id : ℕ) (v : View) (words : List ℕ) (slots : List (Unit {0})) → v.parts ≡ 16 → v.holds ≡ false → Final (Seen Ruled id v) words slots → IsWhole v × ShowLast words v
closes id v words slots all free f = (is_whole f.0.words f.0.views id v f.1.0 f.1.1 all free, subst (λ ws. ShowLast ws v) f.2 (shows_last f.0.words f.0.views id v f.1.0 f.1.1 all free))

-- the words read so far, after one more
pub words_read : (xs room : List ℕ) (i x : ℕ) → i < length room → get_elem? xs i ≡ some x → ((k : ℕ) → k < i → get_or room k 0 ≡ get_or xs k 0) → (k : ℕ) → k < i + 1 → get_or (set room i x) k 0 ≡ get_or xs k 0
words_read xs room i x low is done = below_more _ _
    (λ k l. let ne : k ≢ i = omega arith in get_or-set_other room i k x 0 ne ∙ done k l)
    (get_or-set_same room i x 0 low ∙ sym (got xs i x is))
