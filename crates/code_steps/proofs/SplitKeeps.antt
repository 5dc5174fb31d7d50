-- A split keeps the rule.
use Rattle.std.proofs.Common.{◌≡◌, ℕ, zero, suc, ◌+◌, ◌≤◌, ◌<◌, false, List, [], ◌∷◌, ◌++◌, map, length, set, refl, sym, ap, ◌∙◌, subst, ⊎_elim, arith, append-nil}
use Rattle.atomic_table.specs.Table.{Splits}
use Rattle.atomic_table.proofs.Lists.{at_snoc}
use Rattle.code_steps.specs.declared.view.View.{View}
use Rattle.code_steps.specs.Lists.{total, Each, list_at, in_turn}
use Rattle.code_steps.specs.Views.{giver, newcomer, spent, known_at}
use Rattle.code_steps.specs.Seats.{HasPlace}
use Rattle.code_steps.specs.Rule.{sequence_word, holds_at, Knows, Ruled}
use Rattle.code_steps.proofs.Prefixes.{map_long, of_both_long, of_both_at}
use Rattle.code_steps.proofs.Totals.{total_set, total_snoc}
use Rattle.code_steps.proofs.Frame.{shows_same}
use Rattle.code_steps.proofs.Steps.{views_set, same_words, holds_free}
use Rattle.code_steps.proofs.LoadKeeps.{known_below}

-- nothing was shown
pub none_shown : {A B : Type 0} (xs : List A) (j : ℕ) → list_at (map (λ (_ : A). let l : List B = [] in l) xs) j ≡ []
none_shown [] j = refl
none_shown (x ∷ xs) zero = refl
none_shown (x ∷ xs) (suc j) = none_shown xs j

pub splits : (id : ℕ) (v : View) → 2 ≤ v.parts → v.holds ≡ false → Splits {S = Unit {0}} {V = View} Ruled id v (giver v) (newcomer v)
splits id v two free s k at = record {
  start = k.start;
  lists = k.lists;
  even = k.even;
  size = k.size;
  shows = λ i low. shows_same k.start (list_at k.lists i) s.words s.words i (total (holds_at i) s.views) (total (holds_at i) (set s.views id (giver v) ++ newcomer v ∷ [])) (same_words s.words i)
      (let a = cut (holds_at i) in let b = holds_free v i free in let c = holds_free (giver v) i free in let d = holds_free (newcomer v) i free in omega arith) (k.shows i low);
  parts = let a = cut (λ u. u.parts) in let b = k.parts in omega arith;
  stores = λ h. let a = cut (λ u. total h u.own) in let b = k.stores h in omega arith;
  idle = λ j u e none_left. ⊎_elim
      (λ e'. views_set (λ j u. u.parts ≡ 0 → u ≡ spent) s.views id (giver v) (λ i x ne l. k.idle i x l) (λ none_left. absurd (omega arith)) j u e' none_left)
      (λ (is : newcomer v ≡ u). let a : 1 ≡ u.parts = ap (λ (x : View). x.parts) is in absurd (omega arith))
      (at_snoc (set s.views id (giver v)) (newcomer v) u j e);
  knows = λ j u e some_part. ⊎_elim
      (λ e'. views_set (λ j u. 0 < u.parts → Knows k.start k.lists s.words u) s.views id (giver v) (λ i x ne l. k.knows i x l) (λ _. left) j u e' some_part)
      (λ is. subst (Knows k.start k.lists s.words) is right)
      (at_snoc (set s.views id (giver v)) (newcomer v) u j e);
}
  where
    kn : Knows k.start k.lists s.words v
    kn = k.knows id v at (omega arith)

    same : length v.earlier ≡ length v.shown
    same = kn.earlier.0 ∙ sym kn.sizes.1

    cut : (f : View → ℕ) → total f (set s.views id (giver v) ++ newcomer v ∷ []) + f v ≡ total f s.views + f (giver v) + f (newcomer v)
    cut f = let a = total_snoc f (set s.views id (giver v)) (newcomer v) in let b = total_set f s.views id v (giver v) at in omega arith

    left : Knows k.start k.lists s.words (giver v)
    left = record { begins = kn.begins; sizes = kn.sizes; seen = kn.seen; some = kn.some; common = kn.common; own = kn.own; shown = kn.shown; earlier = kn.earlier; place = kn.place; low = kn.low; read = kn.read; held = kn.held }

    right : Knows k.start k.lists s.words (newcomer v)
    right = record {
      begins = kn.begins;
      sizes = (kn.sizes.0, map_long _ v.shown ∙ kn.sizes.1);
      seen = kn.seen;
      some = kn.some;
      common = kn.common;
      own = tt;
      shown = λ i. subst (Each (λ n. n ≤ sequence_word s.words i)) (sym (none_shown v.shown i)) tt;
      earlier = (
        of_both_long in_turn v.earlier v.shown same ∙ kn.earlier.0,
        λ i. subst (Each (λ n. n ≤ sequence_word s.words i)) (sym (of_both_at in_turn v.earlier v.shown i refl same)) (known_below k.start k.lists s.words v kn i),
      );
      place = kn.place;
      low = kn.low;
      read = kn.read;
      held = kn.held;
    }

pub giver_place : (words : ℕ) (v : View) → HasPlace words v → 2 ≤ v.parts → HasPlace words (giver v)
giver_place words v p two = record { some = omega arith; sized = p.sized; shown = p.shown; earlier = p.earlier; even = p.even; at = p.at }

pub newcomer_place : (words : ℕ) (v : View) → HasPlace words v → HasPlace words (newcomer v)
newcomer_place words v p = record { some = omega arith; sized = p.sized; shown = map_long _ v.shown ∙ p.shown; earlier = of_both_long in_turn v.earlier v.shown (p.earlier ∙ sym p.shown) ∙ p.earlier; even = p.even; at = p.at }

-- the new seat knows what the giver knew
pub newcomer_known : (words : ℕ) (v : View) (i : ℕ) → HasPlace words v → known_at (newcomer v) i ≡ known_at v i
newcomer_known words v i p =
    ap (λ (l : List ℕ). list_at (newcomer v).earlier i ++ l) (none_shown v.shown i)
    ∙ (append-nil (list_at (newcomer v).earlier i) ∙ of_both_at in_turn v.earlier v.shown i refl (p.earlier ∙ sym p.shown))
