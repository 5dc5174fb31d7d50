-- A join keeps the rule.
use Rattle.std.proofs.Common.{◌≡◌, ℕ, ◌+◌, ◌≤◌, ◌<◌, false, List, ◌++◌, length, set, refl, sym, ap, ◌∙◌, subst, arith}
use mathlib.Core.Option.{some}
use lib.ListN.{get_elem?}
use Rattle.atomic_table.specs.Table.{Joins}
use Rattle.atomic_table.proofs.Lists.{set_else}
use Rattle.code_steps.specs.declared.view.View.{View}
use Rattle.code_steps.specs.Lists.{Pair, total, StartsWith, Each, list_at, longer, shorter, in_turn, IsSeenStore}
use Rattle.code_steps.specs.Views.{both, spent, known_at}
use Rattle.code_steps.specs.Seats.{HasPlace}
use Rattle.code_steps.specs.Rule.{sequence_word, holds_at, Knows, Ruled}
use Rattle.code_steps.proofs.Totals.{total_set, total_append}
use Rattle.code_steps.proofs.Prefixes.{starts_self, each_append, longer_starts, from_shorter, longer_long, one_of, of_both_long, of_both_at}
use Rattle.code_steps.proofs.Frame.{shows_same, store_stays}
use Rattle.code_steps.proofs.Steps.{views_set, same_words, holds_free}

-- the lists of both
pub seen_both : (v u : View) → length v.seen ≡ length u.seen → (i : ℕ) → list_at (both v u).seen i ≡ longer (list_at v.seen i) (list_at u.seen i)
seen_both v u same i = of_both_at longer v.seen u.seen i refl same

common_both : (v u : View) → length v.seen ≡ length u.seen → (i : ℕ) → list_at (both v u).common i ≡ shorter (list_at v.seen i) (list_at u.seen i)
common_both v u same i = of_both_at shorter v.seen u.seen i refl same

shown_both : (v u : View) → length v.shown ≡ length u.shown → (i : ℕ) → list_at (both v u).shown i ≡ list_at v.shown i ++ list_at u.shown i
shown_both v u same i = of_both_at in_turn v.shown u.shown i refl same

-- two views of one table know together what each knows
knows_both : (opening : ℕ) (lists : List (List Pair)) (words : List ℕ) (v u : View) → Knows opening lists words v → Knows opening lists words u → Knows opening lists words (both v u)
knows_both opening lists words v u kn ku = record {
  begins = kn.begins;
  sizes = (of_both_long longer v.seen u.seen same ∙ kn.sizes.0, of_both_long in_turn v.shown u.shown same_shown ∙ kn.sizes.1);
  seen = λ i. subst (StartsWith (list_at lists i)) (sym (seen_both v u same i)) (one_of (StartsWith (list_at lists i)) _ (list_at u.seen i) (list_at v.seen i) (ku.seen i) (kn.seen i));
  some = λ i low. let a = kn.some i low in let b = up i in omega arith;
  common = λ i. let t = (longer_starts (list_at lists i) (list_at v.seen i) (list_at u.seen i) (kn.seen i) (ku.seen i)).0 in
      subst (λ (l : List Pair). StartsWith l (list_at (both v u).common i)) (sym (seen_both v u same i)) (subst (StartsWith (longer (list_at v.seen i) (list_at u.seen i))) (sym (common_both v u same i)) t);
  own = each_append (IsSeenStore opening lists (both v u).seen) v.own u.own
      (store_stays opening lists lists v.seen (both v u).seen (λ j. starts_self (list_at lists j)) kn.seen up v.own kn.own)
      (store_stays opening lists lists u.seen (both v u).seen (λ j. starts_self (list_at lists j)) ku.seen up_other u.own ku.own);
  shown = λ i. subst (Each (λ n. n ≤ sequence_word words i)) (sym (shown_both v u same_shown i)) (each_append (λ n. n ≤ sequence_word words i) (list_at v.shown i) (list_at u.shown i) (kn.shown i) (ku.shown i));
  earlier = (
    of_both_long in_turn v.earlier u.earlier same_earlier ∙ kn.earlier.0,
    λ i. subst (Each (λ n. n ≤ sequence_word words i)) (sym (of_both_at in_turn v.earlier u.earlier i refl same_earlier)) (each_append (λ n. n ≤ sequence_word words i) (list_at v.earlier i) (list_at u.earlier i) (kn.earlier.1 i) (ku.earlier.1 i)),
  );
  place = kn.place;
  low = kn.low;
  read = kn.read;
  held = kn.held;
}
  where
    same : length v.seen ≡ length u.seen
    same = kn.sizes.0 ∙ sym ku.sizes.0

    same_shown : length v.shown ≡ length u.shown
    same_shown = kn.sizes.1 ∙ sym ku.sizes.1

    same_earlier : length v.earlier ≡ length u.earlier
    same_earlier = kn.earlier.0 ∙ sym ku.earlier.0

    up : (j : ℕ) → length (list_at v.seen j) ≤ length (list_at (both v u).seen j)
    up j = let a = (longer_long (list_at v.seen j) (list_at u.seen j)).0 in let b = ap length (seen_both v u same j) in omega arith

    up_other : (j : ℕ) → length (list_at u.seen j) ≤ length (list_at (both v u).seen j)
    up_other j = let a = (longer_long (list_at v.seen j) (list_at u.seen j)).1 in let b = ap length (seen_both v u same j) in omega arith

pub joins : (id : ℕ) (v : View) (other : ℕ) (u : View) → 0 < v.parts → v.holds ≡ false → 0 < u.parts → u.holds ≡ false → Joins {S = Unit {0}} {V = View} Ruled id v other u (both v u) spent
joins id v other u alive free alive_too free_too s k at apart there = record {
  start = k.start;
  lists = k.lists;
  even = k.even;
  size = k.size;
  shows = λ i low. shows_same k.start (list_at k.lists i) s.words s.words i (total (holds_at i) s.views) (total (holds_at i) (set (set s.views id (both v u)) other spent)) (same_words s.words i)
      (let a = put (holds_at i) in let b = holds_free v i free in let c = holds_free (both v u) i free in let d = holds_free u i free_too in omega arith) (k.shows i low);
  parts = let a = put (λ x. x.parts) in let b = k.parts in omega arith;
  stores = λ h. let a = put (λ x. total h x.own) in let b = k.stores h in let c = total_append h v.own u.own in omega arith;
  idle = views_set (λ j x. x.parts ≡ 0 → x ≡ spent) (set s.views id (both v u)) other spent
      (λ j x _ e. views_set (λ j x. x.parts ≡ 0 → x ≡ spent) s.views id (both v u) (λ i y _ l. k.idle i y l) (λ none_left. absurd (omega arith)) j x e)
      (λ _. refl);
  knows = views_set (λ j x. 0 < x.parts → Knows k.start k.lists s.words x) (set s.views id (both v u)) other spent
      (λ j x _ e. views_set (λ j x. 0 < x.parts → Knows k.start k.lists s.words x) s.views id (both v u) (λ i y _ l. k.knows i y l) (λ _. knows_both k.start k.lists s.words v u (k.knows id v at alive) (k.knows other u there_was alive_too)) j x e)
      (λ some_part. absurd (omega arith));
}
  where
    there_was : get_elem? s.views other ≡ some u
    there_was = sym (set_else s.views id other (both v u) apart) ∙ there

    put : (f : View → ℕ) → total f (set (set s.views id (both v u)) other spent) + f u + f v ≡ total f s.views + f (both v u) + f spent
    put f = let a = total_set f (set s.views id (both v u)) other u spent there in let b = total_set f s.views id v (both v u) at in omega arith

pub both_place : (words : ℕ) (v u : View) → HasPlace words v → HasPlace words u → HasPlace words (both v u)
both_place words v u p q =
    let same : length v.seen ≡ length u.seen = let a = p.sized in let b = q.sized in omega arith in
    let same_shown : length v.shown ≡ length u.shown = p.shown ∙ (same ∙ sym q.shown) in
    let a = of_both_long longer v.seen u.seen same in
    let b = of_both_long in_turn v.shown u.shown same_shown in record {
      some = let c = p.some in omega arith;
      sized = let c = p.sized in omega arith;
      shown = b ∙ (p.shown ∙ sym a);
      earlier = of_both_long in_turn v.earlier u.earlier (p.earlier ∙ (same ∙ sym q.earlier)) ∙ (p.earlier ∙ sym a);
      even = p.even;
      at = let c = p.at in omega arith;
    }

-- the joined lists begin with those of each
pub begins_both : (v u : View) → length v.seen ≡ length u.seen → ((i : ℕ) → StartsWith (list_at (both v u).seen i) (list_at (both v u).common i))
    → (i : ℕ) → StartsWith (list_at (both v u).seen i) (list_at v.seen i) × StartsWith (list_at (both v u).seen i) (list_at u.seen i)
begins_both v u same common i =
    let l = seen_both v u same i in
    let t : StartsWith (longer (list_at v.seen i) (list_at u.seen i)) (shorter (list_at v.seen i) (list_at u.seen i)) = subst (StartsWith (longer (list_at v.seen i) (list_at u.seen i))) (common_both v u same i) (subst (λ (l : List Pair). StartsWith l (list_at (both v u).common i)) l (common i)) in
    let r = from_shorter (list_at v.seen i) (list_at u.seen i) t in
    (subst (λ (l : List Pair). StartsWith l (list_at v.seen i)) (sym l) r.0, subst (λ (l : List Pair). StartsWith l (list_at u.seen i)) (sym l) r.1)

-- the joined seat knows what each of the two knew
pub both_known : (words : ℕ) (v u : View) (i : ℕ) (weight : ℕ → ℕ) → HasPlace words v → HasPlace words u → total weight (known_at (both v u) i) ≡ total weight (known_at v i) + total weight (known_at u i)
both_known words v u i weight p q =
    let same : length v.seen ≡ length u.seen = let a = p.sized in let b = q.sized in omega arith in
    let is_earlier : total weight (list_at (both v u).earlier i) ≡ total weight (list_at v.earlier i ++ list_at u.earlier i) = ap (total weight) (of_both_at in_turn v.earlier u.earlier i refl (p.earlier ∙ (same ∙ sym q.earlier))) in
    let is_shown : total weight (list_at (both v u).shown i) ≡ total weight (list_at v.shown i ++ list_at u.shown i) = ap (total weight) (shown_both v u (p.shown ∙ (same ∙ sym q.shown)) i) in
    let a = total_append weight (list_at v.earlier i) (list_at u.earlier i) in
    let b = total_append weight (list_at v.shown i) (list_at u.shown i) in
    let c = total_append weight (list_at (both v u).earlier i) (list_at (both v u).shown i) in
    let d = total_append weight (list_at v.earlier i) (list_at v.shown i) in
    let e = total_append weight (list_at u.earlier i) (list_at u.shown i) in
    omega arith
