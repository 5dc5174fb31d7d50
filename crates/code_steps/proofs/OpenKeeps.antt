-- The opening meets the rule.
use Rattle.std.proofs.Common.{◌≡◌, ℕ, zero, suc, ◌+◌, ◌*◌, ◌%◌, ◌≤◌, ◌<◌, List, [], ◌∷◌, ◌++◌, map, length, get_or, take, append_assoc, refl, sym, ap, ◌∙◌, subst, arith, true≢false}
use Rattle.std.proofs.lemmas.List.{take_more}
use mathlib.Core.Option.{some, some-injective, some-ne-none}
use lib.ListN.{get_elem?}
use Rattle.code_steps.specs.declared.view.View.{View}
use Rattle.code_steps.specs.declared.view.Store.{Store}
use Rattle.code_steps.specs.Lists.{Pair, total, Each, list_at, all_stores}
use Rattle.code_steps.specs.Views.{words_of, pairs_of, opening_view, first_view, spent}
use Rattle.code_steps.specs.Seats.{HasPlace}
use Rattle.code_steps.specs.Rule.{sequence_word, code_word, entry_word, holds_at, Shows, Knows, Kept}
use Rattle.code_steps.proofs.Prefixes.{starts_self, map_long}
use Rattle.code_steps.proofs.SplitKeeps.{none_shown}

pub words_long : (start : ℕ) (pairs : List Pair) → length (words_of start pairs) ≡ 3 * length pairs
words_long start [] = refl
words_long start (p ∷ ps) = let r = words_long start ps in omega arith

-- one entry more
pub words_snoc : (start : ℕ) (pairs : List Pair) (p : Pair) → words_of start (pairs ++ p ∷ []) ≡ words_of start pairs ++ start ∷ p.0 ∷ p.1 ∷ []
words_snoc start [] p = refl
words_snoc start (q ∷ qs) p = ap (λ l. start ∷ q.0 ∷ q.1 ∷ l) (words_snoc start qs p)

pub pairs_back : (start : ℕ) (pairs : List Pair) → pairs_of (words_of start pairs) ≡ pairs
pairs_back start [] = refl
pairs_back start (p ∷ ps) = ap (λ l. p ∷ l) (pairs_back start ps)

-- the words of entry i
at_words : (start : ℕ) (pairs : List Pair) (i : ℕ) → i < length pairs
    → (sequence_word (words_of start pairs) i ≡ start) × (code_word (words_of start pairs) i ≡ (get_or pairs i (0, 0)).0) × (entry_word (words_of start pairs) i ≡ (get_or pairs i (0, 0)).1)
at_words start [] i low = absurd (omega arith)
at_words start (p ∷ ps) zero low = (refl, refl, refl)
at_words start (p ∷ ps) (suc i) low =
    let r = at_words start ps i (omega arith) in
    let words : List ℕ = start ∷ p.0 ∷ p.1 ∷ words_of start ps in
    let a : 3 * suc i ≡ suc (suc (suc (3 * i))) = omega arith in
    let b : 3 * suc i + 1 ≡ suc (suc (suc (3 * i + 1))) = omega arith in
    let c : 3 * suc i + 2 ≡ suc (suc (suc (3 * i + 2))) = omega arith in
    (ap (λ (n : ℕ). get_or words n 0) a ∙ r.0, ap (λ (n : ℕ). get_or words n 0) b ∙ r.1, ap (λ (n : ℕ). get_or words n 0) c ∙ r.2)

abbrev one_each : List Pair → List (List Pair)
one_each pairs = map (λ p. p ∷ []) pairs

list_one : (pairs : List Pair) (i : ℕ) → i < length pairs → list_at (one_each pairs) i ≡ get_or pairs i (0, 0) ∷ []
list_one [] i low = absurd (omega arith)
list_one (p ∷ ps) zero low = refl
list_one (p ∷ ps) (suc i) low = list_one ps i (omega arith)

no_store : (h : Store → ℕ) (at start : ℕ) (pairs : List Pair) → total h (all_stores at start (one_each pairs)) ≡ 0
no_store h at start [] = refl
no_store h at start (p ∷ ps) = no_store h (suc at) start ps

pub opens : (start : ℕ) (pairs : List Pair) → start % 2 ≡ 0 → 1 ≤ length pairs → Kept (words_of start pairs) (opening_view start pairs ∷ [])
opens start pairs even some_pair = record {
  start = start;
  lists = one_each pairs;
  even = even;
  size = let a = words_long start pairs in let b = long in omega arith;
  shows = λ i low. shows i (let b = long in omega arith);
  parts = refl;
  stores = λ h. sym (no_store h 0 start pairs);
  idle = one (λ u. u.parts ≡ 0 → u ≡ spent) (λ none_left. absurd (omega arith));
  knows = one (λ u. 0 < u.parts → Knows start (one_each pairs) (words_of start pairs) u) (λ _. first);
}
  where
    long : length (one_each pairs) ≡ length pairs
    long = map_long (λ (p : Pair). p ∷ []) pairs

    shows : (i : ℕ) → i < length pairs → Shows start (list_at (one_each pairs) i) (words_of start pairs) i (total (holds_at i) (opening_view start pairs ∷ []))
    shows i low = let w = at_words start pairs i low in record {
      last = get_or pairs i (0, 0);
      seq = start;
      ends = record { before = []; is = list_one pairs i low; place = omega arith };
      word = let a = w.0 in omega arith;
      one = omega arith;
      pair = λ _. (w.1, w.2);
    }

    first : Knows start (one_each pairs) (words_of start pairs) (opening_view start pairs)
    first = let w = at_words start pairs 0 (omega arith) in record {
      begins = refl;
      sizes = (refl, map_long _ pairs ∙ sym (map_long (λ (p : Pair). p ∷ []) pairs));
      seen = λ i. starts_self (list_at (one_each pairs) i);
      some = λ i low. let a = ap length (list_one pairs i (let b = map_long (λ (p : Pair). p ∷ []) pairs in omega arith)) in omega arith;
      common = λ i. (list_at (one_each pairs) i, refl);
      own = tt;
      shown = λ i. subst (Each (λ n. n ≤ sequence_word (words_of start pairs) i)) (sym (none_shown pairs i)) tt;
      earlier = (map_long _ pairs ∙ sym (map_long (λ (p : Pair). p ∷ []) pairs), λ i. subst (Each (λ n. n ≤ sequence_word (words_of start pairs) i)) (sym (none_shown pairs i)) tt);
      place = let a = map_long (λ (p : Pair). p ∷ []) pairs in omega arith;
      low = let a = w.0 in omega arith;
      read = λ _ _. (w.1, w.2);
      held = λ never. absurd (true≢false (sym never));
    }

    one : (P : View → Type 0) → P (opening_view start pairs) → (j : ℕ) (v : View) → get_elem? (opening_view start pairs ∷ []) j ≡ some v → P v
    one P first zero v e = subst P (some-injective _ _ e) first
    one P first (suc j) v e = absurd (some-ne-none v (sym e))

pub first_opens : (start : ℕ) (pairs : List Pair) → 1 ≤ length pairs → first_view (words_of start pairs) ≡ opening_view start pairs
first_opens start [] some_pair = absurd (omega arith)
first_opens start (p ∷ ps) some_pair = ap (opening_view start) (pairs_back start (p ∷ ps))

pub opening_place : (start : ℕ) (pairs : List Pair) → start % 2 ≡ 0 → 1 ≤ length pairs → HasPlace (length (words_of start pairs)) (opening_view start pairs)
opening_place start pairs even some_pair =
    let a = map_long (λ (p : Pair). p ∷ []) pairs in record {
      some = omega arith;
      sized = let b = words_long start pairs in omega arith;
      shown = map_long _ pairs ∙ sym a;
      earlier = map_long _ pairs ∙ sym a;
      even = even;
      at = omega arith;
    }

-- the words after the three of one more entry
pub words_step : (start : ℕ) (pairs : List Pair) (i : ℕ) (a b c d : List ℕ) → i < length pairs → a ≡ words_of start (take i pairs) → b ≡ a ++ start ∷ [] → c ≡ b ++ (get_or pairs i (0, 0)).0 ∷ [] → d ≡ c ++ (get_or pairs i (0, 0)).1 ∷ []
    → d ≡ words_of start (take (i + 1) pairs)
words_step start pairs i a b c d low is_a is_b is_c is_d =
    let p : Pair = get_or pairs i (0, 0) in
    let all : d ≡ ((a ++ start ∷ []) ++ p.0 ∷ []) ++ p.1 ∷ [] = is_d ∙ ap (λ l. l ++ p.1 ∷ []) (is_c ∙ ap (λ l. l ++ p.0 ∷ []) is_b) in
    let flat : ((a ++ start ∷ []) ++ p.0 ∷ []) ++ p.1 ∷ [] ≡ a ++ start ∷ p.0 ∷ p.1 ∷ [] = append_assoc (a ++ start ∷ []) (p.0 ∷ []) (p.1 ∷ []) ∙ append_assoc a (start ∷ []) (p.0 ∷ p.1 ∷ []) in
    all ∙ (flat ∙ (ap (λ l. l ++ start ∷ p.0 ∷ p.1 ∷ []) is_a ∙ (sym (words_snoc start (take i pairs) p) ∙ ap (words_of start) (sym (take_more pairs i (0, 0) low)))))
