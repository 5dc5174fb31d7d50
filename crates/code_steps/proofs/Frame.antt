-- What a step at one entry leaves to all other views.
use Rattle.std.proofs.Common.{◌≡◌, ◌≢◌, ℕ, ◌%◌, ◌≤◌, ◌⊎◌, inl, inr, true, List, length, sym, ap, ◌∙◌, subst, arith}
use Rattle.code_steps.specs.declared.view.View.{View}
use Rattle.code_steps.specs.Lists.{Pair, StartsWith, Each, list_at, IsSeenStore}
use Rattle.code_steps.specs.Rule.{sequence_word, code_word, entry_word, HasNumbers, Knows, Shows}
use Rattle.code_steps.proofs.Prefixes.{same_or_not, at_each, each_map, starts_trans, starts_long, starts_read}

pub record SameWords (was now : List ℕ) (i : ℕ) : Type 0 where
  pub sequence : sequence_word now i ≡ sequence_word was i
  pub code : code_word now i ≡ code_word was i
  pub entry : entry_word now i ≡ entry_word was i

-- a change of the words at entry i, in which the lists grew at their ends
pub record Changes (lists longer : List (List Pair)) (was now : List ℕ) (i : ℕ) : Type 0 where
  pub count : length longer ≡ length lists
  pub grows : (j : ℕ) → StartsWith (list_at longer j) (list_at lists j)
  pub elsewhere : (j : ℕ) → j ≢ i → SameWords was now j
  pub up : sequence_word was i ≤ sequence_word now i
  pub still : sequence_word now i ≡ sequence_word was i → sequence_word was i % 2 ≡ 0 → (code_word now i ≡ code_word was i) × (entry_word now i ≡ entry_word was i)

pub shows_same : (start : ℕ) (l : List Pair) (was now : List ℕ) (i n m : ℕ) → SameWords was now i → m ≡ n → Shows start l was i n → Shows start l now i m
shows_same start l was now i n m same is s = record {
  last = s.last;
  seq = s.seq;
  ends = s.ends;
  word = let a = same.sequence in let b = s.word in omega arith;
  one = let a = s.one in omega arith;
  pair = λ z. let p = s.pair (omega arith) in (same.code ∙ p.0, same.entry ∙ p.1);
}

-- an own store stays one in longer lists
pub store_stays : (opening : ℕ) (lists longer seen more : List (List Pair)) → ((j : ℕ) → StartsWith (list_at longer j) (list_at lists j)) → ((j : ℕ) → StartsWith (list_at lists j) (list_at seen j)) → ((j : ℕ) → length (list_at seen j) ≤ length (list_at more j))
    → (own : List _) → Each (IsSeenStore opening lists seen) own → Each (IsSeenStore opening longer more) own
store_stays opening lists longer seen more grows begins up own all = each_map (IsSeenStore opening lists seen) (IsSeenStore opening longer more) own (λ x s. record {
  place = s.place;
  seq = s.seq;
  past = s.past;
  within = let a = s.within in let b = up x.at in omega arith;
  pair = starts_read (list_at longer x.at) (list_at lists x.at) s.place (0, 0) (grows x.at) (let a = s.within in let b = starts_long (list_at lists x.at) (list_at seen x.at) (begins x.at) in omega arith) ∙ s.pair;
}) all

-- no sequence fell, and what was shown stays below
pub risen : (lists longer : List (List Pair)) (was now : List ℕ) (i : ℕ) → Changes lists longer was now i → (j : ℕ) → sequence_word was j ≤ sequence_word now j
risen lists longer was now i c = at_each (λ n. sequence_word was n ≤ sequence_word now n) i c.up (λ j ne. let a = (c.elsewhere j ne).sequence in omega arith)

pub shown_stays : (was now : List ℕ) (shown : List (List ℕ)) → ((j : ℕ) → sequence_word was j ≤ sequence_word now j) → ((j : ℕ) → Each (λ n. n ≤ sequence_word was j) (list_at shown j)) → (j : ℕ) → Each (λ n. n ≤ sequence_word now j) (list_at shown j)
shown_stays was now shown up all j = each_map (λ n. n ≤ sequence_word was j) (λ n. n ≤ sequence_word now j) (list_at shown j) (λ n le. let a = up j in omega arith) (all j)

pub frame : (opening : ℕ) (lists longer : List (List Pair)) (was now : List ℕ) (i : ℕ) (u : View) → Changes lists longer was now i → (u.holds ≡ true → u.at ≢ i) → Knows opening lists was u → Knows opening longer now u
frame opening lists longer was now i u c apart k = record {
  begins = k.begins;
  sizes = (k.sizes.0 ∙ sym c.count, k.sizes.1 ∙ sym c.count);
  seen = λ j. starts_trans (list_at longer j) (list_at lists j) (list_at u.seen j) (c.grows j) (k.seen j);
  some = λ j low. k.some j (let a = c.count in omega arith);
  common = k.common;
  own = store_stays opening lists longer u.seen u.seen c.grows k.seen (λ j. omega arith) u.own k.own;
  shown = shown_stays was now u.shown up k.shown;
  earlier = (k.earlier.0 ∙ sym c.count, shown_stays was now u.earlier up k.earlier.1);
  place = let a = c.count in let b = k.place in omega arith;
  low = let a = up u.at in let b = k.low in omega arith;
  read = λ even is. reads even is (same_or_not u.at i);
  held = λ holds.
      let same = c.elsewhere u.at (apart holds) in
      let h = k.held holds in
      (same.sequence ∙ h.0, h.1, (same.code ∙ h.2.0, same.entry ∙ h.2.1));
}
  where
    up : (j : ℕ) → sequence_word was j ≤ sequence_word now j
    up = risen lists longer was now i c

    reads : u.first % 2 ≡ 0 → sequence_word now u.at ≡ u.first → (u.at ≡ i) ⊎ (u.at ≢ i) → HasNumbers now u
    reads even is (inr ne) =
        let same = c.elsewhere u.at ne in
        let h = k.read even (sym same.sequence ∙ is) in
        (same.code ∙ h.0, same.entry ∙ h.1)
    reads even is (inl e) =
        let a = up u.at in
        let b = k.low in
        let was_first : sequence_word was u.at ≡ u.first = omega arith in
        let h = k.read even was_first in
        let t = c.still in
        let s = subst (λ (n : ℕ). sequence_word now n ≡ sequence_word was n → sequence_word was n % 2 ≡ 0 → (code_word now n ≡ code_word was n) × (entry_word now n ≡ entry_word was n)) (sym e) t (is ∙ sym was_first) (ap (λ (n : ℕ). n % 2) was_first ∙ even) in
        (s.0 ∙ h.0, s.1 ∙ h.1)
