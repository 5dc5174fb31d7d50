-- A list that is filled with the tags below a bound, in order, and how many there are.
use Rattle.std.proofs.Common.{◌≡◌, ℕ, zero, suc, ◌+◌, ◌-◌, ◌<◌, ◌≤◌, Bool, List, [], ◌∷◌, ◌++◌, length, take, set, refl, ap, sym, ◌∙◌, subst, arith, inl, inr, add-one, take_all, length-set, add-zero, eq-eqb, ne_eqb}
use Rattle.std.specs.Prelude.{count_ones, ◌==◌, if◌then◌else◌, All, AllPairs, Contains}
use Rattle.std.specs.List.Sorted.{IsStrictlyIncreasing}
use Rattle.std.proofs.lemmas.List.{take_more_set}
use Rattle.std.proofs.lemmas.List.Elements.{All-push, Contains-push, Contains-append_left}
use Rattle.std.proofs.lemmas.List.Quantifiers.{all_pairs_push}
use Rattle.std.proofs.lemmas.Bool.{cases_eq}
use lib.Count.{ones, ones_in}
use Rattle.tag_set.specs.Tag.{IsOldTag}

-- the list has the tags below n and no other number, ascending
pub record AreTagsBelow (xs : List ℕ) (n : ℕ) : Type 0 where
  pub tags : All IsOldTag xs
  pub below : All (λ b. b < n) xs
  pub ascending : AllPairs (λ a b. a < b) xs
  pub every : (b : ℕ) → b < n → IsOldTag b → Contains xs b

none_below : AreTagsBelow [] 0
none_below = record { tags = λ k d h. absurd (omega arith); below = λ k d h. absurd (omega arith); ascending = λ i j d g h. absurd (omega arith); every = λ b h. absurd (omega arith) }

one_more : (xs : List ℕ) (n : ℕ) → IsOldTag n → AreTagsBelow xs n → AreTagsBelow (xs ++ n ∷ []) (n + 1)
one_more xs n is_tag old = record {
  tags = All-push IsOldTag xs n old.tags is_tag;
  below = All-push (λ b. b < n + 1) xs n (λ k d h. let b = old.below k d h in omega arith) (omega arith);
  ascending = all_pairs_push (λ a b. a < b) xs n old.ascending old.below;
  every = λ b h t. elim (cases_eq b n) [
    | inl e ↦ subst (λ (x : ℕ). Contains (xs ++ n ∷ []) x) (sym e) (Contains-push xs n)
    | inr other ↦ Contains-append_left xs (n ∷ []) b (old.every b (omega (arith, other)) t)
  ];
}

none_more : (xs : List ℕ) (n : ℕ) → (IsOldTag n → ⊥) → AreTagsBelow xs n → AreTagsBelow xs (n + 1)
none_more xs n no_tag old = record {
  tags = old.tags;
  below = λ k d h. let b = old.below k d h in omega arith;
  ascending = old.ascending;
  every = λ b h t. elim (cases_eq b n) [
    | inl e ↦ absurd (no_tag (subst IsOldTag e t))
    | inr other ↦ old.every b (omega (arith, other)) t
  ];
}

-- how many tags are below n
pub number_below : ℕ → ℕ
number_below zero = 0
number_below (suc n) = number_below n + (if count_ones n == 4 then 1 else 0)

number_below-all : number_below 256 ≡ 70
unfolding number_below ones ones_in
number_below-all = refl

number_below-none : number_below 0 ≡ 0
unfolding number_below
number_below-none = refl

number_below-tag : (n : ℕ) → IsOldTag n → number_below (n + 1) ≡ number_below n + 1
unfolding number_below
number_below-tag n is_tag =
    ap number_below (add-one n)
    ∙ ap (λ (b : Bool). number_below n + (if b then 1 else 0)) (eq-eqb (count_ones n) 4 is_tag.1)

number_below-other : (n : ℕ) → (count_ones n ≡ 4 → ⊥) → number_below (n + 1) ≡ number_below n
unfolding number_below
number_below-other n no_tag =
    ap number_below (add-one n)
    ∙ ap (λ (b : Bool). number_below n + (if b then 1 else 0)) (ne_eqb (count_ones n) 4 no_tag)
    ∙ add-zero (number_below n)

number_below-rises : (n : ℕ) → number_below n ≤ number_below (n + 1)
unfolding number_below
number_below-rises n = subst (λ (m : ℕ). number_below n ≤ m) (sym (ap number_below (add-one n))) (omega arith)

number_below-le : (n d : ℕ) → number_below n ≤ number_below (n + d)
number_below-le n zero = omega (arith, ap number_below (add-zero n))
number_below-le n (suc d) =
    let e : n + suc d ≡ n + d + 1 = omega arith in
    omega (arith, number_below-le n d, number_below-rises (n + d), ap number_below e)

-- one more tag below 256: there were fewer than 70
number_below-lt : (n : ℕ) → n < 256 → IsOldTag n → number_below n < 70
number_below-lt n below is_tag =
    let e : n + 1 + (255 - n) ≡ 256 = omega arith in
    omega (arith, number_below-tag n is_tag, number_below-le (n + 1) (255 - n), ap number_below e, number_below-all)

-- the first places of the list are filled with the tags below n
pub record Lists (tags : List ℕ) (count n : ℕ) : Type 0 where
  pub room : length tags ≡ 70
  pub counted : count ≡ number_below n
  pub listed : AreTagsBelow (take count tags) n

pub lists_none : (tags : List ℕ) → length tags ≡ 70 → Lists tags 0 0
lists_none tags room = record { room = room; counted = sym number_below-none; listed = none_below }

pub lists_room : (tags : List ℕ) (count n : ℕ) → Lists tags count n → IsOldTag n → count < 70
lists_room tags count n old is_tag = omega (arith, old.counted, number_below-lt n is_tag.0 is_tag)

-- the next number is a tag, and goes to the next place
pub lists_one_more : (tags : List ℕ) (count n : ℕ) → Lists tags count n → IsOldTag n → (tag : ℕ) → tag ≡ n
    → (tags' : List ℕ) (count' : ℕ) → tags' ≡ set tags count tag → count' ≡ count + 1 → Lists tags' count' (n + 1)
lists_one_more tags count n old is_tag tag same tags' count' tags_are count_is =
    let within : count < length tags = omega (arith, old.room, lists_room tags count n old is_tag) in
    let stored : tags' ≡ set tags count n = tags_are ∙ ap (λ (t : ℕ). set tags count t) same in
    let filled : take count' tags' ≡ take count tags ++ n ∷ [] =
    ap (λ (k : ℕ). take k tags') count_is ∙ ap (λ (xs : List ℕ). take (count + 1) xs) stored
    ∙ take_more_set tags count n within in
    record {
      room = ap (λ (xs : List ℕ). length xs) stored ∙ length-set tags count n ∙ old.room;
      counted = omega (arith, old.counted, number_below-tag n is_tag);
      listed = subst (λ (xs : List ℕ). AreTagsBelow xs (n + 1)) (sym filled) (one_more (take count tags) n is_tag old.listed);
    }

-- the next number is no tag, and nothing changes
pub lists_same : (tags : List ℕ) (count n : ℕ) → Lists tags count n → n < 256 → (IsOldTag n → ⊥)
    → (tags' : List ℕ) (count' : ℕ) → tags' ≡ tags → count' ≡ count → Lists tags' count' (n + 1)
lists_same tags count n old below no_tag tags' count' tags_are count_is =
    let same : take count' tags' ≡ take count tags = ap (λ (k : ℕ). take k tags') count_is ∙ ap (λ (xs : List ℕ). take count xs) tags_are in
    record {
      room = ap (λ (xs : List ℕ). length xs) tags_are ∙ old.room;
      counted = count_is ∙ old.counted ∙ sym (number_below-other n (λ e. no_tag (below, e)));
      listed = subst (λ (xs : List ℕ). AreTagsBelow xs (n + 1)) (sym same) (none_more (take count tags) n no_tag old.listed);
    }

-- past the last byte the list is full
pub lists_all : (tags : List ℕ) (count n : ℕ) → Lists tags count (n + 1) → n ≡ 255 → AreTagsBelow tags 256
lists_all tags count n full last =
    let end : n + 1 ≡ 256 = omega arith in
    let whole : length tags ≤ count = omega (arith, full.room, full.counted, ap number_below end, number_below-all) in
    subst (λ (m : ℕ). AreTagsBelow tags m) end (subst (λ (xs : List ℕ). AreTagsBelow xs (n + 1)) (take_all count tags whole) full.listed)

-- the last list is what is wanted
pub ascending_all : (tags : List ℕ) → AreTagsBelow tags 256 → IsStrictlyIncreasing tags
ascending_all tags full k h = full.ascending k (k + 1) 0 (omega arith) h

pub every_tag : (tags : List ℕ) → AreTagsBelow tags 256 → (byte : ℕ) → IsOldTag byte → Contains tags byte
every_tag tags full byte is_tag = full.every byte is_tag.0 is_tag
