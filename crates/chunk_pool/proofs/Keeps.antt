-- Each kind of step keeps the rule.
use Rattle.std.proofs.Common.{◌≡◌, ◌≢◌, ℕ, zero, suc, ◌+◌, ◌%◌, ◌^◌, ◌≤◌, ◌<◌, ◌==◌, nat_lt, if◌then◌else◌, Bool, true, false, ◌||◌, ◌⊎◌, inl, inr, List, [], ◌∷◌, ◌++◌, length, slice_index, set, refl, sym, ap, ◌∙◌, subst, ⊎_elim, arith, Option, Some, None, true≢false, map}
use Rattle.std.proofs.lemmas.Bool.Decides.{nat_tests}
use Rattle.std.proofs.lemmas.List.{set-get_or}
use mathlib.Core.Option.{none, some, some-injective, some-ne-none}
use lib.ListN.{get_elem?}
use Rattle.atomic_table.specs.Table.{State, Me, step, Act, keeps, takes, gives, chain, put_back, rest, carried_after, Valid, stepped, opening, Allows, Splits, Joins}
use Rattle.atomic_table.proofs.Lists.{at_snoc, at_map, set_else, set_again}
use Rattle.entry_base.specs.Lists.{total, count_in}
use Rattle.entry_base.specs.declared.chunks.Chunk.{Chunk}
use Rattle.entry_base.proofs.Sums.{total_set, total_append, among, views_set, count_append, count_self}
use Rattle.chunk_pool.specs.declared.claims.Claims.{Claims}
use Rattle.chunk_pool.specs.Claims.{first_claims, with_number, with_end, giver, newcomer, both, spent, IsGiven, IsWhole, TookEachOnce}
use Rattle.chunk_pool.specs.Rule.{times, parts, ends, Holds, Kept, claimed, gave_back, learned}
use Rattle.chunk_pool.specs.Thieves.{AreEmptied}
use Rattle.chunk_pool.proofs.Given.{given_there, given_within}
use Rattle.chunk_pool.proofs.Parts.{total_ends, ends_both, ends_parted, total_alone}

abbrev Out : Type 0
Out = List (ℕ × Option Chunk)

word_set : (ws : List ℕ) (x : ℕ) → length ws ≡ 1 → slice_index (set ws 0 x) 0 ≡ x
word_set [] x e = absurd (omega arith)
word_set (a ∷ ws) x e = refl

long_set : (ws : List ℕ) (x : ℕ) → length (set ws 0 x) ≡ length ws
long_set [] x = refl
long_set (a ∷ ws) x = refl

-- the number of claims is at most that of the chunks and of the thieves
pub claims_bounded : (given : List Chunk) (made : ℕ) (s : State (Option Chunk) Claims) → Kept given made s → slice_index s.words 0 ≤ length given + made
claims_bounded given made s k = let a = total_ends s.views in let b = k.bound in let c = k.all in omega arith

-- whether a number is the one claimed
abbrev hit : ℕ → ℕ → ℕ
hit x k = count_in k (x ∷ [])

hits : (x k : ℕ) → ((x ≡ k) × (hit x k ≡ 1)) ⊎ ((x ≢ k) × (hit x k ≡ 0))
hits x k = go (k == x) refl
  where
    go : (b : Bool) → (k == x) ≡ b → ((x ≡ k) × (hit x k ≡ 1)) ⊎ ((x ≢ k) × (hit x k ≡ 0))
    go true e = let same : x ≡ k = grind (arith, nat_tests) in inl (same, ap (λ (b : Bool). (if b then 1 else 0) + 0) e)
    go false e = let apart : x ≢ k = grind (arith, nat_tests) in inr (apart, ap (λ (b : Bool). (if b then 1 else 0) + 0) e)

pub count_last : (n : ℕ) (xs : List ℕ) → 0 < count_in n (xs ++ n ∷ [])
count_last n xs = let a = count_append n xs (n ∷ []) in let b = count_self n [] in omega arith

module _ (given : List Chunk) (made : ℕ) (s : State (Option Chunk) Claims) (k : Kept given made s) (id : ℕ) (v : Claims) (at : get_elem? s.views id ≡ some v) (alive : 0 < v.joined) where
  abbrev word : ℕ
  word = slice_index s.words 0

  -- what the seat gives back was claimed
  back : (c : Out) → AreEmptied v c → (j : ℕ) → word ≤ j → get_elem? (put_back s.homes c) j ≡ get_elem? s.homes j
  back [] out j le = refl
  back (x ∷ c) out j le =
      ⊎_elim
      (λ (e : x ∷ c ≡ []). absurd (cons_nil e))
      (λ (o : (n : ℕ) × (x ∷ c ≡ (n, None) ∷ []) × (0 < count_in n v.taken)).
      let a = among (times o.0) s.views id v at in
      let first : x.0 ≡ o.0 = ap (λ (xs : Out). first_of xs) o.1 in
      let b = k.none j (inl le) in
      set_else s.homes x.0 j (some x.1) (λ (same : j ≡ x.0). let t : total (times j) s.views ≡ total (times o.0) s.views = ap (λ (m : ℕ). total (times m) s.views) (same ∙ first) in absurd (omega arith)))
      out
    where
      first_of : Out → ℕ
      first_of [] = 0
      first_of (y ∷ ys) = y.0

      cons_nil : x ∷ c ≡ [] → ⊥
      cons_nil e = let n : 1 ≤ length (x ∷ c) = omega arith in let m : length (x ∷ c) ≡ 0 = ap length e in omega arith

  rested : (c : Out) → AreEmptied v c → rest c ≡ []
  rested c out = ⊎_elim (λ (e : c ≡ []). ap rest e) (λ (o : (n : ℕ) × (c ≡ (n, None) ∷ []) × (0 < count_in n v.taken)). ap rest o.1) out

  next : slice_index (set s.words 0 ((word + 1) % 2 ^ 64)) 0 ≡ word + 1
  next = word_set s.words ((word + 1) % 2 ^ 64) k.one_word ∙ (let a = claims_bounded given made s k in let d = k.few in let e = k.few_thieves in omega arith)

  -- a thief that is all of them, where all is claimed
  whole_took : length given ≤ word → IsWhole (with_end v) → TookEachOnce v
  whole_took past is =
      let kn = k.known id v at alive in
      let long : length v.given ≡ length given = ap length kn.given in
      let mine : (j : ℕ) → total (times j) s.views ≡ times j v = λ j. total_alone (times j) s.views id v at (k.all ∙ sym (is.all ∙ kn.thieves)) (λ i u here none. ap (times j) (k.idle i u here none)) in
      record {
        each = λ j lower. sym (mine j) ∙ k.once j (omega arith) (omega arith);
        others = λ j over. sym (mine j) ∙ k.none j (inr (omega arith));
      }

  -- a claim below the end
  wins : (c : Out) → AreEmptied v c → v.ended ≡ false → (chunk : Chunk) → word < length given
      → Kept given made (stepped s 0 ((word + 1) % 2 ^ 64) id c (with_number word v) (chain gives (takes word (Some chunk))))
  wins c out fresh chunk lt =
      let w : Claims = with_number word v in
      let kn = k.known id v at alive in
      let after = next in
      let change : (j : ℕ) → total (times j) (set s.views id w) + times j v ≡ total (times j) s.views + times j w = λ j. total_set (times j) s.views id v w at in
      let more : (j : ℕ) → times j w ≡ times j v + hit word j = λ j. count_append j v.taken (word ∷ []) in
      record {
        few = k.few;
        few_thieves = k.few_thieves;
        one_word = long_set s.words _ ∙ k.one_word;
        home = λ j y le is. set_else (put_back s.homes c) word j none (omega arith) ∙ (back c out j (omega arith) ∙ k.home j y (omega arith) is);
        once = λ j l le. ⊎_elim
            (λ (t : (word ≡ j) × (hit word j ≡ 1)). let a = change j in let b = more j in let z = k.none j (inl (omega arith)) in let q = t.1 in omega arith)
            (λ (t : (word ≢ j) × (hit word j ≡ 0)). let a = change j in let b = more j in let ne = t.0 in let z = k.once j l (omega arith) in let q = t.1 in omega arith)
            (hits word j);
        none = λ j lower.
            let past : word ≤ j × (word ≢ j) = ⊎_elim (λ (a : slice_index (set s.words 0 ((word + 1) % 2 ^ 64)) 0 ≤ j). (omega arith, (λ e. absurd (omega arith)))) (λ (a : length given ≤ j). (omega arith, (λ e. absurd (omega arith)))) lower in
            let a = change j in let b = more j in let z = k.none j (inl past.0) in
            ⊎_elim
            (λ (t : (word ≡ j) × (hit word j ≡ 1)). absurd (past.1 t.0))
            (λ (t : (word ≢ j) × (hit word j ≡ 0)). let q = t.1 in omega arith)
            (hits word j);
        bound = let f = k.few in omega arith;
        all = let a = total_set parts s.views id v w at in let b = k.all in omega arith;
        idle = views_set (λ _ u. u.joined ≡ 0 → u ≡ spent) s.views id w (λ j u ne here none. k.idle j u here none) (λ none. absurd (omega arith));
        known = views_set (λ _ u. 0 < u.joined → Holds given made _ u) s.views id w (λ j u ne here live. let q = k.known j u here live in record { given = q.given; thieves = q.thieves; end = (λ e. let r = q.end e in omega arith); next = let r = q.next in omega arith }) (λ live. record { given = kn.given; thieves = kn.thieves; end = (λ e. absurd (true≢false (sym e ∙ fresh))); next = omega arith });
      }

  -- a claim past the end
  loses : (c : Out) → AreEmptied v c → v.ended ≡ false → length given ≤ word
      → Kept given made (stepped s 0 ((word + 1) % 2 ^ 64) id c (with_end v) gives)
  loses c out fresh past =
      let w : Claims = with_end v in
      let kn = k.known id v at alive in
      let after = next in
      let change : (j : ℕ) → total (times j) (set s.views id w) + times j v ≡ total (times j) s.views + times j w = λ j. total_set (times j) s.views id v w at in
      record {
        few = k.few;
        few_thieves = k.few_thieves;
        one_word = long_set s.words _ ∙ k.one_word;
        home = λ j y le is. let l = given_within given j y is in absurd (omega arith);
        once = λ j l le. let a = change j in let z = k.once j l (omega arith) in omega arith;
        none = λ j lower. let a = change j in ⊎_elim (λ (b : slice_index (set s.words 0 ((word + 1) % 2 ^ 64)) 0 ≤ j). let z = k.none j (inl (omega arith)) in omega arith) (λ (b : length given ≤ j). let z = k.none j (inr b) in omega arith) lower;
        bound = let a = total_set ends s.views id v w at in let z : ends v ≡ 0 = ap (λ (b : Bool). if b then v.joined else 0) fresh in let b = k.bound in omega arith;
        all = let a = total_set parts s.views id v w at in let b = k.all in omega arith;
        idle = views_set (λ _ u. u.joined ≡ 0 → u ≡ spent) s.views id w (λ j u ne here none. k.idle j u here none) (λ none. absurd (omega arith));
        known = views_set (λ _ u. 0 < u.joined → Holds given made _ u) s.views id w (λ j u ne here live. let q = k.known j u here live in record { given = q.given; thieves = q.thieves; end = (λ e. let r = q.end e in omega arith); next = let r = q.next in omega arith }) (λ live. record { given = kn.given; thieves = kn.thieves; end = (λ e. omega arith); next = let r = kn.next in omega arith });
      }

  same : stepped s 0 word id [] v keeps ≡ s
  same = λ i. record { words = set-get_or s.words 0 0 i; homes = s.homes; views = set_again s.views id v at i }

  -- the emptied slot goes back
  gives_back : (c : Out) → AreEmptied v c → Kept given made (stepped s 0 word id c v gives)
  gives_back c out =
      let q : Kept given made (stepped s 0 word id [] v keeps) = subst (Kept given made) (sym same) k in
      let is : slice_index (set s.words 0 word) 0 ≡ word = ap (λ (t : State (Option Chunk) Claims). slice_index t.words 0) same in
      record {
        few = q.few;
        few_thieves = q.few_thieves;
        one_word = q.one_word;
        home = λ j y le given. back c out j (omega arith) ∙ q.home j y le given;
        once = q.once;
        none = q.none;
        bound = q.bound;
        all = q.all;
        idle = q.idle;
        known = q.known;
      }

pub claims : (given : List Chunk) (made slots id : ℕ) (me : Me (Option Chunk) Claims) → 0 < me.0.joined → me.0.ended ≡ false → AreEmptied me.0 me.1
    → Allows (Kept given made) slots id me 0 (λ n. (n + 1) % 2 ^ 64) (claimed (step slots 0 1 0 none) me)
claims given made slots id me alive fresh out s k sized at fits = go (nat_lt (slice_index s.words 0) (length given)) refl
  where
    v : Claims
    v = me.0

    c : Out
    c = me.1

    n : ℕ
    n = slice_index s.words 0

    kn : Holds given made n v
    kn = k.known id v at alive

    long : length v.given ≡ length given
    long = ap length kn.given

    empty : rest c ≡ []
    empty = rested given made s k id v at alive c out

    go : (b : Bool) → nat_lt n (length given) ≡ b → (w : Claims) × (a : Act (Option Chunk)) × Valid s.homes c a × Kept given made (stepped s 0 ((n + 1) % 2 ^ 64) id c w a) × claimed (step slots 0 1 0 none) me n (w, carried_after c a)
    go true e =
        let lt : n < length given = grind (arith, nat_tests) in
        let l = long in
        let y = given_there given n lt in (
          with_number n v,
          chain gives (takes n (Some y.0)),
          (tt, back given made s k id v at alive c out n (omega arith) ∙ k.home n y.0 (omega arith) y.1),
          wins given made s k id v at alive c out fresh y.0 lt,
          (
            (λ _. record { later = kn.next; chunk = y.0; given = subst (λ (xs : List Chunk). IsGiven xs n y.0) (sym kn.given) y.1; after = λ i. (with_number n v, (n, Some y.0) ∷ empty i) }),
            λ le. absurd (omega arith),
          ),
        )
    go false e =
        let past : length given ≤ n = grind (arith, nat_tests) in
        let l = long in (
          with_end v,
          gives,
          tt,
          loses given made s k id v at alive c out fresh past,
          (
            (λ lt. absurd (omega arith)),
            λ _. record {
              after = λ i. (with_end v, empty i);
              whole = λ is. let t = whole_took given made s k id v at alive past is in record { each = t.each; others = t.others };
            },
          ),
        )

pub backs : (given : List Chunk) (made slots id : ℕ) (me : Me (Option Chunk) Claims) → 0 < me.0.joined → AreEmptied me.0 me.1
    → Allows (Kept given made) slots id me 0 (λ n. n) (gave_back (step slots 0 0 0 none) me)
backs given made slots id me alive out s k sized at fits = (
  me.0,
  gives,
  tt,
  gives_back given made s k id me.0 at alive me.1 out,
  λ i. (me.0, rested given made s k id me.0 at alive me.1 out i),
)

pub learns : (given : List Chunk) (made slots id : ℕ) (me : Me (Option Chunk) Claims) → 0 < me.0.joined
    → Allows (Kept given made) slots id me 0 (λ n. n) (learned (step slots 0 0 0 none) me)
learns given made slots id me alive s k sized at fits = (
  me.0,
  keeps,
  tt,
  subst (Kept given made) (sym (same given made s k id me.0 at alive)) k,
  (
    refl,
    λ is. whole_took given made s k id me.0 at alive ((k.known id me.0 at alive).end is.ended) record { all = is.all; ended = refl },
  ),
)

pub splits : (given : List Chunk) (made id : ℕ) (v : Claims) → 2 ≤ v.joined → Splits (Kept given made) id v (giver v) (newcomer v)
splits given made id v two s k at =
    let kn = k.known id v at (omega arith) in
    let l : Claims = giver v in
    let r : Claims = newcomer v in
    let change : (f : Claims → ℕ) → total f (set s.views id l ++ r ∷ []) + f v ≡ total f s.views + f l + f r = λ f. let a = total_set f s.views id v l at in let b = total_append f (set s.views id l) (r ∷ []) in omega arith in record {
      few = k.few;
      few_thieves = k.few_thieves;
      one_word = k.one_word;
      home = k.home;
      once = λ j l le. let a = change (times j) in let z = k.once j l le in omega arith;
      none = λ j lower. let a = change (times j) in let z = k.none j lower in omega arith;
      bound = let a = change ends in let z = k.bound in let o = ends_parted v.ended v.joined (omega arith) in omega arith;
      all = let a = change parts in let z = k.all in omega arith;
      idle = λ j u here none. ⊎_elim
          (λ (t : get_elem? (set s.views id l) j ≡ some u). views_set (λ _ x. x.joined ≡ 0 → x ≡ spent) s.views id l (λ i x ne now. k.idle i x now) (λ z. absurd (omega arith)) j u t none)
          (λ (t : r ≡ u). let z : 1 ≡ u.joined = ap (λ (x : Claims). x.joined) t in absurd (omega arith))
          (at_snoc (set s.views id l) r u j here);
      known = λ j u here live. ⊎_elim
          (λ (t : get_elem? (set s.views id l) j ≡ some u). views_set (λ _ x. 0 < x.joined → Holds given made _ x) s.views id l (λ i x ne now. k.known i x now) (λ z. record { given = kn.given; thieves = kn.thieves; end = kn.end; next = kn.next }) j u t live)
          (λ (t : r ≡ u). subst (Holds given made _) t record { given = kn.given; thieves = kn.thieves; end = kn.end; next = kn.next })
          (at_snoc (set s.views id l) r u j here);
    }

pub joins : (given : List Chunk) (made id : ℕ) (v : Claims) (other : ℕ) (u : Claims) → 0 < v.joined → 0 < u.joined → Joins (Kept given made) id v other u (both v u) spent
joins given made id v other u alive living s k at ne now =
    let kn = k.known id v at alive in
    let b : Claims = both v u in
    let was : get_elem? s.views other ≡ some u = sym (set_else s.views id other b ne) ∙ now in
    let km = k.known other u was living in
    let change : (f : Claims → ℕ) → total f (set (set s.views id b) other spent) + f u + f v ≡ total f s.views + f b + f spent = λ f. let a = total_set f s.views id v b at in let d = total_set f (set s.views id b) other u spent now in omega arith in
    let taken : (j : ℕ) → times j b ≡ times j v + times j u = λ j. count_append j v.taken u.taken in record {
      few = k.few;
      few_thieves = k.few_thieves;
      one_word = k.one_word;
      home = k.home;
      once = λ j l le. let a = change (times j) in let t = taken j in let z = k.once j l le in omega arith;
      none = λ j lower. let a = change (times j) in let t = taken j in let z = k.none j lower in omega arith;
      bound = let a = change ends in let z = k.bound in let o = ends_both v.ended u.ended v.joined u.joined in omega arith;
      all = let a = change parts in let z = k.all in omega arith;
      idle = views_set (λ _ x. x.joined ≡ 0 → x ≡ spent) (set s.views id b) other spent
          (λ i x n here. views_set (λ _ y. y.joined ≡ 0 → y ≡ spent) s.views id b (λ h y m there. k.idle h y there) (λ z. absurd (omega arith)) i x here) (λ z. refl);
      known = views_set (λ _ x. 0 < x.joined → Holds given made _ x) (set s.views id b) other spent
          (λ i x n here. views_set (λ _ y. 0 < y.joined → Holds given made _ y) s.views id b (λ h y m there. k.known h y there) (λ z. record { given = kn.given; thieves = kn.thieves; end = ended_by v.ended u.ended kn.end km.end; next = kn.next }) i x here) (λ z. absurd (omega arith));
    }
  where
    ended_by : {A : Type 0} (a b : Bool) → (a ≡ true → A) → (b ≡ true → A) → (a || b) ≡ true → A
    ended_by true b f g e = f refl
    ended_by false b f g e = g e

pub opens : (given : List Chunk) (made : ℕ) → length given ≤ 512 → 1 ≤ made → made ≤ 4 → Kept given made (opening (0 ∷ []) (map Some given) (first_claims given made))
opens given made few some_made few_made = record {
  few = few;
  few_thieves = few_made;
  one_word = refl;
  home = λ j y le is. at_map some (map Some given) j (Some y) (at_map Some given j y is);
  once = λ j l le. absurd (omega arith);
  none = λ j lower. refl;
  bound = omega arith;
  all = omega arith;
  idle = λ j u at none. let e = only j u at in absurd (omega (arith, ap (λ (x : Claims). x.joined) e));
  known = λ j u at live. subst (Holds given made 0) (only j u at) record { given = refl; thieves = refl; end = (λ e. absurd (true≢false (sym e))); next = omega arith };
}
  where
    only : (j : ℕ) (u : Claims) → get_elem? (first_claims given made ∷ []) j ≡ some u → first_claims given made ≡ u
    only zero u e = some-injective (first_claims given made) u e
    only (suc j) u e = absurd (some-ne-none u (sym e))
