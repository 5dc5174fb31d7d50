-- A join and an absorption keep the rule.
use Rattle.std.proofs.Common.{◌≡◌, ℕ, zero, suc, ◌+◌, ◌*◌, ◌/◌, ◌<◌, ◌≤◌, nat_lt, if◌then◌else◌, Bool, true, false, List, [], ◌∷◌, ◌++◌, length, get_or, set, Option, refl, sym, ap, subst, ◌∙◌, inl, inr, arith, append_assoc}
use Rattle.std.proofs.lemmas.Bool.{cases_Bool}
use Rattle.std.proofs.lemmas.Bool.Decides.{nat_tests}
use mathlib.Core.Option.{some}
use lib.ListN.{get_elem?}
use Rattle.atomic_table.specs.Table.{Joins}
use Rattle.atomic_table.proofs.Lists.{set_else}
use Rattle.plain_table.specs.declared.events.Event.{Event}
use Rattle.plain_table.specs.Table.{Table}
use Rattle.plain_table.specs.History.{after}
use Rattle.plain_table.specs.Shows.{IsPending}
use Rattle.entry_base.specs.declared.view.Opening.{Opening}
use Rattle.entry_word.specs.declared.image.Pending.{Pending}
use Rattle.entry_base.specs.declared.view.View.{View}
use Rattle.entry_base.specs.Lists.{StartsWith, Each, total, count_in, longer, shorter}
use Rattle.entry_base.specs.Hands.{cut_off, loose}
use Rattle.entry_base.specs.Numbers.{HasNumber, IsQuiet, Stands}
use Rattle.entry_base.specs.Owns.{Owns}
use Rattle.entry_base.specs.Openings.{pending_cell, sizes_in}
use Rattle.entry_base.specs.Facts.{TableKnows, IsKnown, GoesOn}
use Rattle.entry_base.specs.declared.view.Fact.{Fact}
use Rattle.entry_base.specs.Rule.{Kept, Ruled}
use Rattle.entry_base.specs.Views.{pick_from, has_number, joined_fact, both, absorber, spent}
use Rattle.entry_base.proofs.CutsStay.{both_cut, both_loose, chunk_cut, chunk_loose, cuts_join}
use Rattle.entry_base.proofs.Sums.{count_append, total_set, views_set, each_map, each_append, each_last}

-- elements of a list that is picked from two
pub pick_read : {A : Type 0} (f : ℕ → Bool) (i : ℕ) (xs ys : List A) (j : ℕ) (d : A) → length xs ≡ length ys → get_or (pick_from f i xs ys) j d ≡ (if f (i + j) then get_or ys j d else get_or xs j d)
pick_read f i [] [] j d e = same (f (i + j))
  where
    same : (b : Bool) → d ≡ (if b then d else d)
    same true = refl
    same false = refl
pick_read f i [] (y ∷ ys) j d e = absurd (omega (arith, e))
pick_read f i (x ∷ xs) [] j d e = absurd (omega (arith, e))
pick_read f i (x ∷ xs) (y ∷ ys) zero d e = ap (λ n. if f n then y else x) (let z : i ≡ i + 0 = omega arith in z)
pick_read f i (x ∷ xs) (y ∷ ys) (suc j) d e = pick_read f (i + 1) xs ys j d (omega (arith, e)) ∙ ap (λ n. if f n then get_or ys j d else get_or xs j d) (let z : i + 1 + j ≡ i + suc j = omega arith in z)

module _ {A : Type 0} where
  -- of two beginnings of one list the longer begins with the shorter
  two_starts : (xs ys rs qs : List A) → xs ++ rs ≡ ys ++ qs → length xs ≤ length ys → StartsWith ys xs
  two_starts [] ys rs qs e le = (ys, refl)
  two_starts (x ∷ xs) [] rs qs e le = absurd (omega arith)
  two_starts (x ∷ xs) (y ∷ ys) rs qs e le =
      let tails : xs ++ rs ≡ ys ++ qs = cc in
      let heads : x ≡ y = cc in
      let r = two_starts xs ys rs qs tails (omega arith) in
      (r.0, (λ i. sym heads i ∷ r.1 i))

  same_rest : (xs ys zs : List A) → xs ++ ys ≡ xs ++ zs → ys ≡ zs
  same_rest [] ys zs e = e
  same_rest (x ∷ xs) ys zs e = same_rest xs ys zs (cc)

-- a view that stands at the longer one of two histories, with the numbers of both
both_stand : (log : List Event) (v u w : View) → Stands log v → Stands log u → w.seen ≡ longer v.seen u.seen
    → ((n : ℕ) → count_in n v.numbers ≡ 0 → count_in n u.numbers ≡ 0 → count_in n w.numbers ≡ 0) → Stands log w
both_stand log v u w a b seen numbers = go (nat_lt (length v.seen) (length u.seen)) refl
  where
    -- the longer one is x's, and y's begins it
    by : (x y : View) (p : Stands log x) (q : Stands log y) → length y.seen ≤ length x.seen → w.seen ≡ x.seen
        → ((n : ℕ) → count_in n x.numbers ≡ 0 → count_in n y.numbers ≡ 0 → count_in n w.numbers ≡ 0) → Stands log w
    by x y p q le seen_is none =
        let start = two_starts y.seen x.seen q.rest p.rest (sym q.seen ∙ p.seen) le in
        let rest : q.rest ≡ start.0 ++ p.rest = same_rest y.seen q.rest (start.0 ++ p.rest) (sym q.seen ∙ (p.seen ∙ (ap (λ l. l ++ p.rest) start.1 ∙ append_assoc y.seen start.0 p.rest))) in
        record {
          rest = p.rest;
          seen = p.seen ∙ ap (λ l. l ++ p.rest) (sym seen_is);
          quiet = two p.rest p.quiet (each_last _ start.0 p.rest (subst (IsQuiet y) rest q.quiet));
        }
      where
        two : (es : List Event) → IsQuiet x es → IsQuiet y es → IsQuiet w es
        two [] h g = tt
        two (e ∷ es) h g = (none e.by h.0 g.0, two es h.1 g.1)

    go : (c : Bool) → nat_lt (length v.seen) (length u.seen) ≡ c → Stands log w
    go true e = by u v b a (let t : length v.seen < length u.seen = grind (arith, nat_tests) in omega arith) (seen ∙ ap (λ c. if c then u.seen else v.seen) e) (λ n x y. numbers n y x)
    go false e = by v u a b (grind (arith, nat_tests)) (seen ∙ ap (λ c. if c then u.seen else v.seen) e) numbers

-- and the fact of the two histories
each_first : {A : Type 0} (P : A → Type 0) (xs ys : List A) → Each P (xs ++ ys) → Each P xs
each_first P [] ys h = tt
each_first P (x ∷ xs) ys h = (h.0, each_first P xs ys h.1)

pub histories_met : (log : List Event) (v u : View) → Stands log v → Stands log u → (t : Table) → TableKnows t (joined_fact v u)
histories_met log v u a b t = go (nat_lt (length v.seen) (length u.seen)) refl
  where
    by : (x y : View) (p : Stands log x) (q : Stands log y) → length y.seen ≤ length x.seen → GoesOn y.seen x.seen y.numbers
    by x y p q le =
        let start = two_starts y.seen x.seen q.rest p.rest (sym q.seen ∙ p.seen) le in
        let rest : q.rest ≡ start.0 ++ p.rest = same_rest y.seen q.rest (start.0 ++ p.rest) (sym q.seen ∙ (p.seen ∙ (ap (λ l. l ++ p.rest) start.1 ∙ append_assoc y.seen start.0 p.rest))) in
        (start.0, start.1, each_first _ start.0 p.rest (subst (IsQuiet y) rest q.quiet))

    go : (c : Bool) → nat_lt (length v.seen) (length u.seen) ≡ c → GoesOn (shorter v.seen u.seen) (longer v.seen u.seen) (if nat_lt (length v.seen) (length u.seen) then v.numbers else u.numbers)
    go true e = subst (λ c. GoesOn (if c then v.seen else u.seen) (if c then u.seen else v.seen) (if c then v.numbers else u.numbers)) (sym e)
        (by u v b a (let t : length v.seen < length u.seen = grind (arith, nat_tests) in omega arith))
    go false e = subst (λ c. GoesOn (if c then v.seen else u.seen) (if c then u.seen else v.seen) (if c then v.numbers else u.numbers)) (sym e)
        (by v u a b (grind (arith, nat_tests)))

module _ (key : Opening) (words : List ℕ) (views : List View) (id : ℕ) (v : View) (other : ℕ) (u w : View) (k : Kept key words views) (at : get_elem? views id ≡ some v) (apart : ¬ (other ≡ id)) (there : get_elem? (set views id w) other ≡ some u)
    (numbers : (n : ℕ) → count_in n w.numbers ≡ count_in n v.numbers + count_in n u.numbers) (hands : (o : ℕ) → count_in o w.hands ≡ count_in o v.hands + count_in o u.hands)
    (less : (o : ℕ) → loose o w ≤ loose o v + loose o u) (cuts : (o : ℕ) → cut_off o v + cut_off o u ≤ cut_off o w)
    (seen : w.seen ≡ longer v.seen u.seen) (more : List Fact) (facts : w.facts ≡ more ++ (v.facts ++ u.facts))
    (tells : (s : Table) → Each (IsKnown (sizes_in key) k.log s k.shown words) more)
    (owns : (s : Table) → Owns s v → Owns s u → Owns s w) where
  there_was : get_elem? views other ≡ some u
  there_was = sym (set_else views id other w apart) ∙ there

  sum_joined : (f : View → ℕ) → f w ≡ f v + f u → f spent ≡ 0 → total f (set (set views id w) other spent) ≡ total f views
  sum_joined f same none = let a = total_set f (set views id w) other u spent there in let b = total_set f views id v w at in omega arith

  views_joined : (P : View → Type 0) → ((j : ℕ) (x : View) → get_elem? views j ≡ some x → P x) → P w → P spent → (j : ℕ) (x : View) → get_elem? (set (set views id w) other spent) j ≡ some x → P x
  views_joined P all one none = views_set (λ j x. P x) (set views id w) other spent (λ j x ne e. views_set (λ i y. P y) views id w (λ i y m l. all i y l) one j x e) none

  pub kept_joined : Kept key words (set (set views id w) other spent)
  kept_joined = record {
    log = k.log;
    shown = k.shown;
    base = k.base;
    is_base = k.is_base;
    few = k.few;
    near = k.near;
    numbers = record {
      one = λ n le. sum_joined (λ x. count_in n x.numbers) (numbers n) refl ∙ k.numbers.one n le;
      none = λ n lt. sum_joined (λ x. count_in n x.numbers) (numbers n) refl ∙ k.numbers.none n lt;
      events = k.numbers.events;
      stands = views_joined (Stands k.log) k.numbers.stands
          (both_stand k.log v u w (k.numbers.stands id v at) (k.numbers.stands other u there_was) seen (λ n a b. let c = numbers n in omega arith))
          (record { rest = k.log; seen = refl; quiet = none_quiet k.log });
    };
    hands = λ o. sum_joined (λ x. count_in o x.hands) (hands o) refl ∙ k.hands o;
    cuts = cuts_join views id v other u w spent at there k.cuts less cuts (λ o. refl);
    states = λ b base.
        let st = (k.states b base).state in record {
          follows = (k.states b base).follows;
          state = record {
            sizes = st.sizes;
            phase = st.phase;
            start = st.start;
            sound = st.sound;
            shows = st.shows;
            covered = st.covered;
            owns = views_joined (λ x. Owns _ x) st.owns (owns _ (st.owns id v at) (st.owns other u there_was))
                (record { variables = λ b i hb few low. absurd (omega (arith, hb)); pending = λ b d hb few. absurd (omega (arith, hb)); owed = tt; fresh = tt });
            known = views_joined (λ x. Each _ x.facts) st.known
                (subst (Each _) (sym facts) (each_append _ more (v.facts ++ u.facts) (tells (after b k.log)) (each_append _ v.facts u.facts (st.known id v at) (st.known other u there_was)))) tt;
          };
        };
  }
    where
      none_quiet : (es : List Event) → IsQuiet spent es
      none_quiet [] = tt
      none_quiet (e ∷ es) = (refl, none_quiet es)

-- the variables and tickets of two views of one table
pub record HasPlaces (v : View) : Type 0 where
  pub vars : length v.vars ≡ 128
  pub pending : length v.pending ≡ 8

module _ (v u : View) (pv : HasPlaces v) (pu : HasPlaces u) (s : Table) (ov : Owns s v) (ou : Owns s u) where
  left_or_right : (b : ℕ) → HasNumber (both v u) b → has_number u b ≡ false → HasNumber v b
  left_or_right b has none = let a = count_append b v.numbers u.numbers in let z : count_in b u.numbers < 1 = grind (arith, nat_tests) in omega arith

  owns_both : Owns s (both v u)
  owns_both = record {
    variables = λ b i has few low.
        let read = pick_read (λ j. has_number u (j / 16)) 0 v.vars u.vars (16 * b + i) 0 (pv.vars ∙ sym pu.vars) in
        let place : (0 + (16 * b + i)) / 16 ≡ b = omega (arith, low) in
        read ∙ (ap (λ n. if has_number u n then get_or u.vars (16 * b + i) 0 else get_or v.vars (16 * b + i) 0) place ∙ elim (cases_Bool (has_number u b)) [
          | inl yes_there ↦ ap (λ (c : Bool). if c then get_or u.vars (16 * b + i) 0 else get_or v.vars (16 * b + i) 0) yes_there ∙ ou.variables b i (grind (arith, nat_tests)) few low
          | inr none ↦ ap (λ (c : Bool). if c then get_or u.vars (16 * b + i) 0 else get_or v.vars (16 * b + i) 0) none ∙ ov.variables b i (left_or_right b has none) few low
        ]);
    pending = λ b d has few.
        let read = pick_read (has_number u) 0 v.pending u.pending b d (pv.pending ∙ sym pu.pending) in
        subst (λ x. IsPending s (s.ticket b) (pending_cell x)) (sym read) (picked b d has few (has_number u (0 + b)) (ap (has_number u) (let z : 0 + b ≡ b = omega arith in z)));
    owed = each_append _ v.owed u.owed (each_map _ _ v.owed (λ t was. (more_left t.number was.0, was.1)) ov.owed) (each_map _ _ u.owed (λ t was. (more_right t.number was.0, was.1)) ou.owed);
    fresh = each_append _ v.fresh u.fresh (each_map _ _ v.fresh (λ t was. (more_left t.number was.0, was.1)) ov.fresh) (each_map _ _ u.fresh (λ t was. (more_right t.number was.0, was.1)) ou.fresh);
  }
    where
      more_left : (n : ℕ) → HasNumber v n → HasNumber (both v u) n
      more_left n h = let a = count_append n v.numbers u.numbers in omega arith

      more_right : (n : ℕ) → HasNumber u n → HasNumber (both v u) n
      more_right n h = let a = count_append n v.numbers u.numbers in omega arith

      picked : (b : ℕ) (d : Option Pending) → HasNumber (both v u) b → b < 8 → (c : Bool) → c ≡ has_number u b → IsPending s (s.ticket b) (pending_cell (if c then get_or u.pending b d else get_or v.pending b d))
      picked b d has few true e = ou.pending b d (grind (arith, nat_tests)) few
      picked b d has few false e = ov.pending b d (left_or_right b has (sym e)) few

pub joins : (key : Opening) (id : ℕ) (v : View) (other : ℕ) (u : View) → HasPlaces v → HasPlaces u → Joins {S = Unit {0}} {V = View} (Ruled key) id v other u (both v u) spent
joins key id v other u pv pu s k at apart there = kept_joined key s.words s.views id v other u (both v u) k at apart there
    (λ n. count_append n v.numbers u.numbers) (λ o. count_append o v.hands u.hands)
    (λ o. both_loose o v.numbers u.numbers v.hands u.hands) (λ o. both_cut o v.numbers u.numbers v.cut u.cut) refl (joined_fact v u ∷ []) refl
    (λ t. ((histories_met k.log v u (k.numbers.stands id v at) (k.numbers.stands other u (sym (set_else s.views id other (both v u) apart) ∙ there)) t, tt), tt))
    (λ t ov ou. owns_both v u pv pu t ov ou)

pub absorbs : (key : Opening) (id : ℕ) (v : View) (other : ℕ) (u : View) → u.numbers ≡ [] → Joins {S = Unit {0}} {V = View} (Ruled key) id v other u (absorber v u) spent
absorbs key id v other u none s k at apart there = kept_joined key s.words s.views id v other u (absorber v u) k at apart there
    (λ n. let z : count_in n u.numbers ≡ 0 = ap (count_in n) none in omega arith) (λ o. count_append o v.hands u.hands)
    (λ o. chunk_loose o v.numbers u.numbers v.hands u.hands none) (λ o. chunk_cut o v.numbers u.numbers v.cut u.cut none) refl (joined_fact v u ∷ []) refl
    (λ t. ((histories_met k.log v u (k.numbers.stands id v at) (k.numbers.stands other u (sym (set_else s.views id other (absorber v u) apart) ∙ there)) t, tt), tt))
    (λ t ov ou. record { variables = ov.variables; pending = ov.pending; owed = ov.owed; fresh = ov.fresh })
