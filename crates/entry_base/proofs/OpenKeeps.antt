-- The opening meets the rule.
use Rattle.std.proofs.Common.{◌≡◌, ◌≢◌, ℕ, zero, suc, ◌+◌, ◌*◌, ◌%◌, ◌<◌, ◌≤◌, ◌==◌, nat_lt, if◌then◌else◌, Bool, true, false, List, [], ◌∷◌, map, length, slice_index, ◌/◌, get_or, Option, Some, None, is_some, IfSome, IsSomeAnd, option_map, ◌^◌, refl, sym, ap, subst, ◌∙◌, inl, inr, arith, eq-eqb, ne_eqb}
use Rattle.std.proofs.lemmas.Bool.{cases_lt}
use Rattle.std.proofs.lemmas.List.{length-map}
use Rattle.std.proofs.lemmas.Option.{same_Some}
use Rattle.std.proofs.lemmas.Bool.Decides.{eqb_tells, nat_tests}
use mathlib.Core.Option.{some, some-injective, some-ne-none}
use lib.ListN.{get_elem?}
use Rattle.plain_table.specs.declared.events.Cell.{Cell}
use Rattle.plain_table.specs.declared.events.Space.TheVariants.{Trusted}
use Rattle.plain_table.specs.Rows.{IsTag}
use Rattle.plain_table.specs.Table.{Table, Sizes, limit_in, limit_of}
use Rattle.plain_table.specs.Cycle.{Cycle}
use Rattle.plain_table.specs.Words.{header_place, object_word, phase_word}
use Rattle.plain_table.specs.Shows.{IsPending, PendingCell}
use Rattle.word_laws.proofs.AreaReads.{AreaWordsTell-shown}
use Rattle.entry_base.specs.declared.view.Opening.{Opening}
use Rattle.entry_word.specs.declared.image.Pending.{Pending}
use Rattle.entry_word.specs.Image.{pending_of}
use Rattle.entry_base.specs.declared.view.View.{View}
use Rattle.entry_base.specs.Lists.{Each, count_in}
use Rattle.entry_base.specs.Hands.{loose}
use Rattle.entry_base.specs.Numbers.{Stands}
use Rattle.entry_base.specs.Owns.{Owns}
use Rattle.entry_base.specs.Openings.{pending_cell, IsBase, sizes_in, greys}
use Rattle.entry_base.specs.Views.{numbers_below, first_view}
use Rattle.entry_base.specs.Rule.{Kept}
use Rattle.word_laws.proofs.NearWords.{IsNear-refl}
use Rattle.entry_base.specs.Callers.{AreVariables, ArePublishable, IsPublishable}
use Rattle.entry_base.proofs.Sums.{count_append, each_append}
use Rattle.word_laws.specs.Small.{AreSmall}

abbrev pub bit : Bool → ℕ
bit b = if b then 1 else 0

pub count_numbers : (n m : ℕ) → count_in m (numbers_below n) ≡ bit (nat_lt m n)
count_numbers zero m = sym (ap bit (let t : nat_lt m 0 ≡ false = grind (arith, nat_tests) in t))
count_numbers (suc n) m = elim (eqb_tells m n) [
  | inl same ↦
      let r = count_numbers n m in
      let a : bit (m == n) ≡ 1 = ap bit (eq-eqb m n same.1) in
      let b : bit (nat_lt m n) ≡ 0 = ap bit (let t : nat_lt m n ≡ false = (let e = same.1 in grind (arith, nat_tests)) in t) in
      let c : bit (nat_lt m (suc n)) ≡ 1 = ap bit (let t : nat_lt m (suc n) ≡ true = (let e = same.1 in grind (arith, nat_tests)) in t) in
      omega arith
  | inr ne ↦
      let r = count_numbers n m in
      let a : bit (m == n) ≡ 0 = ap bit (ne_eqb m n ne.1) in
      let c : bit (nat_lt m (suc n)) ≡ bit (nat_lt m n) = ap bit (over m n ne.1) in
      omega arith
]
  where
    over : (m n : ℕ) → m ≢ n → nat_lt m (suc n) ≡ nat_lt m n
    over m n ne = elim (cases_lt m n) [
      | inl less ↦ (let t : nat_lt m (suc n) ≡ true = grind (arith, nat_tests) in t) ∙ sym (let t : nat_lt m n ≡ true = grind (arith, nat_tests) in t)
      | inr more ↦ (let t : nat_lt m (suc n) ≡ false = grind (arith, nat_tests) in t) ∙ sym (let t : nat_lt m n ≡ false = grind (arith, nat_tests) in t)
    ]

-- the objects in the first hands
abbrev grey_if : Bool → ℕ → ℕ
grey_if b x = if b then (if x == 1 then 1 else 0) else 0

one_grey : (words : List ℕ) (n o : ℕ) → count_in o (if slice_index words (header_place n) == 1 then n ∷ [] else []) ≡ grey_if (o == n) (slice_index words (header_place n))
one_grey words n o = go (slice_index words (header_place n) == 1) (o == n) refl
  where
    go : (a b : Bool) → (o == n) ≡ b → count_in o (if a then n ∷ [] else []) ≡ (if b then bit a else 0)
    go true true e = ap (λ (c : Bool). bit c + 0) e
    go true false e = ap (λ (c : Bool). bit c + 0) e
    go false true e = refl
    go false false e = refl

pub count_greys : (words : List ℕ) (n o : ℕ) → count_in o (greys words n) ≡ grey_if (nat_lt o n) (slice_index words (header_place o))
count_greys words zero o = sym (ap (λ x. grey_if x (slice_index words (header_place o))) (let t : nat_lt o 0 ≡ false = grind (arith, nat_tests) in t))
count_greys words (suc n) o =
    let r = count_greys words n o in
    let a = count_append o (greys words n) (if slice_index words (header_place n) == 1 then n ∷ [] else []) in
    let b = one_grey words n o in
    elim (eqb_tells o n) [
      | inl same ↦
          let c : grey_if (o == n) (slice_index words (header_place n)) ≡ grey_if true (slice_index words (header_place o)) = ap (λ x. grey_if x (slice_index words (header_place n))) (eq-eqb o n same.1) ∙ ap (λ x. grey_if true (slice_index words (header_place x))) (sym same.1) in
          let d : grey_if (nat_lt o n) (slice_index words (header_place o)) ≡ 0 = ap (λ x. grey_if x (slice_index words (header_place o))) (let t : nat_lt o n ≡ false = (let e = same.1 in grind (arith, nat_tests)) in t) in
          let f : grey_if (nat_lt o (suc n)) (slice_index words (header_place o)) ≡ grey_if true (slice_index words (header_place o)) = ap (λ x. grey_if x (slice_index words (header_place o))) (let t : nat_lt o (suc n) ≡ true = (let e = same.1 in grind (arith, nat_tests)) in t) in
          omega arith
      | inr ne ↦
          let c : grey_if (o == n) (slice_index words (header_place n)) ≡ 0 = ap (λ x. grey_if x (slice_index words (header_place n))) (ne_eqb o n ne.1) in
          let f : grey_if (nat_lt o (suc n)) (slice_index words (header_place o)) ≡ grey_if (nat_lt o n) (slice_index words (header_place o)) = ap (λ x. grey_if x (slice_index words (header_place o))) (over o n ne.1) in
          omega arith
    ]
  where
    over : (m n : ℕ) → m ≢ n → nat_lt m (suc n) ≡ nat_lt m n
    over m n ne = elim (cases_lt m n) [
      | inl less ↦ (let t : nat_lt m (suc n) ≡ true = grind (arith, nat_tests) in t) ∙ sym (let t : nat_lt m n ≡ true = grind (arith, nat_tests) in t)
      | inr more ↦ (let t : nat_lt m (suc n) ≡ false = grind (arith, nat_tests) in t) ∙ sym (let t : nat_lt m n ≡ false = grind (arith, nat_tests) in t)
    ]

pub pending_read : (xs : List (Option Pending)) (b : ℕ) (d : Option Pending) → get_or (map pending_cell xs) b (pending_cell d) ≡ pending_cell (get_or xs b d)
pending_read [] b d = refl
pending_read (x ∷ xs) zero d = refl
pending_read (x ∷ xs) (suc b) d = pending_read xs b d

pub opens : (key : Opening) → (b : Table) → IsBase key b → AreSmall (sizes_in key) → Kept key key.words (first_view key ∷ [])
opens key b base few = record {
  log = [];
  shown = key.words;
  base = b;
  is_base = base;
  few = few;
  near = IsNear-refl (sizes_in key) key.words;
  numbers = record {
    one = λ n le. let c = count_numbers 13 n in let t : bit (nat_lt n 13) ≡ 1 = ap bit (let t : nat_lt n 13 ≡ true = grind (arith, nat_tests) in t) in omega arith;
    none = λ n lt. let c = count_numbers 13 n in let t : bit (nat_lt n 13) ≡ 0 = ap bit (let t : nat_lt n 13 ≡ false = grind (arith, nat_tests) in t) in omega arith;
    events = tt;
    stands = one (Stands []) (record { rest = []; seen = refl; quiet = tt });
  };
  hands = λ o. let c = count_greys key.words (sizes_in key).objects o in let z : count_in o (first_view key).hands + 0 ≡ count_in o (first_view key).hands = omega arith in z ∙ c;
  cuts = λ o. let z : loose o (first_view key) ≡ 0 = refl in omega arith;
  states = λ s is. record {
    follows = tt;
    state = record {
      sizes = is.shows.sizes;
      phase = sym is.shows.words.phase;
      start = (AreaWordsTell-shown key.words s is.sound (subst AreSmall (sym is.shows.sizes) few) is.shows.words).start;
      sound = is.sound;
      shows = is.shows.words;
      covered = is.covered;
      owns = one (Owns s) (record {
        variables = λ n i has low less. is.shows.variables.1 n i low less;
        pending = λ n d has low. subst (IsPending s (s.ticket n)) (pending_read key.pending n d) (is.shows.pending.1 n (pending_cell d) low);
        owed = tt;
        fresh = tt;
      });
      known = one (λ u. Each _ u.facts) tt;
    };
  };
}
  where
    one : (P : View → Type 0) → P (first_view key) → (j : ℕ) (v : View) → get_elem? (first_view key ∷ []) j ≡ some v → P v
    one P first zero v e = subst P (some-injective _ _ e) first
    one P first (suc j) v e = absurd (some-ne-none v (sym e))

-- the phase word says whether a cycle is under way
pub phase_bit : (cycle : Option Cycle) (w : ℕ) → w ≡ phase_word cycle → w ≡ (if w == 1 then 1 else 0)
phase_bit None w is = subst (λ (n : ℕ). n ≡ (if n == 1 then 1 else 0)) (sym is) refl
phase_bit (Some c) w is = subst (λ (n : ℕ). n ≡ (if n == 1 then 1 else 0)) (sym is) refl

-- the first hands are within the limit, and so is what variables hold
pub each_grey : (words : List ℕ) (n most : ℕ) → n ≤ most → Each (λ o. o < most) (greys words n)
each_grey words zero most le = tt
each_grey words (suc n) most le = each_append _ (greys words n) (if slice_index words (header_place n) == 1 then n ∷ [] else []) (each_grey words n most (omega (arith, le))) (one (slice_index words (header_place n) == 1))
  where
    one : (b : Bool) → Each (λ o. o < most) (if b then n ∷ [] else [])
    one true = (omega (arith, le), tt)
    one false = tt

each_place : (P : ℕ → Type 0) (xs : List ℕ) → ((i : ℕ) → i < length xs → P (slice_index xs i)) → Each P xs
each_place P [] h = tt
each_place P (x ∷ xs) h = (h 0 (omega arith), each_place P xs (λ i low. h (suc i) (omega (arith, low))))

each_slot : (P : Option Pending → Type 0) (xs : List (Option Pending)) → ((i : ℕ) → i < length xs → P (get_or xs i None)) → Each P xs
each_slot P [] h = tt
each_slot P (x ∷ xs) h = (h 0 (omega arith), each_slot P xs (λ i low. h (suc i) (omega (arith, low))))

-- a cell that waits for its publishing stands in the table: below the limit, with a tag and a value of 48 bits
publishable : (key : Opening) (b : Table) → IsBase key b → (ticket : Option ℕ) (waits : Option Pending) → IsPending b ticket (pending_cell waits) → IfSome waits (IsPublishable key)
publishable key b base ticket None is = tt
publishable key b base None (Some p) is = absurd (cc)
publishable key b base (Some i) (Some p) is = go (b.cells Trusted i) refl is
  where
    go : (found : Option Cell) → b.cells Trusted i ≡ found → IsSomeAnd found (λ c. pending_cell (Some p) ≡ Some (record { index = i; tag = c.tag; value = c.value })) → IsPublishable key p
    go None at none = absurd none
    go (Some c) at same =
        let e = same_Some (pending_of p) (record { index = i; tag = c.tag; value = c.value }) same in
        let used = base.sound.used.cells Trusted i (ap (λ (o : Option Cell). is_some (option_map (λ (x : Cell). x.id) o)) at) in
        let below = base.sound.used.below Trusted i used.0 in
        let bounds : IsTag c.tag × (c.value < 2 ^ 48) = base.sound.cells.tags Trusted i c at in record {
          inside = subst (λ sizes. p.index < limit_in sizes Trusted) base.shows.sizes (subst (λ n. n < limit_of b Trusted) (sym (ap (λ (q : PendingCell). q.index) e)) below);
          tagged = (subst IsTag (sym (ap (λ (q : PendingCell). q.tag) e)) bounds.0, subst (λ n. n < 2 ^ 48) (sym (ap (λ (q : PendingCell). q.value) e)) bounds.1);
        }

pub first_pending : (key : Opening) (b : Table) → IsBase key b → ArePublishable key key.pending
first_pending key b base = each_slot (λ x. IfSome x (IsPublishable key)) key.pending (λ n low.
    publishable key b base (b.ticket n) (get_or key.pending n None) (subst (IsPending b (b.ticket n)) (pending_read key.pending n None)
    (base.shows.pending.1 n None (let eight : length (map pending_cell key.pending) ≡ 8 = base.shows.pending.0 in let same = length-map key.pending pending_cell in omega (arith, low, eight, same)))))

pub first_variables : (key : Opening) (b : Table) → IsBase key b → AreVariables key key.vars
first_variables key b base = each_place (λ x. x ≤ (sizes_in key).objects) key.vars (λ i low.
    let low_i : i < 128 = let l = base.shows.variables.0 in omega (arith, low, l) in
    let split : 16 * (i / 16) + i % 16 ≡ i = omega arith in
    let word : slice_index key.vars i ≡ object_word (b.vars (i / 16) (i % 16)) = ap (slice_index key.vars) (sym split) ∙ base.shows.variables.1 (i / 16) (i % 16) (omega (arith, low_i)) (omega arith) in
    subst (λ x. x ≤ (sizes_in key).objects) (sym word) (held_low (b.vars (i / 16) (i % 16)) refl))
  where
    held_low : {n m : ℕ} (o : Option ℕ) → b.vars n m ≡ o → object_word o ≤ (sizes_in key).objects
    held_low None e = omega arith
    held_low {n} {m} (Some q) e =
        let r = base.sound.objects.variables n m q e in
        let few = base.sound.objects.few in
        let same : b.sizes.objects ≡ (sizes_in key).objects = ap (λ (x : Sizes). x.objects) base.shows.sizes in
        omega (arith, r.2, few, same)
