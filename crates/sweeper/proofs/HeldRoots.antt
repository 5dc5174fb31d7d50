-- The objects that words hold, one word after the other; and the ascending list of those that are held.
use Rattle.std.proofs.Common.{◌≡◌, ◌⊎◌, ◌+◌, ◌-◌, ◌<◌, ◌≤◌, ℕ, zero, suc, Bool, true, false, List, [], ◌∷◌, ◌++◌, length, slice_index, slice_set, IsTrue, refl, sym, ap, subst, ◌∙◌, inl, inr, arith, le-leb, get_or-set_same, get_or-set_other, length-set}
use Rattle.std.specs.Prelude.{nat_le, ◌&&◌}
use Rattle.std.proofs.lemmas.Bool.{cases_lt, cases_Bool, cond-true, cond-false, and_from, and_parts, leb-true}
use Rattle.std.proofs.lemmas.Bool.Decides.{eqb_tells}
use Rattle.std.specs.List.{Contains}
use Rattle.std.proofs.lemmas.List.{get_or_append_left, length_push}
use Rattle.std.proofs.Math.Seq.{get_or-append_seam}
use Rattle.std.proofs.lemmas.List.Elements.{Contains-get_or, Contains-append_left, Contains-push, Contains-push_cases, at_from_Contains}
use Rattle.sweeper.specs.Roots.{held_with, is_held, IsHeldMore, members_below}

-- nothing is in an empty list
not_in_nil : (o : ℕ) → Contains [] o → ⊥
not_in_nil o there = let k = at_from_Contains [] o there in omega (arith, k.1)

pub IsHeldMore-none : (held : List Bool) (holds : ℕ → Type 0) → ((o : ℕ) → holds o → ⊥) → IsHeldMore held held holds
IsHeldMore-none held holds none = record { long = refl; was = λ o is. is; more = λ o less there. absurd (none o there); only = λ o is. inl is }

module _ (held : List Bool) (word : ℕ) where
  -- one word
  pub IsHeldMore-with : IsHeldMore held (held_with held word) (λ o. word ≡ o + 1)
  IsHeldMore-with = by (cases_Bool (nat_le 1 word && nat_le word (length held)))
    where
      test : Bool
      test = nat_le 1 word && nat_le word (length held)

      by : (test ≡ true) ⊎ (test ≡ false) → IsHeldMore held (held_with held word) (λ o. word ≡ o + 1)
      by (inl is) =
          let parts = and_parts (nat_le 1 word) (nat_le word (length held)) is in
          let one : 1 ≤ word = leb-true 1 word parts.0 in
          let most : word ≤ length held = leb-true word (length held) parts.1 in
          subst (λ now. IsHeldMore held now (λ o. word ≡ o + 1)) (sym (cond-true test (slice_set held (word - 1) true) held is)) (record {
            long = length-set held (word - 1) true;
            was = λ o was. elim (eqb_tells o (word - 1)) [
              | inl e ↦ subst (λ k. IsTrue (is_held (slice_set held (word - 1) true) k)) (sym e.1) (get_or-set_same held (word - 1) true false (omega arith))
              | inr e ↦ get_or-set_other held (word - 1) o true false e.1 ∙ was
            ];
            more = λ o less there. subst (λ k. IsTrue (is_held (slice_set held (word - 1) true) k)) (omega (arith, there, one)) (get_or-set_same held (word - 1) true false (omega arith));
            only = λ o now. elim (eqb_tells o (word - 1)) [
              | inl e ↦ inr (omega (arith, e.1, one))
              | inr e ↦ inl (sym (get_or-set_other held (word - 1) o true false e.1) ∙ now)
            ];
          })
      by (inr is) =
          subst (λ now. IsHeldMore held now (λ o. word ≡ o + 1)) (sym (cond-false test (slice_set held (word - 1) true) held is)) (record {
            long = refl;
            was = λ o was. was;
            more = λ o less there. absurd (both o less there);
            only = λ o now. inl now;
          })
        where
          both : (o : ℕ) → o < length held → word ≡ o + 1 → ⊥
          both o less there =
              let yes : test ≡ true = and_from (nat_le 1 word) (nat_le word (length held)) (le-leb 1 word (omega (arith, there))) (le-leb word (length held) (omega (arith, there, less))) in
              absurd (cc (yes, is))

-- the words at the places below n, and one more
pub IsHeldMore-range : (old mid now : List Bool) (word : ℕ → ℕ) (n : ℕ) → now ≡ held_with mid (word n) →
    IsHeldMore old mid (λ o. (k : ℕ) × (k < n) × (word k ≡ o + 1)) → IsHeldMore old now (λ o. (k : ℕ) × (k < n + 1) × (word k ≡ o + 1))
IsHeldMore-range old mid now word n is h =
    let one = IsHeldMore-with mid (word n) in
    subst (λ now. IsHeldMore old now (λ o. (k : ℕ) × (k < n + 1) × (word k ≡ o + 1))) (sym is) (record {
      long = one.long ∙ h.long;
      was = λ o was. one.was o (h.was o was);
      more = λ o less there. elim (eqb_tells there.0 n) [
        | inl e ↦ one.more o (omega (arith, less, h.long)) (ap word (sym e.1) ∙ there.2)
        | inr e ↦ one.was o (h.more o less (there.0, omega (arith, there.1, e.1), there.2))
      ];
      only = λ o is. elim (one.only o is) [
        | inl was ↦ elim (h.only o was) [
          | inl old_is ↦ inl old_is
          | inr there ↦ inr (there.0, omega (arith, there.1), there.2)
        ]
        | inr here ↦ inr (n, omega arith, here)
      ];
    })

-- the ascending list of members
module _ (set : ℕ → Bool) where
  pub member-if : (n o : ℕ) → Contains (members_below set n) o → (o < n) × (set o ≡ true)
  member-if zero o there = absurd (not_in_nil o there)
  member-if (suc n) o there = by (cases_Bool (set n)) (member-if n o)
    where
      by : (set n ≡ true) ⊎ (set n ≡ false) → (Contains (members_below set n) o → (o < n) × (set o ≡ true)) → (o < suc n) × (set o ≡ true)
      by (inl is) inner = elim (Contains-push_cases (members_below set n) n o (subst (λ xs. Contains xs o) (cond-true (set n) (members_below set n ++ n ∷ []) (members_below set n) is) there)) [
        | inl before ↦ let k = inner before in (omega (arith, k.0), k.1)
        | inr e ↦ (omega (arith, e), ap set (sym e) ∙ is)
      ]
      by (inr is) inner = let k = inner (subst (λ xs. Contains xs o) (cond-false (set n) (members_below set n ++ n ∷ []) (members_below set n) is) there) in (omega (arith, k.0), k.1)

  pub member-of : (n o : ℕ) → o < n → set o ≡ true → Contains (members_below set n) o
  member-of zero o less is = absurd (omega (arith, less))
  member-of (suc n) o less is = elim (eqb_tells o n) [
    | inl e ↦
        subst (λ xs. Contains xs o) (sym (cond-true (set n) (members_below set n ++ n ∷ []) (members_below set n) (ap set (sym e.1) ∙ is)))
        (subst (λ k. Contains (members_below set n ++ n ∷ []) k) (sym e.1) (Contains-push (members_below set n) n))
    | inr e ↦ by (cases_Bool (set n)) (member-of n o (omega (arith, less, e.1)) is)
  ]
    where
      by : (set n ≡ true) ⊎ (set n ≡ false) → Contains (members_below set n) o → Contains (members_below set (suc n)) o
      by (inl here) there = subst (λ xs. Contains xs o) (sym (cond-true (set n) (members_below set n ++ n ∷ []) (members_below set n) here)) (Contains-append_left (members_below set n) (n ∷ []) o there)
      by (inr none) there = subst (λ xs. Contains xs o) (sym (cond-false (set n) (members_below set n ++ n ∷ []) (members_below set n) none)) there

  pub member-below : (n i : ℕ) → i < length (members_below set n) → slice_index (members_below set n) i < n
  member-below n i less = (member-if n (slice_index (members_below set n) i) (Contains-get_or (members_below set n) i 0 less)).0

  pub members-ascend : (n i j : ℕ) → i < j → j < length (members_below set n) → slice_index (members_below set n) i < slice_index (members_below set n) j
  members-ascend zero i j order less = absurd (none less)
    where
      none : j < 0 → ⊥
      none bad = omega (arith, bad)
  members-ascend (suc n) i j order less = by (cases_Bool (set n)) (members-ascend n i j order)
    where
      Ascends : List ℕ → Type 0
      Ascends xs = j < length xs → slice_index xs i < slice_index xs j

      by : (set n ≡ true) ⊎ (set n ≡ false) → Ascends (members_below set n) → slice_index (members_below set (suc n)) i < slice_index (members_below set (suc n)) j
      by (inr none) inner = subst Ascends (sym (cond-false (set n) (members_below set n ++ n ∷ []) (members_below set n) none)) inner less
      by (inl here) inner = subst Ascends (sym (cond-true (set n) (members_below set n ++ n ∷ []) (members_below set n) here)) more less
        where
          xs : List ℕ
          xs = members_below set n

          more : j < length (xs ++ n ∷ []) → slice_index (xs ++ n ∷ []) i < slice_index (xs ++ n ∷ []) j
          more inside = elim (cases_lt j (length xs)) [
            | inl below ↦
                let first = get_or_append_left xs (n ∷ []) 0 i (omega (arith, order, below)) in
                let second = get_or_append_left xs (n ∷ []) 0 j below in
                let before = inner below in
                omega (arith, first, second, before)
            | inr past ↦
                let last : j ≡ length xs = omega (arith, past, inside, length_push xs n) in
                let first = get_or_append_left xs (n ∷ []) 0 i (omega (arith, order, last)) in
                let second : slice_index (xs ++ n ∷ []) j ≡ n = ap (slice_index (xs ++ n ∷ [])) last ∙ get_or-append_seam xs n [] 0 in
                let small = member-below n i (omega (arith, order, last)) in
                omega (arith, first, second, small)
          ]
