-- One evacuation entry further down: what the plan at it changes.
use Rattle.std.proofs.Common.{◌≡◌, ◌≢◌, ◌⊎◌, ◌+◌, ◌-◌, ◌*◌, ◌/◌, ◌%◌, ◌^◌, ◌<◌, ◌≤◌, ◌==◌, ℕ, Bool, true, false, List, length, slice_index, slice_set, Option, Some, None, IsTrue, refl, sym, ap, subst, ◌∙◌, inl, inr, arith, get_or-set_same, get_or-set_other, length-set, eq-eqb, le-leb, lt-ltb}
use Rattle.std.specs.Prelude.{if◌then◌else◌, nat_le, nat_lt, ◌&&◌, is_some}
use Rattle.std.specs.Option.{option_map_or}
use Rattle.std.proofs.lemmas.Bool.{cases_Bool, cases_order, both_ways, and_left, and_from, and_parts, cond-true, cond-false, lt-leb, ltb-true, leb-true, false_from_ne_true}
use Rattle.std.proofs.lemmas.Bool.Decides.{eqb_tells}
use Rattle.std.proofs.lemmas.Option.{none-some, same_Some}
use Rattle.plain_table.specs.declared.events.Cell.{Cell}
use Rattle.plain_table.specs.declared.events.Space.TheVariants.{External}
use Rattle.plain_table.specs.declared.events.Field.TheVariants as field
use Rattle.plain_table.specs.Places.{object_of}
use Rattle.plain_table.specs.Index.{index_of, word_of}
use Rattle.plain_table.specs.Area.{count_below}
use Rattle.plain_table.specs.Cycle.{Cycle, moves_from}
use Rattle.plain_table.specs.Table.{Table, limit_of}
use Rattle.plain_table.specs.Finish.{target, rewritten, is_entry_for}
use Rattle.plain_table.specs.Words.{field_place, evacuation_word}
use Rattle.plain_table.specs.Shows.{SpaceShows, entry_at}
use Rattle.plain_table.specs.Sound.{IsSound, entries_in}
use Rattle.plain_table.proofs.Options.{IsSomeAnd-is, IsSome-value, is_some-option_map}
use Rattle.plain_table.proofs.CycleParts.{CycleSound-is}
use Rattle.plain_table.proofs.WordPlaces.{field_place-below}
use Rattle.plain_table.proofs.Rewrites.{rewritten-some, rewritten-none}
use Rattle.plain_table.proofs.FreeLists.{count_below-same, count_below-less}
use Rattle.table_laws.proofs.FinishMoves.{target-is, target-names, target-some}
use Rattle.sweeper.specs.declared.moves.Plan.{Plan}
use Rattle.sweeper.specs.declared.moves.Plan.TheVariants.{Skip, Move, Follow}
use Rattle.word_laws.specs.Kinds.{is_marked_word, is_evacuation_word, is_cell_word}
use Rattle.sweeper.specs.Moves.{is_forwarding_word, field_named, plan_by, plan_at, plan_of, applied, external_base, IsMovedAt}
use Rattle.word_laws.specs.Kinds.{IsKind}
use Rattle.word_laws.proofs.WordKinds.{evacuation-kind}
use Rattle.sweeper.specs.Small.{AreSmall}
use Rattle.word_laws.proofs.EntryKinds.{cell-kind-at, no_cell-kind-at}
use Rattle.plain_table.proofs.SpacesShown.{cell-below}

-- a word that is no evacuation entry's forwards nothing
no_forwarding : (w : ℕ) → is_evacuation_word w ≡ false → is_forwarding_word w ≡ false
no_forwarding w none =
    false_from_ne_true (is_forwarding_word w)
    (λ is. let parts = and_parts (nat_le (2 ^ 58) w) (nat_lt w (2 ^ 58 + 65536)) is in
    let high : w < 2 ^ 58 + 65536 = ltb-true w (2 ^ 58 + 65536) parts.1 in
    both_ways (is_evacuation_word w) none (and_from (nat_le (2 ^ 58) w) (nat_lt w (2 ^ 59)) parts.0 (lt-ltb w (2 ^ 59) (omega (arith, high)))))

pub moves_from-start : (c : Cycle) (start : ℕ) → moves_from c ≡ Some start → c.start ≡ Some start
moves_from-start c start is = by c.aborted is
  where
    by : (aborted : Bool) → (if aborted then None else c.start) ≡ Some start → c.start ≡ Some start
    by true eq = absurd (none-some start eq)
    by false eq = eq

module _ (s : Table) (c : Cycle) (h : IsSound s) (is : s.cycle ≡ Some c) (small : AreSmall s) (start : ℕ) (moves : moves_from c ≡ Some start) (old : List ℕ) (whole : external_base s + limit_of s External ≤ length old) where
  abbrev pub base : ℕ
  base = external_base s

  abbrev pub limit : ℕ
  limit = limit_of s External

  abbrev place_of : ℕ → ℕ
  place_of n = field_place (field.External n)

  abbrev named : ℕ → ℕ
  named n = index_of (s.words (field.External n))

  -- the field of an evacuation entry
  pub record IsEntry (e n : ℕ) : Type 0 where
    pub there : c.evac e ≡ Some n
    pub few : n / 2 < s.sizes.objects
    pub seen : c.visited n ≡ true
    pub below : e < limit

  pub IsEntry-is : (e n : ℕ) → c.evac e ≡ Some n → IsEntry e n
  IsEntry-is e n there =
      let sound = CycleSound-is s c h is in
      let area = sound.area.entries e n there in
      let made : object_of (field.External n) < s.count = sound.traced.made (object_of (field.External n)) (inl area.1) in
      let used = h.used.entries e (ap is_some (ap (λ o. entries_in o e) is ∙ there)) in
      record { there = there; few = omega (arith, made, h.objects.few); seen = area.2; below = h.used.below External e used.0 }

  pub target-start : (i d : ℕ) → target c s.words i ≡ Some d → (d < start) × (start ≤ i)
  target-start i d to =
      let t = target-is c s.words i d to in
      let same : t.start ≡ start = same_Some t.start start (sym t.moves ∙ moves) in
      (omega (arith, t.below, same), omega (arith, t.above, same))

  weaker : (now : List ℕ) (m e n : ℕ) → e ≤ m →
      (slice_index now (place_of n) ≡ s.words (field.External n)) ⊎ ((t : ℕ) × (m ≤ t) × (target c s.words (named n) ≡ Some t) × IsTrue (c.visited n) × (slice_index now (place_of n) ≡ word_of t)) →
      (slice_index now (place_of n) ≡ s.words (field.External n)) ⊎ ((t : ℕ) × (e ≤ t) × (target c s.words (named n) ≡ Some t) × IsTrue (c.visited n) × (slice_index now (place_of n) ≡ word_of t))
  weaker now m e n less (inl was) = inl was
  weaker now m e n less (inr r) = inr (r.0, omega (arith, less, r.1), r.2, r.3, r.4)

  module _ (now : List ℕ) (m e : ℕ) (next : m ≡ e + 1) (below : e < start) (before : IsMovedAt s c start old now m) where
    -- nothing moves to e, and its field stays
    skip-step : ((i : ℕ) → target c s.words i ≡ Some e → ⊥) → ((n : ℕ) → c.evac e ≡ Some n → slice_index now (place_of n) ≡ rewritten c s.words (field.External n)) →
        IsMovedAt s c start old now e
    skip-step none stays = record {
      long = before.long;
      lower = λ d less. before.lower d (omega (arith, less, next));
      filled = λ d i from to. elim (eqb_tells d e) [
        | inl same ↦ absurd (none i (to ∙ ap Some same.1))
        | inr apart ↦ before.filled d i (omega (arith, from, next, apart.1)) to
      ];
      left = λ d from to nothing. elim (eqb_tells d e) [
        | inl same ↦ before.lower d (omega (arith, same.1, next))
        | inr apart ↦ before.left d (omega (arith, from, next, apart.1)) to nothing
      ];
      forwarded = λ i d from to. elim (eqb_tells d e) [
        | inl same ↦ absurd (none i (to ∙ ap Some same.1))
        | inr apart ↦ before.forwarded i d (omega (arith, from, next, apart.1)) to
      ];
      standing = λ i from to nothing. before.standing i from to (λ d more to_d. nothing d (omega (arith, more, next)) to_d);
      followed = λ d n from there. elim (eqb_tells d e) [
        | inl same ↦ stays n (ap c.evac (sym same.1) ∙ there)
        | inr apart ↦ before.followed d n (omega (arith, from, next, apart.1)) there
      ];
      fields = λ n few. weaker now m e n (omega (arith, next)) (before.fields n few);
      rest = before.rest;
      many = before.many;
    }

    -- the field of the entry follows a cell that has moved already
    follow-step : (n t : ℕ) → IsEntry e n → target c s.words (named n) ≡ Some t → e < t → IsMovedAt s c start old (slice_set now (place_of n) (word_of t)) e
    follow-step n t entry to more = record {
      long = length-set now (place_of n) (word_of t) ∙ before.long;
      lower = λ d less. at d ∙ before.lower d (omega (arith, less, next));
      filled = λ d i from to_d. elim (eqb_tells d e) [
        | inl same ↦ absurd (none i (to_d ∙ ap Some same.1))
        | inr apart ↦ at d ∙ before.filled d i (omega (arith, from, next, apart.1)) to_d
      ];
      left = λ d from below_d nothing. elim (eqb_tells d e) [
        | inl same ↦ at d ∙ before.lower d (omega (arith, same.1, next))
        | inr apart ↦ at d ∙ before.left d (omega (arith, from, next, apart.1)) below_d nothing
      ];
      forwarded = λ i d from to_d. elim (eqb_tells d e) [
        | inl same ↦ absurd (none i (to_d ∙ ap Some same.1))
        | inr apart ↦ at i ∙ before.forwarded i d (omega (arith, from, next, apart.1)) to_d
      ];
      standing = λ i from below_i nothing. at i ∙ before.standing i from below_i (λ d less to_d. nothing d (omega (arith, less, next)) to_d);
      followed = λ d k from there. elim (eqb_tells k n) [
        | inl same ↦
            subst (λ k. slice_index (slice_set now (place_of n) (word_of t)) (place_of k) ≡ rewritten c s.words (field.External k)) (sym same.1)
            (here ∙ sym (rewritten-some c s.words n entry.seen t to))
        | inr apart ↦ elim (eqb_tells d e) [
          | inl same ↦ absurd (apart.1 (same_Some k n (sym there ∙ ap c.evac same.1 ∙ entry.there)))
          | inr off ↦ field_at k apart.1 ∙ before.followed d k (omega (arith, from, next, off.1)) there
        ]
      ];
      fields = λ k few. elim (eqb_tells k n) [
        | inl same ↦ fields_here k same.1
        | inr apart ↦ fields_there k apart.1 (weaker now m e k (omega (arith, next)) (before.fields k few))
      ];
      rest = λ place out no_field. other place (no_field n entry.few) ∙ before.rest place out no_field;
      many = count_below-same (λ k. is_cell_word (slice_index now (base + k))) (λ k. is_cell_word (slice_index (slice_set now (place_of n) (word_of t)) (base + k))) limit (λ k _. ap is_cell_word (at k)) ∙ before.many;
    }
      where
        other : (place : ℕ) → place ≢ place_of n → slice_index (slice_set now (place_of n) (word_of t)) place ≡ slice_index now place
        other place apart = get_or-set_other now (place_of n) place (word_of t) 0 apart

        low : place_of n < base
        low = field_place-below (field.External n) s.sizes.objects entry.few

        at : (k : ℕ) → slice_index (slice_set now (place_of n) (word_of t)) (base + k) ≡ slice_index now (base + k)
        at k = other (base + k) (λ eq. omega (arith, eq, low))

        field_at : (k : ℕ) → (k ≡ n → ⊥) → slice_index (slice_set now (place_of n) (word_of t)) (place_of k) ≡ slice_index now (place_of k)
        field_at k apart = other (place_of k) (λ eq. apart (omega (arith, eq)))

        here : slice_index (slice_set now (place_of n) (word_of t)) (place_of n) ≡ word_of t
        here = get_or-set_same now (place_of n) (word_of t) 0 (omega (arith, low, whole, before.long))

        none : (i : ℕ) → target c s.words i ≡ Some e → ⊥
        none i to_e =
            let names : i ≡ named n = target-names c s.words i e n entry.there to_e in
            let same : t ≡ e = same_Some t e (sym to ∙ ap (target c s.words) (sym names) ∙ to_e) in
            omega (arith, same, more)

        fields_here : (k : ℕ) → k ≡ n →
            (slice_index (slice_set now (place_of n) (word_of t)) (place_of k) ≡ s.words (field.External k)) ⊎ ((u : ℕ) × (e ≤ u) × (target c s.words (named k) ≡ Some u) × IsTrue (c.visited k) × (slice_index (slice_set now (place_of n) (word_of t)) (place_of k) ≡ word_of u))
        fields_here k same =
            inr (t, omega (arith, more), ap (λ j. target c s.words (named j)) same ∙ to, ap c.visited same ∙ entry.seen, ap (λ j. slice_index (slice_set now (place_of n) (word_of t)) (place_of j)) same ∙ here)

        fields_there : (k : ℕ) → (k ≡ n → ⊥) →
            (slice_index now (place_of k) ≡ s.words (field.External k)) ⊎ ((u : ℕ) × (e ≤ u) × (target c s.words (named k) ≡ Some u) × IsTrue (c.visited k) × (slice_index now (place_of k) ≡ word_of u)) →
            (slice_index (slice_set now (place_of n) (word_of t)) (place_of k) ≡ s.words (field.External k)) ⊎ ((u : ℕ) × (e ≤ u) × (target c s.words (named k) ≡ Some u) × IsTrue (c.visited k) × (slice_index (slice_set now (place_of n) (word_of t)) (place_of k) ≡ word_of u))
        fields_there k apart (inl was) = inl (field_at k apart ∙ was)
        fields_there k apart (inr r) = inr (r.0, r.1, r.2, r.3, field_at k apart ∙ r.4)

    -- the cell moves to the entry, and the field follows
    abbrev moved_to : ℕ → ℕ → List ℕ
    moved_to n i = slice_set (slice_set (slice_set now (base + e) (slice_index now (base + i))) (base + i) (evacuation_word e)) (place_of n) (word_of e)

    move-step : (n i : ℕ) → IsEntry e n → i ≡ named n → target c s.words i ≡ Some e → i < limit →
        is_cell_word (slice_index now (base + i)) ≡ true → is_cell_word (slice_index now (base + e)) ≡ false → IsMovedAt s c start old (moved_to n i) e
    move-step n i entry names to inside cell no_cell = record {
      long = length-set mid_2 (place_of n) (word_of e) ∙ length-set mid_1 (base + i) (evacuation_word e) ∙ length-set now (base + e) (slice_index now (base + i)) ∙ before.long;
      lower = λ d less. entry_other d (λ eq. omega (arith, eq, less)) (λ eq. omega (arith, eq, less, below, above)) ∙ before.lower d (omega (arith, less, next));
      filled = filled;
      left = λ d from below_d nothing. elim (eqb_tells d e) [
        | inl same ↦ absurd (nothing i (to ∙ ap Some (sym same.1)))
        | inr apart ↦ entry_other d apart.1 (λ eq. omega (arith, eq, below_d, above)) ∙ before.left d (omega (arith, from, next, apart.1)) below_d nothing
      ];
      forwarded = forwarded;
      standing = λ j from below_j nothing. elim (eqb_tells j i) [
        | inl same ↦ absurd (nothing e (omega arith) (ap (target c s.words) same.1 ∙ to))
        | inr apart ↦ entry_other j (λ eq. omega (arith, eq, from, below)) apart.1 ∙ before.standing j from below_j (λ d less to_d. nothing d (omega (arith, less, next)) to_d)
      ];
      followed = λ d k from there. elim (eqb_tells k n) [
        | inl same ↦
            ap (λ k. slice_index (moved_to n i) (place_of k)) same.1 ∙ at_field
            ∙ sym (rewritten-some c s.words n entry.seen e (ap (target c s.words) (sym names) ∙ to))
            ∙ ap (λ k. rewritten c s.words (field.External k)) (sym same.1)
        | inr apart ↦ elim (eqb_tells d e) [
          | inl same ↦ absurd (apart.1 (same_Some k n (sym there ∙ ap c.evac same.1 ∙ entry.there)))
          | inr off ↦ field_other k apart.1 (few_of d k there) ∙ before.followed d k (omega (arith, from, next, off.1)) there
        ]
      ];
      fields = λ k few. elim (eqb_tells k n) [
        | inl same ↦ fields_here k same.1
        | inr apart ↦ fields_there k few apart.1 (weaker now m e k (omega (arith, next)) (before.fields k few))
      ];
      rest = λ place out no_field. other place (no_field n entry.few) (λ eq. outside place out e entry.below eq) (λ eq. outside place out i inside eq) ∙ before.rest place out no_field;
      many = counts;
    }
      where
        mid_1 : List ℕ
        mid_1 = slice_set now (base + e) (slice_index now (base + i))

        mid_2 : List ℕ
        mid_2 = slice_set mid_1 (base + i) (evacuation_word e)

        above : start ≤ i
        above = (target-start i e to).1

        low : place_of n < base
        low = field_place-below (field.External n) s.sizes.objects entry.few

        long_1 : length mid_1 ≡ length old
        long_1 = length-set now (base + e) (slice_index now (base + i)) ∙ before.long

        long_2 : length mid_2 ≡ length old
        long_2 = length-set mid_1 (base + i) (evacuation_word e) ∙ long_1

        other : (place : ℕ) → place ≢ place_of n → place ≢ base + e → place ≢ base + i → slice_index (moved_to n i) place ≡ slice_index now place
        other place off_field off_e off_i =
            get_or-set_other mid_2 (place_of n) place (word_of e) 0 off_field
            ∙ get_or-set_other mid_1 (base + i) place (evacuation_word e) 0 off_i
            ∙ get_or-set_other now (base + e) place (slice_index now (base + i)) 0 off_e

        at_field : slice_index (moved_to n i) (place_of n) ≡ word_of e
        at_field = get_or-set_same mid_2 (place_of n) (word_of e) 0 (omega (arith, low, whole, long_2))

        at_index : slice_index (moved_to n i) (base + i) ≡ evacuation_word e
        at_index =
            get_or-set_other mid_2 (place_of n) (base + i) (word_of e) 0 (λ eq. omega (arith, eq, low))
            ∙ get_or-set_same mid_1 (base + i) (evacuation_word e) 0 (omega (arith, inside, whole, long_1))

        at_entry : slice_index (moved_to n i) (base + e) ≡ slice_index now (base + i)
        at_entry =
            get_or-set_other mid_2 (place_of n) (base + e) (word_of e) 0 (λ eq. omega (arith, eq, low))
            ∙ get_or-set_other mid_1 (base + i) (base + e) (evacuation_word e) 0 (λ eq. omega (arith, eq, below, above))
            ∙ get_or-set_same now (base + e) (slice_index now (base + i)) 0 (omega (arith, entry.below, whole, before.long))

        entry_other : (k : ℕ) → (k ≡ e → ⊥) → (k ≡ i → ⊥) → slice_index (moved_to n i) (base + k) ≡ slice_index now (base + k)
        entry_other k off_e off_i = other (base + k) (λ eq. omega (arith, eq, low)) (λ eq. off_e (omega (arith, eq))) (λ eq. off_i (omega (arith, eq)))

        field_other : (k : ℕ) → (k ≡ n → ⊥) → k / 2 < s.sizes.objects → slice_index (moved_to n i) (place_of k) ≡ slice_index now (place_of k)
        field_other k apart few =
            let low_k = field_place-below (field.External k) s.sizes.objects few in
            other (place_of k) (λ eq. apart (omega (arith, eq))) (λ eq. omega (arith, eq, low_k)) (λ eq. omega (arith, eq, low_k))

        few_of : (d k : ℕ) → c.evac d ≡ Some k → k / 2 < s.sizes.objects
        few_of d k there = (IsEntry-is d k there).few

        outside : (place : ℕ) → (place < base) ⊎ (base + limit ≤ place) → (k : ℕ) → k < limit → place ≡ base + k → ⊥
        outside place out k few eq = elim out [ inl less ↦ omega (arith, less, eq) | inr more ↦ omega (arith, more, eq, few) ]

        same_source : (j : ℕ) → target c s.words j ≡ Some e → j ≡ i
        same_source j to_e = target-names c s.words j e n entry.there to_e ∙ sym names

        filled : (d j : ℕ) → e ≤ d → target c s.words j ≡ Some d → slice_index (moved_to n i) (base + d) ≡ slice_index old (base + j)
        filled d j from to_d = elim (eqb_tells d e) [
          | inl same ↦
              let source : j ≡ i = same_source j (to_d ∙ ap Some same.1) in
              ap (λ k. slice_index (moved_to n i) (base + k)) same.1 ∙ at_entry
              ∙ before.standing i above inside (λ f more to_f. absurd (omega (arith, more, next, same_Some f e (sym to_f ∙ to))))
              ∙ ap (λ k. slice_index old (base + k)) (sym source)
          | inr apart ↦
              let to_below = (target-start j d to_d).0 in
              entry_other d apart.1 (λ eq. omega (arith, eq, to_below, above)) ∙ before.filled d j (omega (arith, from, next, apart.1)) to_d
        ]

        forwarded : (j d : ℕ) → e ≤ d → target c s.words j ≡ Some d → slice_index (moved_to n i) (base + j) ≡ evacuation_word d
        forwarded j d from to_d = elim (eqb_tells d e) [
          | inl same ↦
              let source : j ≡ i = same_source j (to_d ∙ ap Some same.1) in
              ap (λ k. slice_index (moved_to n i) (base + k)) source ∙ at_index ∙ ap evacuation_word (sym same.1)
          | inr apart ↦
              let from_start = (target-start j d to_d).1 in
              entry_other j (λ eq. omega (arith, eq, from_start, below)) (λ eq. apart.1 (same_Some d e (sym to_d ∙ ap (target c s.words) eq ∙ to)))
              ∙ before.forwarded j d (omega (arith, from, next, apart.1)) to_d
        ]

        fields_here : (k : ℕ) → k ≡ n →
            (slice_index (moved_to n i) (place_of k) ≡ s.words (field.External k)) ⊎ ((u : ℕ) × (e ≤ u) × (target c s.words (named k) ≡ Some u) × IsTrue (c.visited k) × (slice_index (moved_to n i) (place_of k) ≡ word_of u))
        fields_here k same =
            inr (e, omega arith, ap (λ j. target c s.words (named j)) same ∙ ap (target c s.words) (sym names) ∙ to, ap c.visited same ∙ entry.seen, ap (λ j. slice_index (moved_to n i) (place_of j)) same ∙ at_field)

        fields_there : (k : ℕ) → k / 2 < s.sizes.objects → (k ≡ n → ⊥) →
            (slice_index now (place_of k) ≡ s.words (field.External k)) ⊎ ((u : ℕ) × (e ≤ u) × (target c s.words (named k) ≡ Some u) × IsTrue (c.visited k) × (slice_index now (place_of k) ≡ word_of u)) →
            (slice_index (moved_to n i) (place_of k) ≡ s.words (field.External k)) ⊎ ((u : ℕ) × (e ≤ u) × (target c s.words (named k) ≡ Some u) × IsTrue (c.visited k) × (slice_index (moved_to n i) (place_of k) ≡ word_of u))
        fields_there k few apart (inl was) = inl (field_other k apart few ∙ was)
        fields_there k few apart (inr r) = inr (r.0, r.1, r.2, r.3, field_other k apart few ∙ r.4)

        -- the cell is counted at its new index in place of the old one
        was_set : ℕ → Bool
        was_set k = is_cell_word (slice_index now (base + k))

        now_set : ℕ → Bool
        now_set k = is_cell_word (slice_index (moved_to n i) (base + k))

        mid_set : ℕ → Bool
        mid_set k = if k == i then false else was_set k

        gone : mid_set i ≡ false
        gone = cond-true (i == i) false (was_set i) (eq-eqb i i refl)

        kept : (k : ℕ) → (k ≡ i → ⊥) → mid_set k ≡ was_set k
        kept k apart = elim (eqb_tells k i) [ inl same ↦ absurd (apart same.1) | inr off ↦ cond-false (k == i) false (was_set k) off.0 ]

        now_gone : now_set i ≡ false
        now_gone = ap is_cell_word at_index ∙ (evacuation-kind e (omega (arith, entry.below, small.few External))).is_cell

        mid_now : (k : ℕ) → e ≢ k → mid_set k ≡ now_set k
        mid_now k apart = elim (eqb_tells k i) [
          | inl same ↦ ap mid_set same.1 ∙ gone ∙ sym now_gone ∙ ap now_set (sym same.1)
          | inr off ↦ kept k off.1 ∙ sym (ap is_cell_word (entry_other k (λ eq. apart (sym eq)) off.1))
        ]

        less_one : count_below was_set limit ≡ count_below mid_set limit + 1
        less_one = count_below-less was_set mid_set limit i inside cell gone (λ k apart. kept k (λ eq. apart (sym eq)))

        more_one : count_below now_set limit ≡ count_below mid_set limit + 1
        more_one = count_below-less now_set mid_set limit e entry.below (ap is_cell_word at_entry ∙ cell) (kept e (λ eq. omega (arith, eq, below, above)) ∙ no_cell) mid_now

        counts : count_below now_set limit ≡ count_below (λ k. is_cell_word (slice_index old (base + k))) limit
        counts =
            let same : count_below now_set limit ≡ count_below was_set limit = omega (arith, less_one, more_one) in
            same ∙ before.many

    -- the plan at the entry
    module _ (freelist committed : ℕ) (shows : SpaceShows s External (λ i. slice_index old (base + i)) freelist committed) where
      abbrev next_words : List ℕ
      next_words = applied now base e (plan_of now base limit start e)

      by_plan : (plan : Plan) → plan_of now base limit start e ≡ plan → IsMovedAt s c start old (applied now base e plan) e → IsMovedAt s c start old next_words e
      by_plan plan eq step = subst (λ p. IsMovedAt s c start old (applied now base e p) e) (sym eq) step

      word_here : slice_index now (base + e) ≡ slice_index old (base + e)
      word_here = before.lower e (omega (arith, next))

      not_moved : (none : c.evac e ≡ None) → (i : ℕ) → target c s.words i ≡ Some e → ⊥
      not_moved none i to = none-some (target-is c s.words i e to).number (sym none ∙ (target-is c s.words i e to).entry)

      no_entry-step : e < limit → c.evac e ≡ None → IsMovedAt s c start old next_words e
      no_entry-step inside none =
          by_plan Skip
          (cond-false (is_evacuation_word (slice_index now (base + e))) (plan_at now base limit start (field_named (slice_index now (base + e))) (slice_index now (field_named (slice_index now (base + e))) / 65536)) Skip
          (ap is_evacuation_word word_here ∙ kind (s.cells External e) refl))
          (skip-step (not_moved none) (λ n there. absurd (none-some n (sym none ∙ there))))
        where
          no_entry : entry_at s External e ≡ None
          no_entry = ap (λ o. entries_in o e) is ∙ none

          kind : (found : Option Cell) → s.cells External e ≡ found → is_evacuation_word (slice_index old (base + e)) ≡ false
          kind None stands = (no_cell-kind-at s c h is small External (λ i. slice_index old (base + i)) freelist committed shows e inside stands).is_evacuation ∙ ap is_some no_entry
          kind (Some cell) stands = (cell-kind-at s c h is small External (λ i. slice_index old (base + i)) freelist committed shows e cell stands).is_evacuation

      entry-step : (n : ℕ) → IsEntry e n → IsMovedAt s c start old next_words e
      entry-step n entry = elim (before.fields n entry.few) [
        | inl was ↦ in_area was (cases_Bool (nat_le start (named n) && nat_lt (named n) limit))
        | inr r ↦
            let below_start = (target-start (named n) r.0 r.2).0 in
            let value : slice_index now (place_of n) / 65536 ≡ r.0 = ap (λ w. w / 65536) r.4 ∙ index_of-word_of r.0 in
            by_plan Skip
            (planned (slice_index now (place_of n)) refl
            ∙ cond-false (nat_le start (slice_index now (place_of n) / 65536) && nat_lt (slice_index now (place_of n) / 65536) limit)
            (plan_by (slice_index now (base + slice_index now (place_of n) / 65536)) (place_of n) (slice_index now (place_of n) / 65536)) Skip
            (and_left (nat_le start (slice_index now (place_of n) / 65536)) (nat_lt (slice_index now (place_of n) / 65536) limit) (lt-leb start (slice_index now (place_of n) / 65536) (omega (arith, value, below_start)))))
            (skip-step
            (λ i to_e. let names = target-names c s.words i e n entry.there to_e in
            let same : r.0 ≡ e = same_Some r.0 e (sym r.2 ∙ ap (target c s.words) (sym names) ∙ to_e) in
            omega (arith, same, r.1, next))
            (λ k there. let same : n ≡ k = same_Some n k (sym entry.there ∙ there) in
            subst (λ k. slice_index now (place_of k) ≡ rewritten c s.words (field.External k)) same (r.4 ∙ sym (rewritten-some c s.words n entry.seen r.0 r.2))))
      ]
        where
          index_of-word_of : (t : ℕ) → 65536 * t / 65536 ≡ t
          index_of-word_of t = omega arith

          word_is : slice_index now (base + e) ≡ evacuation_word n
          word_is = word_here ∙ shows.evacuated e n (ap (λ o. entries_in o e) is ∙ entry.there)

          place_is : field_named (slice_index now (base + e)) ≡ place_of n
          place_is =
              let number : slice_index now (base + e) - 2 ^ 58 ≡ n = omega (arith, word_is) in
              ap (λ k. 37 + 8 * (k / 2) + k % 2) number

          evacuates : is_evacuation_word (slice_index now (base + e)) ≡ true
          evacuates = ap is_evacuation_word word_is ∙ (evacuation-kind n (omega (arith, entry.few, small.objects))).is_evacuation

          -- the plan, by the word of the field
          planned : (w : ℕ) → slice_index now (place_of n) ≡ w → plan_of now base limit start e ≡ plan_at now base limit start (place_of n) (w / 65536)
          planned w value =
              cond-true (is_evacuation_word (slice_index now (base + e))) (plan_at now base limit start (field_named (slice_index now (base + e))) (slice_index now (field_named (slice_index now (base + e))) / 65536)) Skip evacuates
              ∙ ap (λ place. plan_at now base limit start place (slice_index now place / 65536)) place_is
              ∙ ap (λ w. plan_at now base limit start (place_of n) (w / 65536)) value

          i : ℕ
          i = named n

          stays_as : slice_index now (place_of n) ≡ s.words (field.External n) → target c s.words (named n) ≡ None → (k : ℕ) → c.evac e ≡ Some k → slice_index now (place_of k) ≡ rewritten c s.words (field.External k)
          stays_as was none k there =
              let same : n ≡ k = same_Some n k (sym entry.there ∙ there) in
              subst (λ k. slice_index now (place_of k) ≡ rewritten c s.words (field.External k)) same (was ∙ sym (rewritten-none c s.words n entry.seen none))

          nothing_moves : target c s.words (named n) ≡ None → (j : ℕ) → target c s.words j ≡ Some e → ⊥
          nothing_moves none j to_e = none-some e (sym none ∙ ap (target c s.words) (sym (target-names c s.words j e n entry.there to_e)) ∙ to_e)

          cell_of : (d : ℕ) → target c s.words (named n) ≡ Some d → (cell : Cell) × (s.cells External (named n) ≡ Some cell)
          cell_of d to =
              let t = target-is c s.words (named n) d to in
              IsSome-value (s.cells External (named n)) (sym (is_some-option_map (λ (cell : Cell). cell.id) (s.cells External (named n))) ∙ (CycleSound-is s c h is).marks.cells External (named n) t.marked)

          in_area : slice_index now (place_of n) ≡ s.words (field.External n) → ((nat_le start (named n) && nat_lt (named n) limit) ≡ true) ⊎ ((nat_le start (named n) && nat_lt (named n) limit) ≡ false) → IsMovedAt s c start old next_words e
          in_area was (inr out) =
              by_plan Skip
              (planned (s.words (field.External n)) was ∙ cond-false (nat_le start (named n) && nat_lt (named n) limit) (plan_by (slice_index now (base + named n)) (place_of n) (named n)) Skip out)
              (skip-step (nothing_moves none) (stays_as was none))
            where
              by : (found : Option ℕ) → target c s.words (named n) ≡ found → target c s.words (named n) ≡ None
              by None eq = eq
              by (Some d) eq =
                  let cell = cell_of d eq in
                  absurd (both_ways (nat_le start (named n) && nat_lt (named n) limit) out
                  (and_from (nat_le start (named n)) (nat_lt (named n) limit) (le-leb start (named n) (target-start (named n) d eq).1)
                  (lt-ltb (named n) limit (cell-below s External (named n) h (ap is_some cell.1)))))

              none : target c s.words (named n) ≡ None
              none = by (target c s.words (named n)) refl
          in_area was (inl within) = by (target c s.words (named n)) refl
            where
              parts : (nat_le start (named n) ≡ true) × (nat_lt (named n) limit ≡ true)
              parts = and_parts (nat_le start (named n)) (nat_lt (named n) limit) within

              from : start ≤ named n
              from = leb-true start (named n) parts.0

              inside : named n < limit
              inside = ltb-true (named n) limit parts.1

              at_plan : plan_of now base limit start e ≡ plan_by (slice_index now (base + named n)) (place_of n) (named n)
              at_plan = planned (s.words (field.External n)) was ∙ cond-true (nat_le start (named n) && nat_lt (named n) limit) (plan_by (slice_index now (base + named n)) (place_of n) (named n)) Skip within

              by : (found : Option ℕ) → target c s.words (named n) ≡ found → IsMovedAt s c start old next_words e
              by None none =
                  by_plan Skip
                  (at_plan
                  ∙ cond-false (is_marked_word (slice_index now (base + named n))) (Move (place_of n) (named n)) (if is_forwarding_word (slice_index now (base + named n)) then Follow (place_of n) (slice_index now (base + named n) - 2 ^ 58) else Skip) (ap is_marked_word stands ∙ still.0)
                  ∙ cond-false (is_forwarding_word (slice_index now (base + named n))) (Follow (place_of n) (slice_index now (base + named n) - 2 ^ 58)) Skip (ap is_forwarding_word stands ∙ no_forwarding (slice_index old (base + named n)) still.1))
                  (skip-step (nothing_moves none) (stays_as was none))
                where
                  stands : slice_index now (base + named n) ≡ slice_index old (base + named n)
                  stands = before.standing (named n) from inside (λ d more to. none-some d (sym none ∙ to))

                  no_entry : (found : Option ℕ) → c.evac (named n) ≡ found → entry_at s External (named n) ≡ None
                  no_entry None there = ap (λ o. entries_in o (named n)) is ∙ there
                  no_entry (Some k) there =
                      let area = (CycleSound-is s c h is).area.entries (named n) k there in
                      let under : named n < start = IsSomeAnd-is c.start (λ first. named n < first) start start_is area.0 in
                      absurd (omega (arith, under, from))
                    where
                      start_is : c.start ≡ Some start
                      start_is = moves_from-start c start moves

                  kinds : (found : Option Cell) → s.cells External (named n) ≡ found → (is_marked_word (slice_index old (base + named n)) ≡ false) × (is_evacuation_word (slice_index old (base + named n)) ≡ false)
                  kinds None stands_not =
                      let kind = no_cell-kind-at s c h is small External (λ i. slice_index old (base + i)) freelist committed shows (named n) inside stands_not in
                      (kind.is_marked, kind.is_evacuation ∙ ap is_some (no_entry (c.evac (named n)) refl))
                  kinds (Some cell) stands_there =
                      let kind = cell-kind-at s c h is small External (λ i. slice_index old (base + i)) freelist committed shows (named n) cell stands_there in
                      (kind.is_marked ∙ unmarked, kind.is_evacuation)
                    where
                      unmarked : c.marks External (named n) ≡ false
                      unmarked =
                          false_from_ne_true (c.marks External (named n))
                          (λ marked. both_ways (is_some (target c s.words (named n))) (ap is_some none) (target-some c s.words start n (named n) e moves from marked below entry.there refl))

                  still : (is_marked_word (slice_index old (base + named n)) ≡ false) × (is_evacuation_word (slice_index old (base + named n)) ≡ false)
                  still = kinds (s.cells External (named n)) refl
              by (Some d) to = elim (cases_order d e) [
                | inl same ↦ moves_here (to ∙ ap Some same)
                | inr other ↦ elim other [
                  | inl less ↦ absurd (both_ways (is_entry_for c.evac s.words (named n) e) ((target-is c s.words (named n) d to).greatest e less (omega (arith, below, start_same d to))) member)
                  | inr more ↦ follows more
                ]
              ]
                where
                  start_same : (d : ℕ) (to : target c s.words (named n) ≡ Some d) → start ≡ (target-is c s.words (named n) d to).start
                  start_same d to = same_Some start (target-is c s.words (named n) d to).start (sym moves ∙ (target-is c s.words (named n) d to).moves)

                  member : is_entry_for c.evac s.words (named n) e ≡ true
                  member = ap (λ (o : Option ℕ). option_map_or (λ number. named number == named n) o false) entry.there ∙ eq-eqb (named n) (named n) refl

                  moves_here : target c s.words (named n) ≡ Some e → IsMovedAt s c start old next_words e
                  moves_here to_e =
                      by_plan (Move (place_of n) (named n))
                      (at_plan ∙ cond-true (is_marked_word (slice_index now (base + named n))) (Move (place_of n) (named n)) (if is_forwarding_word (slice_index now (base + named n)) then Follow (place_of n) (slice_index now (base + named n) - 2 ^ 58) else Skip)
                      (ap is_marked_word stands ∙ kind.is_marked ∙ (target-is c s.words (named n) e to_e).marked))
                      (move-step n (named n) entry refl to_e inside (ap is_cell_word stands ∙ kind.is_cell)
                      (ap is_cell_word word_is ∙ (evacuation-kind n (omega (arith, entry.few, small.objects))).is_cell))
                    where
                      stands : slice_index now (base + named n) ≡ slice_index old (base + named n)
                      stands = before.standing (named n) from inside (λ f more to_f. omega (arith, more, next, same_Some f e (sym to_f ∙ to_e)))

                      cell : (cell : Cell) × (s.cells External (named n) ≡ Some cell)
                      cell = cell_of e to_e

                      kind : IsKind (slice_index old (base + named n)) true false (c.marks External (named n))
                      kind = cell-kind-at s c h is small External (λ i. slice_index old (base + i)) freelist committed shows (named n) cell.0 cell.1

                  follows : e < d → IsMovedAt s c start old next_words e
                  follows more =
                      by_plan (Follow (place_of n) d)
                      (at_plan
                      ∙ cond-false (is_marked_word (slice_index now (base + named n))) (Move (place_of n) (named n)) (if is_forwarding_word (slice_index now (base + named n)) then Follow (place_of n) (slice_index now (base + named n) - 2 ^ 58) else Skip) (ap is_marked_word word ∙ (evacuation-kind d (omega (arith, few))).is_marked)
                      ∙ cond-true (is_forwarding_word (slice_index now (base + named n))) (Follow (place_of n) (slice_index now (base + named n) - 2 ^ 58)) Skip (ap is_forwarding_word word ∙ and_from (nat_le (2 ^ 58) (2 ^ 58 + d)) (nat_lt (2 ^ 58 + d) (2 ^ 58 + 65536)) (le-leb (2 ^ 58) (2 ^ 58 + d) (omega arith)) (lt-ltb (2 ^ 58 + d) (2 ^ 58 + 65536) (omega (arith, few))))
                      ∙ ap (Follow (place_of n)) (omega (arith, word)))
                      (follow-step n d entry to more)
                    where
                      word : slice_index now (base + named n) ≡ evacuation_word d
                      word = before.forwarded (named n) d (omega (arith, more, next)) to

                      few : d < 65536
                      few = omega (arith, (target-start (named n) d to).0, from, inside, small.few External)

      pub plan-step : e < limit → IsMovedAt s c start old next_words e
      plan-step inside = by (c.evac e) refl
        where
          by : (found : Option ℕ) → c.evac e ≡ found → IsMovedAt s c start old next_words e
          by None none = no_entry-step inside none
          by (Some n) there = entry-step n (IsEntry-is e n there)
