-- Shading the object that is to be linked, in a cycle: what the words show and cover stays, the list has the objects that
-- are shaded and not scanned, and they are handed over with that object.
use Rattle.std.proofs.Common.{◌≡◌, ◌≢◌, ◌⊎◌, ℕ, ◌+◌, ◌/◌, ◌%◌, ◌<◌, ◌≤◌, Bool, true, false, List, [], ◌∷◌, ◌++◌, length, take, slice_index, Option, Some, None, refl, sym, ap, subst, ◌∙◌, inl, inr, arith, get_or-take, length-take-le}
use Rattle.std.specs.Prelude.{◌||◌, nat_le}
use Rattle.std.specs.List.{Contains}
use Rattle.std.specs.Option.{option_to_list}
use Rattle.std.proofs.lemmas.Bool.{cases_lt}
use Rattle.std.proofs.lemmas.List.Elements.{Contains-append_cases, Contains-append_left, Contains-append_right, Contains-get_or, at_from_Contains}
use Rattle.plain_table.specs.Reachable.{IsRoot}
use Rattle.plain_table.specs.Cycle.{Cycle, IsOld}
use Rattle.plain_table.specs.Table.{Table}
use Rattle.plain_table.specs.Words.{count_place, object_word}
use Rattle.plain_table.specs.Sound.{IsSound}
use Rattle.plain_table.specs.Shows.{IsCoveredIn, IsScanned, IsShaded, Shows}
use Rattle.plain_table.proofs.CycleParts.{CycleSound-is}
use Rattle.sweeper.specs.Late.{AreOwed}
use Rattle.sweeper.specs.Shading.{Shades, header_of, names, white_in}
use Rattle.sweeper.proofs.Begun.{object_word-is}
use Rattle.sweeper.proofs.HeaderReads.{Shows-shaded, header-black, header-cases}
use Rattle.mutator_calls.specs.Calls.{AreHanded}
use Rattle.mutator_calls.proofs.Kept.{root-below}

-- the first numbers of a list
take-listed : (xs : List ℕ) (n o : ℕ) → n ≤ length xs → Contains (take n xs) o → (j : ℕ) × (j < n) × (slice_index xs j ≡ o)
take-listed xs n o few there =
    let at = at_from_Contains (take n xs) o there in
    let less : at.0 < n = subst (λ m. at.0 < m) (length-take-le n xs few) at.1 in
    (at.0, less, sym (get_or-take n xs at.0 0 less) ∙ at.2 0)

listed-take : (xs : List ℕ) (n j : ℕ) → n ≤ length xs → j < n → Contains (take n xs) (slice_index xs j)
listed-take xs n j few less =
    subst (Contains (take n xs)) (get_or-take n xs j 0 less) (Contains-get_or (take n xs) j 0 (subst (λ m. j < m) (sym (length-take-le n xs few)) less))

option_to_list-is : (x : Option ℕ) (o : ℕ) → Contains (option_to_list x) o → x ≡ Some o
option_to_list-is None o there = absurd (omega (arith, there.1))
option_to_list-is (Some q) o there =
    let at = at_from_Contains (q ∷ []) o there in
    let first : 0 ≡ at.0 = omega (arith, at.1) in
    ap Some (ap (slice_index (q ∷ [])) first ∙ at.2 0)

-- what the shading leaves: the words show and cover the same, and the list has what is owed, which is handed over with the
-- target
pub record IsTargetShaded (old mid before after : List ℕ) (s : Table) (c : Cycle) (x : Option ℕ) : Type 0 where
  pub shows : Shows mid s
  pub covered : IsCoveredIn mid s c
  pub target : (o : ℕ) → x ≡ Some o → IsShaded mid o
  pub owed : AreOwed mid after
  pub handed : (linked : List ℕ) → AreHanded old before linked s.count c → AreHanded mid after (option_to_list x ++ linked) s.count c

or-second : (x y z : Bool) → y ≡ true → (x || y || z) ≡ true
or-second true y z is = refl
or-second false true z is = refl
or-second false false z is = absurd (cc)

module _ (old mid list listed : List ℕ) (len end word : ℕ) (sh : Shades old mid list listed len end (names word)) (s : Table) (c : Cycle)
    (sound : IsSound s) (is : s.cycle ≡ Some c) (many : length list ≡ s.sizes.objects) (shows : Shows old s) (covered : IsCoveredIn old s c)
    (x : Option ℕ) (word_is : word ≡ object_word x) (held : (o : ℕ) → x ≡ Some o → (b : ℕ) × (v : ℕ) × (s.vars b v ≡ Some o)) where
  Shows-target : Shows mid s
  Shows-target = Shows-shaded old mid list listed len end (names word) sh s c is sound many shows

  target-named : (j o : ℕ) → len ≤ j → j < end → slice_index listed j ≡ o → x ≡ Some o
  target-named j o from to at = object_word-is x o (sym word_is ∙ (sh.new j from to).3 ∙ ap (λ n. n + 1) at)

  header-or-target : (o : ℕ) → o < s.sizes.objects → (header_of mid o ≡ header_of old o) ⊎ ((header_of old o ≡ 0) × (header_of mid o ≡ 1) × (x ≡ Some o))
  header-or-target o few = elim (sh.headers o (omega (arith, few, many))) [
    | inl same ↦ inl same
    | inr w ↦ inr (w.0, w.1, target-named w.2.0 o w.2.1 w.2.2 w.2.3)
  ]

  stays-shaded : (o : ℕ) → o < s.sizes.objects → IsShaded old o → IsShaded mid o
  stays-shaded o few was = elim (header-or-target o few) [
    | inl same ↦ ap (λ n. n % 2) same ∙ was
    | inr w ↦ ap (λ n. n % 2) w.1
  ]

  was-scanned : (o : ℕ) → o < s.sizes.objects → IsScanned mid o → IsScanned old o
  was-scanned o few scanned = elim (header-or-target o few) [
    | inl same ↦ ap (λ n. n / 2 % 2) (sym same) ∙ scanned
    | inr w ↦ absurd (omega (arith, w.1, scanned))
  ]

  stays-scanned : (o : ℕ) → o < s.sizes.objects → IsScanned old o → IsScanned mid o
  stays-scanned o few scanned = elim (header-or-target o few) [
    | inl same ↦ ap (λ n. n / 2 % 2) same ∙ scanned
    | inr w ↦ absurd (omega (arith, w.0, scanned))
  ]

  target-made : (o : ℕ) → x ≡ Some o → o < s.count
  target-made o eq = let at = held o eq in (sound.objects.variables at.0 at.1 o at.2).2

  made-few : (o : ℕ) → o < s.count → o < s.sizes.objects
  made-few o made = omega (arith, made, sound.objects.few)

  -- a white object that a variable holds is old
  target-old : (o : ℕ) → x ≡ Some o → header_of old o ≡ 0 → IsOld c o
  target-old o eq white =
      let at = held o eq in
      elim ((CycleSound-is s c sound is).traced.variables at.0 at.1 o at.2) [
        | inl before ↦ before
        | inr born ↦
            let black = header-black old s c shows is o (made-few o (target-made o eq)) (or-second (c.scans o) (c.born o) (nat_le s.count o) born) in
            absurd (omega (arith, black, white))
      ]

  target-shaded : (o : ℕ) → x ≡ Some o → IsShaded mid o
  target-shaded o eq =
      let few = made-few o (target-made o eq) in
      let coloured = sh.done o (omega (arith, few, many)) (word_is ∙ ap object_word eq) in
      elim (header-cases mid s c Shows-target is o few) [
        | inl white ↦ absurd (coloured white.0)
        | inr rest ↦ elim rest [
          | inl grey ↦ ap (λ n. n % 2) grey.0
          | inr black ↦ ap (λ n. n % 2) black.0
        ]
      ]

  IsCoveredIn-target : IsCoveredIn mid s c
  IsCoveredIn-target = record {
    references = λ o k q few scanned holds.
        stays-shaded q (made-few q (sound.objects.references o k q holds).2) (covered.references o k q few (was-scanned o few scanned) holds);
    owed = λ o few shaded unscanned. elim (header-or-target o few) [
      | inl same ↦ covered.owed o few (ap (λ n. n % 2) (sym same) ∙ shaded) (λ scanned. unscanned (stays-scanned o few scanned))
      | inr w ↦ target-old o w.2 w.0
    ];
  }

  module _ (room : len + white_in old (length list) ≤ length list) (owed : AreOwed old (take len list)) where
    few_before : len ≤ length list
    few_before = omega (arith, room)

    few_after : end ≤ length listed
    few_after = omega (arith, room, sh.room, sh.list_long)

    counts : slice_index mid count_place ≡ slice_index old count_place
    counts = Shows-target.count ∙ sym shows.count

    -- what the list had it has
    listed-before : (j o : ℕ) → j < len → slice_index listed j ≡ o → Contains (take len list) o
    listed-before j o less at = subst (Contains (take len list)) (sym (sh.kept j less) ∙ at) (listed-take list len j few_before less)

    listed-after : (o : ℕ) → Contains (take len list) o → Contains (take end listed) o
    listed-after o there =
        let j = take-listed list len o few_before there in
        let less = j.1 in
        subst (Contains (take end listed)) (sh.kept j.0 j.1 ∙ j.2) (listed-take listed end j.0 few_after (omega (arith, less, sh.grown)))

    AreOwed-target : AreOwed mid (take end listed)
    AreOwed-target = record { listed = all; owed = only; differ = differ }
      where
        all : (o : ℕ) → o < slice_index mid count_place → IsShaded mid o → (IsScanned mid o → ⊥) → Contains (take end listed) o
        all o made shaded unscanned =
            let few : o < s.sizes.objects = made-few o (omega (arith, made, Shows-target.count)) in
            elim (sh.headers o (omega (arith, few, many))) [
              | inl same ↦
                  listed-after o (owed.listed o (omega (arith, made, counts)) (ap (λ n. n % 2) (sym same) ∙ shaded) (λ scanned. unscanned (stays-scanned o few scanned)))
              | inr w ↦ subst (Contains (take end listed)) w.2.3 (listed-take listed end w.2.0 few_after w.2.2)
            ]

        only : (o : ℕ) → Contains (take end listed) o → (o < slice_index mid count_place) × IsShaded mid o × (IsScanned mid o → ⊥)
        only o there =
            let j = take-listed listed end o few_after there in
            elim (cases_lt j.0 len) [
              | inl less ↦
                  let was = owed.owed o (listed-before j.0 o less j.2) in
                  let made = was.0 in
                  let few : o < s.sizes.objects = made-few o (omega (arith, made, shows.count)) in
                  (omega (arith, made, counts), stays-shaded o few was.1, λ scanned. was.2 (was-scanned o few scanned))
              | inr past ↦
                  let eq = target-named j.0 o past j.1 j.2 in
                  let made = target-made o eq in
                  let grey : header_of mid o ≡ 1 = ap (header_of mid) (sym j.2) ∙ (sh.new j.0 past j.1).2 in
                  (omega (arith, made, Shows-target.count), target-shaded o eq, λ scanned. omega (arith, grey, scanned))
            ]

        differ : (i j : ℕ) → i < j → j < length (take end listed) → slice_index (take end listed) i ≢ slice_index (take end listed) j
        differ i j order within e =
            let less : j < end = subst (λ m. j < m) (length-take-le end listed few_after) within in
            let same : slice_index listed i ≡ slice_index listed j = sym (get_or-take end listed i 0 (omega (arith, order, less))) ∙ e ∙ get_or-take end listed j 0 less in
            elim (cases_lt j len) [
              | inl before ↦
                  let first : i < len = omega (arith, order, before) in
                  owed.differ i j order (subst (λ m. j < m) (sym (length-take-le len list few_before)) before)
                  (get_or-take len list i 0 first ∙ sym (sh.kept i first) ∙ same ∙ sh.kept j before ∙ sym (get_or-take len list j 0 before))
              | inr past ↦ elim (cases_lt i len) [
                | inl before ↦
                    let shaded = (owed.owed (slice_index list i) (listed-take list len i few_before before)).1 in
                    let white = (sh.new j past less).1 in
                    let one : slice_index list i ≡ slice_index listed j = sym (sh.kept i before) ∙ same in
                    let header = ap (header_of old) one in
                    omega (arith, shaded, white, header)
                | inr high ↦ sh.differ i j high order less same
              ]
            ]

    AreHanded-target : (linked : List ℕ) → AreHanded old (take len list) linked s.count c → AreHanded mid (take end listed) (option_to_list x ++ linked) s.count c
    AreHanded-target linked was = record { due = due; roots = roots; links = links }
      where
        due : (o : ℕ) → Contains (take end listed) o → IsRoot c.globals c.vars o ⊎ Contains (option_to_list x ++ linked) o
        due o there =
            let j = take-listed listed end o few_after there in
            elim (cases_lt j.0 len) [
              | inl less ↦ elim (was.due o (listed-before j.0 o less j.2)) [
                | inl root ↦ inl root
                | inr at ↦ inr (Contains-append_right (option_to_list x) linked o at)
              ]
              | inr past ↦
                  let eq = target-named j.0 o past j.1 j.2 in
                  inr (Contains-append_left (option_to_list x) linked o (subst (λ y. Contains (option_to_list y) o) (sym eq) (0, omega arith, refl)))
            ]

        roots : (o : ℕ) → IsRoot c.globals c.vars o → IsShaded mid o
        roots o root = stays-shaded o (made-few o (root-below s c sound is o root)) (was.roots o root)

        links : (o : ℕ) → Contains (option_to_list x ++ linked) o → (o < s.count) × IsShaded mid o
        links o there = elim (Contains-append_cases (option_to_list x) linked o there) [
          | inl mine ↦ let eq = option_to_list-is x o mine in (target-made o eq, target-shaded o eq)
          | inr at ↦ let before = was.links o at in (before.0, stays-shaded o (made-few o before.0) before.1)
        ]

    pub IsTargetShaded-shades : IsTargetShaded old mid (take len list) (take end listed) s c x
    IsTargetShaded-shades = record { shows = Shows-target; covered = IsCoveredIn-target; target = target-shaded; owed = AreOwed-target; handed = AreHanded-target }
