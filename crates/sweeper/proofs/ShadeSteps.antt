-- Shading, one word after the other.
use Rattle.std.proofs.Common.{◌≡◌, ◌≢◌, ◌⊎◌, ◌+◌, ◌*◌, ◌<◌, ◌≤◌, ◌==◌, ℕ, List, length, slice_index, slice_set, refl, sym, ap, subst, ◌∙◌, inl, inr, arith, eq-eqb, get_or-set_same, get_or-set_other, length-set}
use Rattle.std.proofs.lemmas.Bool.{cases_lt}
use Rattle.std.proofs.lemmas.Bool.Decides.{eqb_tells}
use Rattle.plain_table.specs.Words.{header_place}
use Rattle.plain_table.proofs.FreeLists.{count_below-less}
use Rattle.sweeper.specs.Shading.{header_of, is_white, white_in, IsListed, Shades}

-- nothing is shaded
pub Shades-none : (words list : List ℕ) (len : ℕ) (held : ℕ → Type 0) → ((o : ℕ) → o < length list → held o → header_of words o ≢ 0) → Shades words words list list len len held
Shades-none words list len held done = record {
  long = refl;
  list_long = refl;
  headers = λ o few. inl refl;
  rest = λ place off. refl;
  grown = omega arith;
  kept = λ j less. refl;
  new = λ j from to. absurd (none j from to);
  differ = λ i j from order to. absurd (none j (omega (arith, from, order)) to);
  done = done;
  room = refl;
}
  where
    none : (j : ℕ) → len ≤ j → j < len → ⊥
    none j from to = omega (arith, from, to)

module _ (words list : List ℕ) (len o : ℕ) (inside : 32 + 8 * length list ≤ length words) (few : o < length list) (white : header_of words o ≡ 0)
    (fits : len + white_in words (length list) ≤ length list) where
  abbrev now : List ℕ
  now = slice_set words (header_place o) 1

  abbrev listed : List ℕ
  listed = slice_set list len o

  here : header_of now o ≡ 1
  here = get_or-set_same words (header_place o) 1 0 (omega (arith, few, inside))

  there : (q : ℕ) → (q ≡ o → ⊥) → header_of now q ≡ header_of words q
  there q apart = get_or-set_other words (header_place o) (header_place q) 1 0 (λ e. apart (omega (arith, e)))

  fewer : white_in words (length list) ≡ white_in now (length list) + 1
  fewer = count_below-less (is_white words) (is_white now) (length list) o few (eq-eqb (header_of words o) 0 white)
      (ap (λ w. w == 0) here) (λ q apart. ap (λ w. w == 0) (there q (λ e. apart (sym e))))

  pub shade-fits : len < length list
  shade-fits = omega (arith, fits, fewer)

  last : slice_index listed len ≡ o
  last = get_or-set_same list len o 0 shade-fits

  -- one white object is shaded
  pub Shades-one : (held : ℕ → Type 0) → held o → ((q : ℕ) → held q → q ≡ o) → Shades words now list listed len (len + 1) held
  Shades-one held is only = record {
    long = length-set words (header_place o) 1;
    list_long = length-set list len o;
    headers = λ q less. elim (eqb_tells q o) [
      | inl e ↦ inr (ap (header_of words) e.1 ∙ white, ap (header_of now) e.1 ∙ here, (len, omega arith, omega arith, last ∙ sym e.1))
      | inr e ↦ inl (there q e.1)
    ];
    rest = λ place off. get_or-set_other words (header_place o) place 1 0 (off o few);
    grown = omega arith;
    kept = λ j less. get_or-set_other list len j o 0 (λ e. omega (arith, e, less));
    new = λ j from to.
        let same : j ≡ len = omega (arith, from, to) in
        let is_o : slice_index listed j ≡ o = ap (slice_index listed) same ∙ last in (
          omega (arith, is_o, few),
          ap (header_of words) is_o ∙ white,
          ap (header_of now) is_o ∙ here,
          subst held (sym is_o) is,
        );
    differ = λ i j from order to. absurd (impossible i j from order to);
    done = λ q less is_q e. omega (arith, e, here, ap (header_of now) (only q is_q));
    room = omega (arith, fewer);
  }
    where
      impossible : (i j : ℕ) → len ≤ i → i < j → j < len + 1 → ⊥
      impossible i j from order to = omega (arith, from, order, to)

-- two shadings, one after the other
module _ (old mid now l0 l1 l2 : List ℕ) (n0 n1 n2 : ℕ) (A B C : ℕ → Type 0) (a : Shades old mid l0 l1 n0 n1 A) (b : Shades mid now l1 l2 n1 n2 B)
    (from_a : (o : ℕ) → A o → C o) (from_b : (o : ℕ) → B o → C o) (split : (o : ℕ) → C o → A o ⊎ B o) where
  fits : (o : ℕ) → o < length l0 → o < length l1
  fits o less = omega (arith, less, a.list_long)

  -- what is shaded stays so
  grows : (o : ℕ) → o < length l0 → header_of mid o ≢ 0 → header_of now o ≡ header_of mid o
  grows o less not_white = elim (b.headers o (fits o less)) [
    | inl same ↦ same
    | inr white ↦ absurd (not_white white.0)
  ]

  first-listed : (o : ℕ) → IsListed l1 n0 n1 o → IsListed l2 n0 n2 o
  first-listed o is = (is.0, is.1, omega (arith, is.2, b.grown), b.kept is.0 is.2 ∙ is.3)

  headers : (o : ℕ) → o < length l0 → (header_of now o ≡ header_of old o) ⊎ ((header_of old o ≡ 0) × (header_of now o ≡ 1) × IsListed l2 n0 n2 o)
  headers o less = elim (b.headers o (fits o less)) [
    | inl same ↦ elim (a.headers o less) [
      | inl before ↦ inl (same ∙ before)
      | inr w ↦ inr (w.0, same ∙ w.1, first-listed o w.2)
    ]
    | inr w ↦ elim (a.headers o less) [
      | inl before ↦ inr (sym before ∙ w.0, w.1, (w.2.0, omega (arith, w.2.1, a.grown), w.2.2, w.2.3))
      | inr v ↦ let bad : 0 ≡ 1 = sym w.0 ∙ v.1 in absurd (omega (arith, bad))
    ]
  ]

  pub Shades-join : Shades old now l0 l2 n0 n2 C
  Shades-join = record {
    long = b.long ∙ a.long;
    list_long = b.list_long ∙ a.list_long;
    headers = headers;
    rest = λ place off. b.rest place (λ o less. off o (omega (arith, less, a.list_long))) ∙ a.rest place off;
    grown = omega (arith, a.grown, b.grown);
    kept = λ j less. b.kept j (omega (arith, less, a.grown)) ∙ a.kept j less;
    new = new;
    differ = differ;
    done = λ o less is. elim (split o is) [
      | inl one ↦ let before = a.done o less one in λ e. before (sym (grows o less before) ∙ e)
      | inr two ↦ b.done o (fits o less) two
    ];
    room = omega (arith, a.room, subst (λ n. n2 + white_in now n ≡ n1 + white_in mid n) a.list_long b.room);
  }
    where
      new : (j : ℕ) → n0 ≤ j → j < n2 → (slice_index l2 j < length l0) × (header_of old (slice_index l2 j) ≡ 0) × (header_of now (slice_index l2 j) ≡ 1) × C (slice_index l2 j)
      new j from to = elim (cases_lt j n1) [
        | inl less ↦
            let is = a.new j from less in
            let same : slice_index l2 j ≡ slice_index l1 j = b.kept j less in
            let not_white : header_of mid (slice_index l1 j) ≢ 0 = λ e. omega (arith, e, is.2) in
            subst (λ o. (o < length l0) × (header_of old o ≡ 0) × (header_of now o ≡ 1) × C o) (sym same)
            (is.0, is.1, grows (slice_index l1 j) is.0 not_white ∙ is.2, from_a (slice_index l1 j) is.3)
        | inr past ↦
            let is = b.new j past to in
            let few : slice_index l2 j < length l0 = omega (arith, is.0, a.list_long) in (
              few,
              elim (a.headers (slice_index l2 j) few) [ inl before ↦ sym before ∙ is.1 | inr v ↦ v.0 ],
              is.2,
              from_b (slice_index l2 j) is.3,
            )
      ]

      differ : (i j : ℕ) → n0 ≤ i → i < j → j < n2 → slice_index l2 i ≢ slice_index l2 j
      differ i j from order to = elim (cases_lt j n1) [
        | inl less ↦ λ e. a.differ i j from order less (sym (b.kept i (omega (arith, order, less))) ∙ e ∙ b.kept j less)
        | inr past ↦ elim (cases_lt i n1) [
          | inl less ↦ λ e.
              let first = a.new i from less in
              let second = b.new j past to in
              let same : slice_index l1 i ≡ slice_index l2 j = sym (b.kept i less) ∙ e in
              omega (arith, ap (header_of mid) same, first.2, second.1)
          | inr high ↦ b.differ i j high order to
        ]
      ]

-- one word more
pub Shades-range : (old mid now l0 l1 l2 : List ℕ) (n0 n1 n2 n : ℕ) (word : ℕ → ℕ) → Shades old mid l0 l1 n0 n1 (λ o. (k : ℕ) × (k < n) × (word k ≡ o + 1)) →
    Shades mid now l1 l2 n1 n2 (λ o. word n ≡ o + 1) → Shades old now l0 l2 n0 n2 (λ o. (k : ℕ) × (k < n + 1) × (word k ≡ o + 1))
Shades-range old mid now l0 l1 l2 n0 n1 n2 n word a b =
    Shades-join old mid now l0 l1 l2 n0 n1 n2 (λ o. (k : ℕ) × (k < n) × (word k ≡ o + 1)) (λ o. word n ≡ o + 1) (λ o. (k : ℕ) × (k < n + 1) × (word k ≡ o + 1)) a b
    (λ o is. (is.0, omega (arith, is.1), is.2)) (λ o is. (n, omega arith, is)) split
  where
    split : (o : ℕ) → ((k : ℕ) × (k < n + 1) × (word k ≡ o + 1)) → ((k : ℕ) × (k < n) × (word k ≡ o + 1)) ⊎ (word n ≡ o + 1)
    split o is = elim (eqb_tells is.0 n) [
      | inl e ↦ inr (ap word (sym e.1) ∙ is.2)
      | inr e ↦ inl (is.0, omega (arith, is.1, e.1), is.2)
    ]
