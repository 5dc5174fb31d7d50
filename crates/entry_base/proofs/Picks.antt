-- Lists that are filled or picked place by place.
use Rattle.std.proofs.Common.{◌≡◌, ◌≢◌, ℕ, ◌+◌, ◌<◌, ◌≤◌, Bool, true, false, if◌then◌else◌, List, [], ◌∷◌, length, get_or, set, refl, sym, ap, ◌∙◌, arith, below_more, get_or-set_other, get_or-set_same, length-set, ext_get_or}
use Rattle.entry_base.specs.Views.{pick_from}
use Rattle.entry_base.proofs.JoinKeeps.{pick_read}

-- the first places are those of another list
pub record Copied {A : Type 0} (d : A) (from now : List A) (i : ℕ) : Type 0 where
  pub long : length now ≡ length from
  pub done : (k : ℕ) → k < i → get_or now k d ≡ get_or from k d

pub copied_more : {A : Type 0} (d : A) (from now : List A) (i : ℕ) (x : A) → Copied d from now i → i < length from → x ≡ get_or from i d → Copied d from (set now i x) (i + 1)
copied_more d from now i x c low is = record {
  long = length-set now i x ∙ c.long;
  done = below_more _ _
      (λ k l. let ne : k ≢ i = omega arith in get_or-set_other now i k x d ne ∙ c.done k l)
      (get_or-set_same now i x d (let l = c.long in omega arith) ∙ is);
}

pub copied_all : {A : Type 0} (d : A) (from now : List A) (i : ℕ) → Copied d from now i → length from ≤ i → now ≡ from
copied_all d from now i c all = ext_get_or d now from c.long (λ k l. c.done k (let e = c.long in omega arith))

pub pick_long : {A : Type 0} (f : ℕ → Bool) (i : ℕ) (xs ys : List A) → length xs ≡ length ys → length (pick_from f i xs ys) ≡ length xs
pick_long f i [] ys e = refl
pick_long f i (x ∷ xs) [] e = absurd (omega (arith, e))
pick_long f i (x ∷ xs) (y ∷ ys) e = let r = pick_long f (i + 1) xs ys (omega (arith, e)) in omega (arith, r)

-- the first places are picked, the others are as they were
pub record Picked {A : Type 0} (d : A) (f : ℕ → Bool) (old theirs now : List A) (i : ℕ) : Type 0 where
  pub long : length now ≡ length old
  pub done : (k : ℕ) → k < i → get_or now k d ≡ (if f k then get_or theirs k d else get_or old k d)
  pub rest : (k : ℕ) → i ≤ k → get_or now k d ≡ get_or old k d

pub picked_take : {A : Type 0} (d : A) (f : ℕ → Bool) (old theirs now : List A) (i : ℕ) (x : A) → Picked d f old theirs now i → i < length old → f i ≡ true → x ≡ get_or theirs i d → Picked d f old theirs (set now i x) (i + 1)
picked_take d f old theirs now i x p low test is = record {
  long = length-set now i x ∙ p.long;
  done = below_more _ _
      (λ k l. let ne : k ≢ i = omega arith in get_or-set_other now i k x d ne ∙ p.done k l)
      (get_or-set_same now i x d (let l = p.long in omega arith) ∙ (is ∙ sym (ap (λ (b : Bool). if b then get_or theirs i d else get_or old i d) test)));
  rest = λ k l. get_or-set_other now i k x d (omega arith) ∙ p.rest k (omega arith);
}

pub picked_leave : {A : Type 0} (d : A) (f : ℕ → Bool) (old theirs now : List A) (i : ℕ) → Picked d f old theirs now i → f i ≡ false → Picked d f old theirs now (i + 1)
picked_leave d f old theirs now i p test = record {
  long = p.long;
  done = below_more _ _ (λ k l. p.done k l) (p.rest i (omega arith) ∙ sym (ap (λ (b : Bool). if b then get_or theirs i d else get_or old i d) test));
  rest = λ k l. p.rest k (omega arith);
}

pub picked_all : {A : Type 0} (d : A) (f : ℕ → Bool) (old theirs now : List A) (i : ℕ) → Picked d f old theirs now i → length old ≡ length theirs → length old ≤ i → now ≡ pick_from f 0 old theirs
picked_all d f old theirs now i p same all =
    ext_get_or d now (pick_from f 0 old theirs) (p.long ∙ sym (pick_long f 0 old theirs same)) (λ k l. p.done k (let e = p.long in omega arith) ∙ sym (pick_read f 0 old theirs k d same ∙ ap (λ n. if f n then get_or theirs k d else get_or old k d) (let z : 0 + k ≡ k = omega arith in z)))
