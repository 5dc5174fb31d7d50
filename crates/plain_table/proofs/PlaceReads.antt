-- What a map says at any place after a change at one: it is that place and the new value, or another and the old one. So
-- what is true stays so where only true is set.
use Rattle.std.proofs.Common.{◌≡◌, ◌≢◌, ℕ, ◌==◌, Bool, true, false, IsTrue, refl, ap, ◌∙◌, eq-eqb, ne_eqb, inl, inr}
use Rattle.std.specs.Prelude.{◌⊎◌, ◌&&◌, if◌then◌else◌}
use Rattle.std.proofs.lemmas.Bool.Decides.{eqb_tells}
use Rattle.plain_table.specs.declared.events.Space.{Space}
use Rattle.plain_table.specs.declared.events.Space.TheVariants.{External, Trusted}
use Rattle.plain_table.specs.declared.events.Field.{Field}
use Rattle.plain_table.specs.declared.events.Field.TheVariants as field
use Rattle.plain_table.specs.Places.{same_space, same_field, put_at, put_pair, put_entry, put_field, put_claim}

abbrev pub Read : {A : Type 0} → Type 0 → A → A → A → Type 0
Read P now new old = (P × (now ≡ new)) ⊎ ((P → ⊥) × (now ≡ old))

-- by a test that tells P
abbrev pub Tells : Bool → Type 0 → Type 0
Tells test P = ((test ≡ true) × P) ⊎ ((test ≡ false) × (P → ⊥))

module _ {A : Type 0} (x old : A) (P : Type 0) where
  pub Read-if : (test : Bool) → Tells test P → Read P (if test then x else old) x old
  Read-if test tells = elim tells [
    | inl t ↦ inl (t.1, ap (λ (b : Bool). if b then x else old) t.0)
    | inr t ↦ inr (t.1, ap (λ (b : Bool). if b then x else old) t.0)
  ]

module _ (P Q : Type 0) where
  pub Tells-and : (a b : Bool) → Tells a P → Tells b Q → Tells (a && b) (P × Q)
  Tells-and a b first second = elim first [
    | inr t ↦ inr (ap (λ (c : Bool). c && b) t.0, λ both. t.1 both.0)
    | inl t ↦ elim second [
      | inl u ↦ inl (ap (λ (c : Bool). c && b) t.0 ∙ u.0, (t.1, u.1))
      | inr u ↦ inr (ap (λ (c : Bool). c && b) t.0 ∙ u.0, λ both. u.1 both.1)
    ]
  ]

pub same_space-tells : (p q : Space) → Tells (same_space p q) (p ≡ q)
same_space-tells External External = inl (refl, refl)
same_space-tells Trusted Trusted = inl (refl, refl)
same_space-tells External Trusted = inr (refl, λ e. absurd (cc))
same_space-tells Trusted External = inr (refl, λ e. absurd (cc))

pub same_field-tells : (f g : Field) → Tells (same_field f g) (f ≡ g)
same_field-tells (field.External m) (field.External n) = elim (eqb_tells m n) [
  | inl t ↦ inl (t.0, ap field.External t.1)
  | inr t ↦ inr (t.0, λ e. t.1 (cc))
]
same_field-tells (field.Trusted m) (field.Trusted n) = elim (eqb_tells m n) [
  | inl t ↦ inl (t.0, ap field.Trusted t.1)
  | inr t ↦ inr (t.0, λ e. t.1 (cc))
]
same_field-tells (field.External m) (field.Trusted n) = inr (refl, λ e. absurd (cc))
same_field-tells (field.Trusted m) (field.External n) = inr (refl, λ e. absurd (cc))

module _ {A : Type 0} (x : A) where
  pub read_at : (f : ℕ → A) (i j : ℕ) → Read (i ≡ j) (put_at f i x j) x (f j)
  read_at f i j = Read-if x (f j) (i ≡ j) (i == j) (eqb_tells i j)

  pub read_pair : (f : ℕ → ℕ → A) (m i n j : ℕ) → Read ((m ≡ n) × (i ≡ j)) (put_pair f m i x n j) x (f n j)
  read_pair f m i n j =
      Read-if x (f n j) ((m ≡ n) × (i ≡ j)) ((m == n) && (i == j)) (Tells-and (m ≡ n) (i ≡ j) (m == n) (i == j) (eqb_tells m n) (eqb_tells i j))

  pub read_entry : (f : Space → ℕ → A) (p : Space) (i : ℕ) (q : Space) (j : ℕ) → Read ((p ≡ q) × (i ≡ j)) (put_entry f p i x q j) x (f q j)
  read_entry f p i q j =
      Read-if x (f q j) ((p ≡ q) × (i ≡ j)) (same_space p q && (i == j)) (Tells-and (p ≡ q) (i ≡ j) (same_space p q) (i == j) (same_space-tells p q) (eqb_tells i j))

  pub read_field : (f : Field → A) (g h : Field) → Read (g ≡ h) (put_field f g x h) x (f h)
  read_field f g h = Read-if x (f h) (g ≡ h) (same_field g h) (same_field-tells g h)

pub read_claim : (f : ℕ → Space → ℕ → Bool) (b : ℕ) (p : Space) (i : ℕ) (x : Bool) (c : ℕ) (q : Space) (j : ℕ) →
    Read (((b ≡ c) × (p ≡ q)) × (i ≡ j)) (put_claim f b p i x c q j) x (f c q j)
read_claim f b p i x c q j =
    Read-if x (f c q j) (((b ≡ c) × (p ≡ q)) × (i ≡ j)) ((b == c) && same_space p q && (i == j))
    (Tells-and ((b ≡ c) × (p ≡ q)) (i ≡ j) ((b == c) && same_space p q) (i == j)
    (Tells-and (b ≡ c) (p ≡ q) (b == c) (same_space p q) (eqb_tells b c) (same_space-tells p q)) (eqb_tells i j))

pub put_at-same : {A : Type 0} (f : ℕ → A) (i : ℕ) (x : A) → put_at f i x i ≡ x
put_at-same f i x = ap (λ (test : Bool). if test then x else f i) (eq-eqb i i refl)

pub put_at-other : {A : Type 0} (f : ℕ → A) (i j : ℕ) (x : A) → i ≢ j → put_at f i x j ≡ f j
put_at-other f i j x apart = ap (λ (test : Bool). if test then x else f j) (ne_eqb i j apart)

pub put_entry-same : {A : Type 0} (f : Space → ℕ → A) (p : Space) (i : ℕ) (x : A) → put_entry f p i x p i ≡ x
put_entry-same f p i x = elim (read_entry x f p i p i) [ inl r ↦ r.1 | inr r ↦ absurd (r.0 (refl, refl)) ]

pub put_field-other : {A : Type 0} (f : Field → A) (g h : Field) (x : A) → g ≢ h → put_field f g x h ≡ f h
put_field-other f g h x apart = elim (read_field x f g h) [ inl r ↦ absurd (apart r.0) | inr r ↦ r.1 ]

-- what is set at a place is true there, and what was true stays so
pub Read-true : (P : Type 0) (now old : Bool) → Read P now true old → IsTrue old → IsTrue now
Read-true P now old r h = elim r [ inl k ↦ k.1 | inr k ↦ k.1 ∙ h ]

pub put_at-grows : (f : ℕ → Bool) (i j : ℕ) → IsTrue (f j) → IsTrue (put_at f i true j)
put_at-grows f i j = Read-true (i ≡ j) (put_at f i true j) (f j) (read_at true f i j)

pub put_entry-grows : (f : Space → ℕ → Bool) (p : Space) (i : ℕ) (q : Space) (j : ℕ) → IsTrue (f q j) → IsTrue (put_entry f p i true q j)
put_entry-grows f p i q j = Read-true ((p ≡ q) × (i ≡ j)) (put_entry f p i true q j) (f q j) (read_entry true f p i q j)

-- the same of numbers that came to fields
pub put_field-grows : (came : Field → ℕ → Bool) (g : Field) (v : ℕ) (f : Field) (w : ℕ) → IsTrue (came f w) →
    IsTrue (put_field came g (put_at (came g) v true) f w)
put_field-grows came g v f w h = elim (read_field (put_at (came g) v true) came g f) [
  | inl r ↦ ap (λ (at : ℕ → Bool). at w) r.1 ∙ put_at-grows (came g) v w (ap (λ (x : Field). came x w) r.0 ∙ h)
  | inr r ↦ ap (λ (at : ℕ → Bool). at w) r.1 ∙ h
]
