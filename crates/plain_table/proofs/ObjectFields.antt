-- The three fields of an object and its four references: what holds of each of them holds of all, and the list of the
-- fields has all that a scan visits.
use Rattle.std.proofs.Common.{◌≡◌, ◌⊎◌, ◌+◌, ◌*◌, ◌/◌, ◌%◌, ◌<◌, ℕ, zero, suc, List, [], ◌∷◌, refl, sym, subst, inl, inr, arith}
use Rattle.std.proofs.lemmas.Bool.Decides.{eqb_tells}
use Rattle.std.specs.List.{Contains}
use Rattle.plain_table.specs.declared.events.Field.{Field}
use Rattle.plain_table.specs.declared.events.Field.TheVariants as field
use Rattle.plain_table.specs.Places.{object_of}
use Rattle.plain_table.specs.Scans.{AreFieldsOf}
use Rattle.plain_table.specs.Shapes.{external_field}

half-cases : (n o : ℕ) → n / 2 ≡ o → (n ≡ 2 * o + 0) ⊎ (n ≡ 2 * o + 1)
half-cases n o half = elim (eqb_tells (n % 2) 0) [
  | inl even ↦ inl (omega (arith, even.1, half))
  | inr odd ↦ inr (omega (arith, odd.1, half))
]

pub each_field : (P : Field → Type 0) (o : ℕ) → P (external_field o 0) → P (external_field o 1) → P (field.Trusted o) →
    (f : Field) → object_of f ≡ o → P f
each_field P o first second trusted (field.External n) is = elim (half-cases n o is) [
  | inl e ↦ subst (λ m. P (field.External m)) (sym e) first
  | inr e ↦ subst (λ m. P (field.External m)) (sym e) second
]
each_field P o first second trusted (field.Trusted n) is = subst (λ m. P (field.Trusted m)) (sym is) trusted

pub each_reference : (P : ℕ → Type 0) → P 0 → P 1 → P 2 → P 3 → (k : ℕ) → k < 4 → P k
each_reference P a b c d zero few = a
each_reference P a b c d (suc zero) few = b
each_reference P a b c d (suc (suc zero)) few = c
each_reference P a b c d (suc (suc (suc zero))) few = d
each_reference P a b c d (suc (suc (suc (suc k)))) few = absurd (omega (arith, few))

-- the fields in the order of their places
abbrev pub fields_of : ℕ → List Field
fields_of o = external_field o 0 ∷ external_field o 1 ∷ field.Trusted o ∷ []

pub AreFieldsOf-three : (o : ℕ) → AreFieldsOf o (fields_of o)
AreFieldsOf-three o =
    (refl, each_field (Contains (fields_of o)) o (0, omega arith, refl) (1, omega arith, refl) (2, omega arith, refl))
