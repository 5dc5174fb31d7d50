-- Options: what it says that one has a value or none, and what a function on the value leaves of that.
use Rattle.std.proofs.Common.{◌≡◌, Bool, true, false, Option, Some, None, is_some, IsSome, IsSomeAnd, IfSome, option_map, refl, sym, ap, ◌∙◌, subst, true≢false}
use Rattle.std.specs.Prelude.{if◌then◌else◌}
use Rattle.std.proofs.lemmas.Option.{same_Some}

pub None-if_not_some : {A : Type 0} (o : Option A) → (IsSome o → ⊥) → o ≡ None
None-if_not_some None h = refl
None-if_not_some (Some x) h = absurd (h refl)

pub IsSome-none : {A : Type 0} (o : Option A) → o ≡ None → IsSome o → ⊥
IsSome-none {A} o e is = true≢false (sym is ∙ ap (λ (x : Option A). is_some x) e)

pub IsSome-some : {A : Type 0} (o : Option A) (x : A) → o ≡ Some x → IsSome o
IsSome-some o x e = ap is_some e

-- the value of one that has a value
pub IsSome-value : {A : Type 0} (o : Option A) → IsSome o → (x : A) × (o ≡ Some x)
IsSome-value None is = absurd (cc)
IsSome-value (Some x) is = (x, refl)

module _ {A : Type 0} (o : Option A) where
  pub IsSomeAnd-some : (P : A → Type 0) → IsSomeAnd o P → IsSome o
  IsSomeAnd-some P h = some o h
    where
      some : (x : Option A) → IsSomeAnd x P → IsSome x
      some None k = absurd k
      some (Some x) k = refl

  -- what holds of the value that is there, from it and to it
  pub IsSomeAnd-by : (x : A) (P : A → Type 0) → o ≡ Some x → P x → IsSomeAnd o P
  IsSomeAnd-by x P e h = subst (λ (y : Option A). IsSomeAnd y P) (sym e) h

  pub IsSomeAnd-is : (P : A → Type 0) (x : A) → o ≡ Some x → IsSomeAnd o P → P x
  IsSomeAnd-is P x e h = subst (λ (y : Option A). IsSomeAnd y P) e h

  pub IfSome-is : (P : A → Type 0) (x : A) → o ≡ Some x → IfSome o P → P x
  IfSome-is P x e h = subst (λ (y : Option A). IfSome y P) e h

module _ {A B : Type 0} (f : A → B) where
  pub is_some-option_map : (o : Option A) → is_some (option_map f o) ≡ is_some o
  is_some-option_map None = refl
  is_some-option_map (Some x) = refl

  pub option_map-none : (o : Option A) → option_map f o ≡ None → o ≡ None
  option_map-none None e = refl
  option_map-none (Some x) e = absurd (cc)

  pub option_map-some : (o : Option A) (y : B) → option_map f o ≡ Some y → (x : A) × (o ≡ Some x) × (f x ≡ y)
  option_map-some None y e = absurd (cc)
  option_map-some (Some x) y e = (x, refl, same_Some (f x) y e)

  pub option_map-if : (test : Bool) (x y : Option A) → option_map f (if test then x else y) ≡ (if test then option_map f x else option_map f y)
  option_map-if true x y = refl
  option_map-if false x y = refl

  -- a function on values that f does not tell apart
  pub option_map-same : (g : A → A) (o : Option A) → ((x : A) → f (g x) ≡ f x) → option_map f (option_map g o) ≡ option_map f o
  option_map-same g None same = refl
  option_map-same g (Some x) same = ap Some (same x)
