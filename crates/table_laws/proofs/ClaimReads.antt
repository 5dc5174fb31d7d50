-- What claims are after a claim that is given up or made.
use Rattle.std.proofs.Common.{◌≡◌, ◌≢◌, ℕ, Bool, false, Option, refl, sym, ◌∙◌, inl, inr, true≢false, IsTrue}
use Rattle.std.proofs.lemmas.Bool.{cases_Bool, false_from_ne_true}
use Rattle.plain_table.specs.declared.events.Space.{Space}
use Rattle.plain_table.specs.declared.events.Space.TheVariants.{External, Trusted}
use Rattle.plain_table.specs.Places.{put_claim}
use Rattle.plain_table.specs.Sound.{FreshSound}
use Rattle.plain_table.proofs.PlaceReads.{read_claim}

-- one set of claims lies in another, and a number has no claim there
pub no_claim : (less more : Bool) → (IsTrue less → IsTrue more) → more ≡ false → less ≡ false
no_claim less more sub none = false_from_ne_true less (λ claim. true≢false (sym (sub claim) ∙ none))

module _ (claims : ℕ → Space → ℕ → Bool) (b : ℕ) (p : Space) (i : ℕ) where
  -- each claim that is left was there before, and is another one
  pub put_claim-left : (c : ℕ) (q : Space) (j : ℕ) → IsTrue (put_claim claims b p i false c q j) →
      IsTrue (claims c q j) × ((((b ≡ c) × (p ≡ q)) × (i ≡ j)) → ⊥)
  put_claim-left c q j is = elim (read_claim claims b p i false c q j) [
    | inl here ↦ absurd (true≢false (sym is ∙ here.1))
    | inr other ↦ (sym other.1 ∙ is, other.0)
  ]

  pub put_claim-was : (c : ℕ) (q : Space) (j : ℕ) → IsTrue (put_claim claims b p i false c q j) → IsTrue (claims c q j)
  put_claim-was c q j is = (put_claim-left c q j is).0

  -- so where no claim was there is none
  pub put_claim-none : (c : ℕ) (q : Space) (j : ℕ) → claims c q j ≡ false → put_claim claims b p i false c q j ≡ false
  put_claim-none c q j = no_claim (put_claim claims b p i false c q j) (claims c q j) (put_claim-was c q j)

  -- no number has a claim on the index of a fresh cell whose own claim is given up
  pub put_claim-alone : {ids : Space → ℕ → Option ℕ} (c : ℕ) → FreshSound ids claims → IsTrue (claims b p i) → put_claim claims b p i false c p i ≡ false
  put_claim-alone c h own = elim (read_claim claims b p i false c p i) [
    | inl here ↦ here.1
    | inr other ↦ elim (cases_Bool (claims c p i)) [
      | inl claim ↦ absurd (other.0 ((h.one_fresh b c p i own claim, refl), refl))
      | inr none ↦ other.1 ∙ none
    ]
  ]

-- a change of a claim in the external space leaves those in the trusted space alone
pub put_claim-elsewhere : (claims : ℕ → Space → ℕ → Bool) (b i : ℕ) (x : Bool) (c j : ℕ) → put_claim claims b External i x c Trusted j ≡ claims c Trusted j
put_claim-elsewhere claims b i x c j = elim (read_claim claims b External i x c Trusted j) [
  | inl here ↦ let never : External ≡ Trusted = here.0.0.1 in absurd (cc)
  | inr other ↦ other.1
]

-- a change of a claim of one number leaves those of all others alone
pub put_claim-others : (claims : ℕ → Space → ℕ → Bool) (b : ℕ) (p : Space) (i : ℕ) (x : Bool) (c : ℕ) (q : Space) (j : ℕ) → c ≢ b →
    put_claim claims b p i x c q j ≡ claims c q j
put_claim-others claims b p i x c q j apart = elim (read_claim claims b p i x c q j) [ inl r ↦ absurd (apart (sym r.0.0.0)) | inr r ↦ r.1 ]
