-- Where a number has no claim on an index, a list of claims is the same without that claim.
use Rattle.std.proofs.Common.{◌≡◌, ℕ, Bool, if◌then◌else◌, List, [], ◌∷◌, IsTrue, inl, inr, refl, ap, ◌∙◌}
use Rattle.std.specs.Prelude.{◌==◌, ◌&&◌}
use Rattle.std.proofs.lemmas.Bool.Decides.{eqb_tells}
use Rattle.plain_table.specs.declared.events.Space.{Space}
use Rattle.plain_table.specs.Places.{same_space}
use Rattle.plain_table.proofs.PlaceReads.{Tells, Tells-and, same_space-tells}
use Rattle.entry_base.specs.declared.view.Claim.{Claim}
use Rattle.entry_base.specs.Lists.{Each}
use Rattle.entry_base.specs.Owns.{same_claim, without_claim}

same_claim-tells : (b : ℕ) (p : Space) (i : ℕ) (t : Claim) → Tells (same_claim b p i t) (((b ≡ t.number) × (p ≡ t.space)) × (i ≡ t.index))
same_claim-tells b p i t =
    Tells-and ((b ≡ t.number) × (p ≡ t.space)) (i ≡ t.index) ((b == t.number) && same_space p t.space) (i == t.index)
    (Tells-and (b ≡ t.number) (p ≡ t.space) (b == t.number) (same_space p t.space) (eqb_tells b t.number) (same_space-tells p t.space))
    (eqb_tells i t.index)

pub without_claim-absent : (claims : ℕ → Space → ℕ → Bool) (b : ℕ) (p : Space) (i : ℕ) → (IsTrue (claims b p i) → ⊥) → (ts : List Claim)
    → Each (λ t. IsTrue (claims t.number t.space t.index)) ts → without_claim b p i ts ≡ ts
without_claim-absent claims b p i absent [] has = refl
without_claim-absent claims b p i absent (t ∷ ts) has = elim (same_claim-tells b p i t) [
  | inl here ↦ absurd (absent (cc))
  | inr apart ↦ ap (λ (test : Bool). if test then without_claim b p i ts else t ∷ without_claim b p i ts) apart.0
      ∙ ap (λ (l : List Claim). t ∷ l) (without_claim-absent claims b p i absent ts has.1)
]
