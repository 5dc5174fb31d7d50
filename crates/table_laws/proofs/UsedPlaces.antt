-- "No index twice" after the changes of one index: taken by a number, filled by a put, and given to an evacuation entry.
use Rattle.std.proofs.Common.{◌≡◌, ◌≢◌, ℕ, ◌<◌, Bool, true, false, Option, Some, None, IsTrue, IsSome, refl, sym, subst, subst₂, ◌∙◌, true≢false, inl, inr}
use Rattle.plain_table.specs.declared.events.Space.{Space}
use Rattle.plain_table.specs.declared.events.Space.TheVariants.{External}
use Rattle.plain_table.specs.Places.{put_at, put_entry, put_claim}
use Rattle.plain_table.specs.Sound.{UsedSound}
use Rattle.plain_table.proofs.PlaceReads.{read_at, read_entry, read_claim, put_entry-same, put_entry-grows}
use Rattle.plain_table.proofs.Options.{None-if_not_some, IsSome-none}
use Rattle.table_laws.proofs.ClaimReads.{put_claim-left}

module _ {limit : Space → ℕ} {used : Space → ℕ → Bool} {ids : Space → ℕ → Option ℕ} {owed : ℕ → Space → ℕ → Bool} {evac : ℕ → Option ℕ} (h : UsedSound limit used ids owed evac) where
  -- what stands at an index that is not used
  pub ids-free : (p : Space) (i : ℕ) → used p i ≡ false → ids p i ≡ None
  ids-free p i free = None-if_not_some (ids p i) (λ is. true≢false (sym (h.cells p i is).0 ∙ free))

  pub evac-free : (i : ℕ) → used External i ≡ false → evac i ≡ None
  evac-free i free = None-if_not_some (evac i) (λ is. true≢false (sym (h.entries i is).0 ∙ free))

  pub owed-free : (b : ℕ) (p : Space) (i : ℕ) → used p i ≡ false → IsTrue (owed b p i) → ⊥
  owed-free b p i free o = true≢false (sym (h.claims b p i o).0 ∙ free)

  pub UsedSound-take : (b : ℕ) (p : Space) (i : ℕ) → used p i ≡ false → i ≢ 0 → i < limit p →
      UsedSound limit (put_entry used p i true) ids (put_claim owed b p i true) evac
  UsedSound-take b p i free above low = record {
    first = λ q. put_entry-grows used p i q 0 (h.first q);
    below = λ q j u. elim (read_entry true used p i q j) [
      | inl r ↦ subst₂ (λ (x : Space) (k : ℕ). k < limit x) r.0.0 r.0.1 low
      | inr r ↦ h.below q j (sym r.1 ∙ u)
    ];
    cells = λ q j is. let old = h.cells q j is in (put_entry-grows used p i q j old.0, old.1);
    claims = λ c q j o. elim (read_claim owed b p i true c q j) [
      | inl r ↦ subst₂ (λ (x : Space) (k : ℕ). IsTrue (put_entry used p i true x k) × (k ≢ 0) × (ids x k ≡ None)) r.0.0.1 r.0.1
          (put_entry-same used p i true, above, ids-free p i free)
      | inr r ↦ let old = h.claims c q j (sym r.1 ∙ o) in (put_entry-grows used p i q j old.0, old.1, old.2)
    ];
    entries = λ j is. let old = h.entries j is in (put_entry-grows used p i External j old.0, old.1, old.2);
    one_claim = λ c d q j first second. elim (read_claim owed b p i true c q j) [
      | inl r ↦ elim (read_claim owed b p i true d q j) [
        | inl t ↦ sym r.0.0.0 ∙ t.0.0.0
        | inr t ↦ absurd (owed-free d q j (subst₂ (λ (x : Space) (k : ℕ). used x k ≡ false) r.0.0.1 r.0.1 free) (sym t.1 ∙ second))
      ]
      | inr r ↦ elim (read_claim owed b p i true d q j) [
        | inl t ↦ absurd (owed-free c q j (subst₂ (λ (x : Space) (k : ℕ). used x k ≡ false) t.0.0.1 t.0.1 free) (sym r.1 ∙ first))
        | inr t ↦ h.one_claim c d q j (sym r.1 ∙ first) (sym t.1 ∙ second)
      ]
    ];
    claim_or_entry = λ c j o. elim (read_claim owed b p i true c External j) [
      | inl r ↦ evac-free j (subst₂ (λ (x : Space) (k : ℕ). used x k ≡ false) r.0.0.1 r.0.1 free)
      | inr r ↦ h.claim_or_entry c j (sym r.1 ∙ o)
    ];
  }

  pub UsedSound-put : (b : ℕ) (p : Space) (i n : ℕ) → IsTrue (owed b p i) →
      UsedSound limit used (put_entry ids p i (Some n)) (put_claim owed b p i false) evac
  UsedSound-put b p i n mine = record {
    first = h.first;
    below = h.below;
    cells = λ q j is. elim (read_entry (Some n) ids p i q j) [
      | inl r ↦ subst₂ (λ (x : Space) (k : ℕ). IsTrue (used x k) × (k ≢ 0)) r.0.0 r.0.1 ((h.claims b p i mine).0, (h.claims b p i mine).1)
      | inr r ↦ h.cells q j (subst IsSome r.1 is)
    ];
    claims = λ c q j o. let old = put_claim-left owed b p i c q j o in let said = h.claims c q j old.0 in (
      said.0,
      said.1,
      elim (read_entry (Some n) ids p i q j) [
        | inl r ↦ absurd (old.1 ((h.one_claim b c q j (subst₂ (λ (x : Space) (k : ℕ). IsTrue (owed b x k)) r.0.0 r.0.1 mine) old.0, r.0.0), r.0.1))
        | inr r ↦ r.1 ∙ said.2
      ],
    );
    entries = λ j is. let said = h.entries j is in (
      said.0,
      said.1,
      elim (read_entry (Some n) ids p i External j) [
        | inl r ↦ absurd (IsSome-none (evac j) (h.claim_or_entry b j (subst₂ (λ (x : Space) (k : ℕ). IsTrue (owed b x k)) r.0.0 r.0.1 mine)) is)
        | inr r ↦ r.1 ∙ said.2
      ],
    );
    one_claim = λ c d q j first second. h.one_claim c d q j (put_claim-left owed b p i c q j first).0 (put_claim-left owed b p i d q j second).0;
    claim_or_entry = λ c j o. h.claim_or_entry c j (put_claim-left owed b p i c External j o).0;
  }

  pub UsedSound-evac : (b i number : ℕ) → IsTrue (owed b External i) →
      UsedSound limit used ids (put_claim owed b External i false) (put_at evac i (Some number))
  UsedSound-evac b i number mine = record {
    first = h.first;
    below = h.below;
    cells = h.cells;
    claims = λ c q j o. h.claims c q j (put_claim-left owed b External i c q j o).0;
    entries = λ j is. elim (read_at (Some number) evac i j) [
      | inl r ↦ subst (λ (k : ℕ). IsTrue (used External k) × (k ≢ 0) × (ids External k ≡ None)) r.0 (h.claims b External i mine)
      | inr r ↦ h.entries j (subst IsSome r.1 is)
    ];
    one_claim = λ c d q j first second.
        h.one_claim c d q j (put_claim-left owed b External i c q j first).0 (put_claim-left owed b External i d q j second).0;
    claim_or_entry = λ c j o. let old = put_claim-left owed b External i c External j o in elim (read_at (Some number) evac i j) [
      | inl r ↦ absurd (old.1 ((h.one_claim b c External j (subst (λ (k : ℕ). IsTrue (owed b External k)) r.0 mine) old.0, refl), r.0))
      | inr r ↦ r.1 ∙ h.claim_or_entry c j old.0
    ];
  }
