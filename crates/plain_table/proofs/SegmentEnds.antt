-- Where whole segments end: a multiple of the segment that is below the limit is below it by a segment; and a segment has
-- an entry where the space has one.
use Rattle.std.proofs.Common.{◌≡◌, ℕ, ◌+◌, ◌*◌, ◌<◌, ◌≤◌, zero, suc, sym, subst, inl, inr, arith, mul-le-mul_right, mul_comm, suc-mul}
use Rattle.std.proofs.lemmas.Bool.{cases_lt}
use Rattle.plain_table.specs.declared.events.Space.{Space}
use Rattle.plain_table.specs.declared.events.Space.TheVariants.{External, Trusted}
use Rattle.plain_table.specs.Table.{Sizes, limit_in}

multiple-add_le : (n seg e : ℕ) → n * seg < seg * e → n * seg + seg ≤ seg * e
multiple-add_le n seg e less = elim (cases_lt n e) [
  | inl below ↦
      let more : suc n * seg ≤ e * seg = mul-le-mul_right seg below in
      omega (arith, more, suc-mul n seg, mul_comm e seg)
  | inr past ↦
      let most : e * seg ≤ n * seg = mul-le-mul_right seg past in
      absurd (omega (arith, most, mul_comm e seg, less))
]

pub segment-fits : (sizes : Sizes) (p : Space) (end n : ℕ) → end ≡ n * sizes.seg → end < limit_in sizes p → end + sizes.seg ≤ limit_in sizes p
segment-fits sizes External end n is below =
    subst (λ (x : ℕ). x + sizes.seg ≤ sizes.seg * sizes.ext) (sym is)
    (multiple-add_le n sizes.seg sizes.ext (subst (λ (x : ℕ). x < sizes.seg * sizes.ext) is below))
segment-fits sizes Trusted end n is below =
    subst (λ (x : ℕ). x + sizes.seg ≤ sizes.seg * sizes.tru) (sym is)
    (multiple-add_le n sizes.seg sizes.tru (subst (λ (x : ℕ). x < sizes.seg * sizes.tru) is below))

-- a space that has an index has entries in a segment
factor-some : (seg e i : ℕ) → i < seg * e → 1 ≤ seg
factor-some zero e i below = absurd (omega (arith, below))
factor-some (suc n) e i below = omega arith

pub segment-some : (sizes : Sizes) (p : Space) (i : ℕ) → i < limit_in sizes p → 1 ≤ sizes.seg
segment-some sizes External i below = factor-some sizes.seg sizes.ext i below
segment-some sizes Trusted i below = factor-some sizes.seg sizes.tru i below
