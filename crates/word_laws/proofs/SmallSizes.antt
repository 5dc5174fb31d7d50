-- Sizes of limits that a table can have are small.
use Rattle.std.proofs.Common.{◌*◌, ◌≤◌, ℕ, inl, inr, arith}
use Rattle.plain_table.specs.declared.events.Space.{Space}
use Rattle.plain_table.specs.declared.events.Space.TheVariants.{External, Trusted}
use Rattle.plain_table.specs.declared.scripts.Limits.{Limits}
use Rattle.plain_table.specs.Table.{opening, limit_in}
use Rattle.plain_table.specs.Ranges.{IsSegment, IsInRange}
use Rattle.word_laws.specs.Small.{AreSmall}

segment-some : (seg : ℕ) → IsSegment seg → 1 ≤ seg
segment-some seg is = elim is [ inl e ↦ omega (arith, e) | inr rest ↦ elim rest [ inl e ↦ omega (arith, e) | inr more ↦ elim more [ inl e ↦ omega (arith, e) | inr e ↦ omega (arith, e) ] ] ]

product-some : (a b : ℕ) → 1 ≤ a → 1 ≤ b → 1 ≤ a * b
product-some a b one more = grind arith

pub AreSmall-opening : (limits : Limits) → IsInRange limits → AreSmall ((opening limits).sizes)
AreSmall-opening limits range = record { seg = segment-some limits.seg range.seg; some = some; few = few; objects = range.objects.1 }
  where
    some : (p : Space) → 1 ≤ limit_in ((opening limits).sizes) p
    some External = product-some limits.seg limits.ext (segment-some limits.seg range.seg) range.ext.0
    some Trusted = product-some limits.seg limits.tru (segment-some limits.seg range.seg) range.tru.0

    few : (p : Space) → limit_in ((opening limits).sizes) p ≤ 65536
    few External = range.ext.1
    few Trusted = range.tru.1
