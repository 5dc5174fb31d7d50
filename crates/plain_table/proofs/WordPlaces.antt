-- The places of words: where each kind stands, and that two places of heap words or of entries are one only where what
-- they are the places of is one.
use Rattle.std.proofs.Common.{◌≡◌, ◌≢◌, ◌+◌, ◌*◌, ◌<◌, ◌≤◌, ℕ, refl, ap, arith}
use Rattle.plain_table.specs.declared.events.Space.{Space}
use Rattle.plain_table.specs.declared.events.Space.TheVariants.{External, Trusted}
use Rattle.plain_table.specs.declared.events.Field.{Field}
use Rattle.plain_table.specs.declared.events.Field.TheVariants as field
use Rattle.plain_table.specs.Places.{object_of}
use Rattle.plain_table.specs.Table.{Sizes, limit_in}
use Rattle.plain_table.specs.Words.{freelist_place, header_place, reference_place, field_place, entry_place, words_in_all}

-- heap words stand after the globals and before the entries
pub field_place-from : (f : Field) → 37 ≤ field_place f
field_place-from (field.External number) = omega arith
field_place-from (field.Trusted number) = omega arith

pub field_place-below : (f : Field) (n : ℕ) → object_of f < n → field_place f < 32 + 8 * n
field_place-below (field.External number) n below = omega (arith, below)
field_place-below (field.Trusted number) n below = omega (arith, below)

pub header-apart-field : (o : ℕ) (f : Field) → header_place o ≢ field_place f
header-apart-field o (field.External number) = λ e. omega (arith, e)
header-apart-field o (field.Trusted number) = λ e. omega (arith, e)

pub reference-apart-field : (o k : ℕ) (f : Field) → k < 4 → reference_place o k ≢ field_place f
reference-apart-field o k (field.External number) few = λ e. omega (arith, e, few)
reference-apart-field o k (field.Trusted number) few = λ e. omega (arith, e, few)

pub header-apart-reference : (m o k : ℕ) → k < 4 → header_place m ≢ reference_place o k
header-apart-reference m o k few = λ e. omega (arith, e, few)

pub reference_place-same : (o k m i : ℕ) → k < 4 → i < 4 → reference_place o k ≡ reference_place m i → (o ≡ m) × (k ≡ i)
reference_place-same o k m i few small e = (omega (arith, few, small, e), omega (arith, few, small, e))

pub field_place-same : (f g : Field) → field_place f ≡ field_place g → f ≡ g
field_place-same (field.External m) (field.External n) e = ap field.External (omega (arith, e))
field_place-same (field.Trusted m) (field.Trusted n) e = ap field.Trusted (omega (arith, e))
field_place-same (field.External m) (field.Trusted n) e = absurd (omega (arith, e))
field_place-same (field.Trusted m) (field.External n) e = absurd (omega (arith, e))

-- entries stand after all others
pub entry_place-from : (sizes : Sizes) (p : Space) (i : ℕ) → 32 + 8 * sizes.objects ≤ entry_place sizes p i
entry_place-from sizes External i = omega arith
entry_place-from sizes Trusted i = omega arith

pub entry_place-below : (sizes : Sizes) (p : Space) (i : ℕ) → i < limit_in sizes p → entry_place sizes p i < words_in_all sizes
entry_place-below sizes External i below = omega (arith, below)
entry_place-below sizes Trusted i below = omega (arith, below)

pub entry_place-same : (sizes : Sizes) (p q : Space) (i j : ℕ) → i < limit_in sizes p → j < limit_in sizes q →
    entry_place sizes p i ≡ entry_place sizes q j → (p ≡ q) × (i ≡ j)
entry_place-same sizes External External i j below within e = (refl, omega (arith, e))
entry_place-same sizes Trusted Trusted i j below within e = (refl, omega (arith, e))
entry_place-same sizes External Trusted i j below within e = absurd (omega (arith, e, below))
entry_place-same sizes Trusted External i j below within e = absurd (omega (arith, e, within))

pub freelist_place-below : (p : Space) → freelist_place p < 3
freelist_place-below External = omega arith
freelist_place-below Trusted = omega arith

pub freelist_place-same : (p q : Space) → freelist_place p ≡ freelist_place q → p ≡ q
freelist_place-same External External e = refl
freelist_place-same Trusted Trusted e = refl
freelist_place-same External Trusted e = absurd (omega (arith, e))
freelist_place-same Trusted External e = absurd (omega (arith, e))

-- no word but those of the freelists stands at the place of one
pub freelist-apart-area : (p : Space) → freelist_place p ≢ 1
freelist-apart-area External = λ e. omega (arith, e)
freelist-apart-area Trusted = λ e. omega (arith, e)
