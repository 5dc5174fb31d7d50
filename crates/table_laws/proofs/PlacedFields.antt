-- A field into which a bind writes needs no evacuation entry: a fresh cell stands in the area only after an abort, which
-- moves none, and a shared cell is trusted.
use Rattle.std.proofs.Common.{◌≡◌, ℕ, Bool, true, false, if◌then◌else◌, Option, None, IsTrue, refl, inl}
use Rattle.std.proofs.lemmas.Bool.{false_from_ne_true}
use Rattle.plain_table.specs.declared.events.Space.{Space}
use Rattle.plain_table.specs.declared.events.Space.TheVariants.{Trusted}
use Rattle.plain_table.specs.declared.events.Field.{Field}
use Rattle.plain_table.specs.declared.events.Field.TheVariants as field
use Rattle.plain_table.specs.Places.{space_of}
use Rattle.plain_table.specs.Cycle.{Cycle, is_from}
use Rattle.plain_table.specs.Rows.{IsPlaced}
use Rattle.plain_table.specs.Sound.{MarksSound}

-- where an index is in the area only after an abort, its cell does not move
is_from-aborted : (aborted : Bool) (start : Option ℕ) (j : ℕ) → (IsTrue (is_from start j) → IsTrue aborted) →
    is_from (if aborted then None else start) j ≡ false
is_from-aborted true start j outside = refl
is_from-aborted false start j outside = false_from_ne_true (is_from start j) (λ e. absurd (cc (outside e)))

pub IsPlaced-fresh : (c : Cycle) (ids : Space → ℕ → Option ℕ) (fresh : ℕ → Space → ℕ → Bool) → MarksSound ids fresh c.marks c.start c.aborted →
    (b : ℕ) (f : Field) (j : ℕ) → IsTrue (fresh b (space_of f) j) → IsPlaced c f j
IsPlaced-fresh c ids fresh h b (field.External m) j is = inl (is_from-aborted c.aborted c.start j (h.outside b j is))
IsPlaced-fresh c ids fresh h b (field.Trusted m) j is = tt

pub IsPlaced-shared : (c : Cycle) (f : Field) (j : ℕ) → space_of f ≡ Trusted → IsPlaced c f j
IsPlaced-shared c (field.External m) j e = absurd (cc)
IsPlaced-shared c (field.Trusted m) j e = tt
