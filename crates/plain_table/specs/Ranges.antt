-- The limits that a table can have: the entries of a segment are 4, 16, 64 or 256, the segments of each space hold at
-- most 65,536 entries, so that an index word can name each of them, and objects, mutators and markers are few. No event
-- changes them.
use Rattle.std.specs.Prelude.{◌≡◌, ◌⊎◌, ℕ, ◌*◌, ◌≤◌}
use Rattle.plain_table.specs.declared.scripts.Limits.{Limits}

-- a segment has 4, 16, 64 or 256 entries
abbrev pub IsSegment : ℕ → Type 0
IsSegment seg = (seg ≡ 4) ⊎ (seg ≡ 16) ⊎ (seg ≡ 64) ⊎ (seg ≡ 256)

pub record IsInRange (limits : Limits) : Type 0 where
  pub seg : IsSegment limits.seg
  pub ext : (1 ≤ limits.ext) × (limits.seg * limits.ext ≤ 65536)
  pub tru : (1 ≤ limits.tru) × (limits.seg * limits.tru ≤ 65536)
  pub objects : (1 ≤ limits.objects) × (limits.objects ≤ 16384)
  pub mutators : (1 ≤ limits.mutators) × (limits.mutators ≤ 8)
  pub markers : limits.markers ≤ 4
