-- The rule of the evacuation area: how many of the last segments in use a cycle compacts, by the policy and by how much
-- of the external space is used. It stands on two notions of a set of numbers below a limit: how many it has, and which
-- is its greatest element.
use Rattle.std.specs.Prelude.{ℕ, zero, suc, ◌+◌, ◌-◌, ◌*◌, ◌/◌, ◌==◌, nat_le, Bool, ◌&&◌, if◌then◌else◌, Option, Some, None, unwrap_or}
use Rattle.plain_table.specs.declared.scripts.Policy.{Policy}
use Rattle.plain_table.specs.declared.scripts.Policy.TheVariants.{Auto, Always, Never}

-- how many numbers below n are in the set
abbrev pub count_below : (ℕ → Bool) → ℕ → ℕ
count_below set zero = 0
count_below set (suc n) = count_below set n + (if set n then 1 else 0)

-- the greatest number below n in the set
abbrev pub greatest_below : (ℕ → Bool) → ℕ → Option ℕ
greatest_below set zero = None
greatest_below set (suc n) = if set n then Some n else greatest_below set n

-- the segments in use: up to that of the greatest used index
abbrev pub segments_in_use : (ℕ → Bool) → ℕ → ℕ → ℕ
segments_in_use used limit seg = 1 + unwrap_or (greatest_below used limit) 0 / seg

-- the segments of the area, of `segs` ones with `seg` entries each, `used` of which are used: half of all, or half of
-- what is free, where at least four segments are in use and a tenth of their entries is free
abbrev pub area_segments : Policy → ℕ → ℕ → ℕ → ℕ
area_segments Never segs used seg = 0
area_segments Always segs used seg = segs / 2
area_segments Auto segs used seg =
    if nat_le 4 segs && nat_le (segs * seg) ((segs * seg - used) * 10) then ((segs * seg - used) / 2) / seg else 0

-- the first index of the area; there is none where it has no segment
abbrev pub area_start : Policy → ℕ → ℕ → ℕ → Option ℕ
area_start policy segs used seg =
    if area_segments policy segs used seg == 0 then None else Some ((segs - area_segments policy segs used seg) * seg)
