-- Counts of faults, as a u64 holds them: how a count rises, when one is said to have risen, and
-- which planned numbers are still to come.
use Rattle.std.specs.Prelude.{ℕ, ◌+◌, ◌-◌, ◌^◌, ◌<◌, ◌≤◌, ◌⊎◌, List, All, nat_lt, if◌then◌else◌}

-- one more, up to the last value of a u64, where a count stays
abbrev pub raised : ℕ → ℕ
raised n = if nat_lt n (2 ^ 64 - 1) then n + 1 else n

-- the count rose, or it stands at its last value
abbrev pub Rose : ℕ → ℕ → Type 0
Rose old new = (old < new) ⊎ (2 ^ 64 - 1 ≤ new)

-- after this many calls, no later call is planned to fail
abbrev pub NoneToCome : ℕ → List ℕ → Type 0
NoneToCome calls fail_at = All (λ number. number ≤ calls) fail_at
