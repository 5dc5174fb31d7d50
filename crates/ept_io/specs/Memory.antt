-- What contracts see of a source and a sink in memory, and what a read and a write do to it.
use Rattle.std.specs.Prelude.{ℕ, ◌-◌, ◌≤◌, List, ◌++◌, length, drop}
use Rattle.ept_io.specs.Faults.{raised, NoneToCome}

-- a source: the bytes left, at most how many a read gives, the reads so far, the numbers of the
-- reads that fail, and the faults so far
pub record Supply : Type 0 where
  pub left : List ℕ
  pub piece : ℕ
  pub reads : ℕ
  pub fail_at : List ℕ
  pub faults : ℕ

-- the source after a read that gave n bytes
abbrev pub after_read : Supply → ℕ → Supply
after_read s n = record s { left = drop n s.left; reads = raised s.reads }

-- the source after a read that failed
abbrev pub after_failed_read : Supply → Supply
after_failed_read s = record s { reads = raised s.reads; faults = raised s.faults }

-- no later read fails
abbrev pub IsSteady : Supply → Type 0
IsSteady s = NoneToCome s.reads s.fail_at

-- a sink: the bytes written, for how many more there is room, at most how many a write takes, the
-- writes so far, the numbers of the writes that fail, and the faults so far
pub record Store : Type 0 where
  pub written : List ℕ
  pub room : ℕ
  pub piece : ℕ
  pub writes : ℕ
  pub fail_at : List ℕ
  pub faults : ℕ

-- the sink after a write that took these bytes
abbrev pub after_write : Store → List ℕ → Store
after_write s bytes =
    record s { written = s.written ++ bytes; room = s.room - length bytes; writes = raised s.writes }

-- the sink after a write that failed
abbrev pub after_failed_write : Store → Store
after_failed_write s = record s { writes = raised s.writes; faults = raised s.faults }

-- no later write is planned to fail, and n bytes fit
abbrev pub HasRoom : Store → ℕ → Type 0
HasRoom s n = NoneToCome s.writes s.fail_at × (n ≤ s.room)
