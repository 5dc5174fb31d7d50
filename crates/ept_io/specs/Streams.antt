-- What contracts see of a source over a reader and of a sink over a writer, and what a call does to it.
use Rattle.std.specs.Prelude.{◌≡◌, ℕ, Bool, true, false, Option, None, Some, List}
use Rattle.ept_io.specs.Bytes.{Gave, Took}
use Rattle.ept_io.specs.Faults.{raised}

-- the bytes that the reader has left, or that the writer holds, where they are known from the first; and the faults so
-- far
pub record Stream : Type 0 where
  pub bytes : Option (List ℕ)
  pub faults : ℕ

-- what is known of a reader or a writer of which `first` was known at the start and `now` is known now: nothing where
-- nothing was known at the start, since std's contracts let it tell its bytes later
abbrev pub known_since : Option (List ℕ) → Option (List ℕ) → Option (List ℕ)
known_since None now = None
known_since (Some bytes) now = now

-- where the bytes were known at the start, they are known now
abbrev pub tells_on : Option (List ℕ) → Option (List ℕ) → Bool
tells_on None now = true
tells_on (Some bytes) None = false
tells_on (Some bytes) (Some left) = true

-- a read gave these bytes
abbrev pub HasGiven : Stream → List ℕ → Stream → Type 0
HasGiven old bytes new = Gave old.bytes bytes new.bytes × (new.faults ≡ old.faults)

-- a write took these bytes
abbrev pub HasTaken : Stream → List ℕ → Stream → Type 0
HasTaken old bytes new = Took old.bytes bytes new.bytes × (new.faults ≡ old.faults)

-- a read or a write failed
abbrev pub HasFailed : Stream → Stream → Type 0
HasFailed old new = (new.bytes ≡ old.bytes) × (new.faults ≡ raised old.faults)
