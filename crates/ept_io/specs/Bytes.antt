-- What a call that gives or takes bytes does to what a source has left and to what a sink has written: `Some` of these
-- bytes where it tells them, or `None`; what tells nothing goes on telling nothing.
use Rattle.std.specs.Prelude.{◌≡◌, ℕ, Option, List}
use Rattle.std.specs.Io.KnownBytes.{append_known, prepend_known}

-- a source gave these bytes, and has the rest left
abbrev pub Gave : Option (List ℕ) → List ℕ → Option (List ℕ) → Type 0
Gave old bytes new = old ≡ prepend_known bytes new

-- a sink took these bytes after those that it had
abbrev pub Took : Option (List ℕ) → List ℕ → Option (List ℕ) → Type 0
Took old bytes new = new ≡ append_known old bytes
