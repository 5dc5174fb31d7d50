-- The plain table: its sizes, its cells and used indexes, the words of fields, and the objects of references, globals
-- and variables. Each map is a total function, which answers None, false or 0 where nothing stands. There is no word of
-- an entry, no bit and no link.
use Rattle.std.specs.Prelude.{ℕ, zero, suc, ◌+◌, ◌-◌, ◌*◌, ◌==◌, Bool, false, if◌then◌else◌, Option, Some, None}
use Rattle.plain_table.specs.declared.scripts.Limits.{Limits}
use Rattle.plain_table.specs.declared.events.Cell.{Cell}
use Rattle.plain_table.specs.declared.events.Space.{Space}
use Rattle.plain_table.specs.declared.events.Space.TheVariants.{External, Trusted}
use Rattle.plain_table.specs.declared.events.Field.{Field}
use Rattle.plain_table.specs.Cycle.{Cycle}

-- the entries of a segment, the segments of each space, and the most objects: no event changes them
pub record Sizes : Type 0 where
  pub seg : ℕ
  pub ext : ℕ
  pub tru : ℕ
  pub objects : ℕ

pub record Table : Type 0 where
  pub sizes : Sizes
  pub cells : Space → ℕ → Option Cell
  -- the indexes that are taken, 0 among them
  pub used : Space → ℕ → Bool
  -- a number took the index and has not filled it yet
  pub owed : ℕ → Space → ℕ → Bool
  -- a number filled the index and has not bound it to a field yet
  pub fresh : ℕ → Space → ℕ → Bool
  -- the index word of each field, and the number of the put whose cell the field names as its own
  pub words : Field → ℕ
  pub bound : Field → Option ℕ
  -- the trusted index that a mutator may publish
  pub ticket : ℕ → Option ℕ
  -- the object of a reference (object, number), of a global, and of a variable (mutator, number)
  pub refs : ℕ → ℕ → Option ℕ
  pub globals : ℕ → Option ℕ
  pub vars : ℕ → ℕ → Option ℕ
  -- the objects made so far, and the puts so far
  pub count : ℕ
  pub next : ℕ
  pub cycle : Option Cycle

-- the table before anything happened
abbrev pub opening : Limits → Table
opening limits = record {
  sizes = record { seg = limits.seg; ext = limits.ext; tru = limits.tru; objects = limits.objects };
  cells = λ p i. None;
  used = λ p i. i == 0;
  owed = λ b p i. false;
  fresh = λ b p i. false;
  words = λ f. 0;
  bound = λ f. None;
  ticket = λ b. None;
  refs = λ o k. None;
  globals = λ g. None;
  vars = λ b v. None;
  count = 0;
  next = 0;
  cycle = None;
}

-- the indexes of a space are those below its limit
abbrev pub limit_in : Sizes → Space → ℕ
limit_in sizes External = sizes.seg * sizes.ext
limit_in sizes Trusted = sizes.seg * sizes.tru

abbrev pub limit_of : Table → Space → ℕ
limit_of s p = limit_in s.sizes p

-- the least index, among the n ones from i on, that is not used
abbrev pub least_from : (ℕ → Bool) → ℕ → ℕ → Option ℕ
least_from used i zero = None
least_from used i (suc n) = if used i then least_from used (i + 1) n else Some i

-- the least index from 1 on below the limit that is not used
abbrev pub least_free : Table → Space → Option ℕ
least_free s p = least_from (s.used p) 1 (limit_of s p - 1)
