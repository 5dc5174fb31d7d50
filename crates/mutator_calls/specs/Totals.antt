-- The totals of a table: its cells, its objects and the sum of its external values; and how entry words are counted.
use Rattle.std.specs.Prelude.{◌≡◌, ℕ, zero, suc, ◌+◌, ◌%◌, ◌^◌, ◌==◌, if◌then◌else◌}
use Rattle.plain_table.specs.declared.events.Space.TheVariants.{External, Trusted}
use Rattle.plain_table.specs.Table.{Table, limit_of}
use Rattle.plain_table.specs.Belongs.{values_below}
use Rattle.plain_table.specs.Sweeps.{cells_in}
use Rattle.word_laws.specs.ReadLaws.{tag_bits, value_bits}
use Rattle.mutator_calls.specs.declared.cycles.Tally.{Tally}
use Rattle.mutator_calls.specs.declared.cycles.Totals.{Totals}

-- these are the totals of the table
pub record IsTotal (s : Table) (totals : Totals) : Type 0 where
  pub live : totals.live ≡ cells_in s External
  pub trusted : totals.trusted ≡ cells_in s Trusted
  pub objects : totals.objects ≡ s.count
  pub sum : totals.sum ≡ values_below (s.cells External) (limit_of s External) % 2 ^ 48

-- one entry more is counted, by its word: a cell's has a tag
abbrev pub with_entry : Tally → ℕ → Tally
with_entry tally word =
    if tag_bits word == 0 then tally else record { cells = tally.cells + 1; sum = (tally.sum + value_bits word) % 2 ^ 48 }

-- the cells among the first n entries
abbrev pub tally_of : (ℕ → ℕ) → ℕ → Tally
tally_of entry zero = record { cells = 0; sum = 0 }
tally_of entry (suc n) = with_entry (tally_of entry n) (entry n)
