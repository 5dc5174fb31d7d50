-- Sizes that are small enough for words: each space has at least one segment of at least one entry, its indexes fit the 16
-- bits of an index word, and the numbers of the fields of all objects fit the 32 bits of an evacuation entry.
use Rattle.std.specs.Prelude.{◌≤◌}
use Rattle.plain_table.specs.declared.events.Space.{Space}
use Rattle.plain_table.specs.Table.{Sizes, limit_in}

pub record AreSmall (sizes : Sizes) : Type 0 where
  pub seg : 1 ≤ sizes.seg
  pub some : (p : Space) → 1 ≤ limit_in sizes p
  pub few : (p : Space) → limit_in sizes p ≤ 65536
  pub objects : sizes.objects ≤ 16384
