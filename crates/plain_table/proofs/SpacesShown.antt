-- What words show of one space, and which indexes of a space hold what: a cell stands at a used index below the limit.
use Rattle.std.proofs.Common.{◌<◌, ℕ, List, IsSome, IsTrue, ◌∙◌}
use Rattle.plain_table.specs.declared.events.Cell.{Cell}
use Rattle.plain_table.specs.declared.events.Space.{Space}
use Rattle.plain_table.specs.declared.events.Space.TheVariants.{External, Trusted}
use Rattle.plain_table.specs.Table.{Table, limit_of}
use Rattle.plain_table.specs.Sound.{IsSound}
use Rattle.plain_table.specs.Shows.{Shows, SpaceShownBy}
use Rattle.plain_table.proofs.Options.{is_some-option_map}

pub Shows-space : (words : List ℕ) (s : Table) (p : Space) → Shows words s → SpaceShownBy words s p
Shows-space words s External shows = shows.external
Shows-space words s Trusted shows = shows.trusted

pub cell-used : (s : Table) (p : Space) (i : ℕ) → IsSound s → IsSome (s.cells p i) → IsTrue (s.used p i)
cell-used s p i sound stands =
    (sound.used.cells p i (is_some-option_map (λ (cell : Cell). cell.id) (s.cells p i) ∙ stands)).0

pub cell-below : (s : Table) (p : Space) (i : ℕ) → IsSound s → IsSome (s.cells p i) → i < limit_of s p
cell-below s p i sound stands = sound.used.below p i (cell-used s p i sound stands)
