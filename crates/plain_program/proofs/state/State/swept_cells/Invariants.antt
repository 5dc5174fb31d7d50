use Rattle.std.proofs.Common.{◌≡◌, ℕ, nat_lt, None}
use Rattle.std.specs.Prelude.{if◌then◌else◌}
use Rattle.plain_program.specs.Entries.{at}
use Rattle.plain_table.specs.Finish.{swept}
use Rattle.plain_program.specs.Kept.{shown, shown_cycle}
use Rattle.plain_program.proofs.state.State.swept_cells.Given as goal

abbrev pub invariant-loop-index : goal.invariant-loop-index
invariant-loop-index l = (i : ℕ) →
    at l.cells.entries i ≡ (if nat_lt i l.index then swept (shown l.self) (shown_cycle l.cycle) l.space i else None)
