use Rattle.std.proofs.Common.{◌≡◌, ℕ, ◌==◌, nat_lt, ◌&&◌, ◌||◌, is_some}
use Rattle.plain_program.specs.Entries.{has}
use Rattle.plain_table.specs.Finish.{swept}
use Rattle.plain_program.specs.Kept.{shown, shown_cycle}
use Rattle.plain_program.proofs.state.State.swept_used.Given as goal

abbrev pub invariant-loop-index : goal.invariant-loop-index
invariant-loop-index l = (i : ℕ) →
    has l.used.keys i ≡ (i == 0 || (nat_lt i l.index && is_some (swept (shown l.self) (shown_cycle l.cycle) l.space i)))
