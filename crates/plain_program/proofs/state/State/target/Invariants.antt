use Rattle.std.proofs.Common.{◌≡◌}
use Rattle.plain_table.specs.Area.{greatest_below}
use Rattle.plain_table.specs.Finish.{is_entry_for}
use Rattle.plain_program.specs.Kept.{shown, shown_cycle}
use Rattle.plain_program.proofs.state.State.target.Given as goal

abbrev pub invariant-loop-entry : goal.invariant-loop-entry
invariant-loop-entry l = l.found ≡ greatest_below (is_entry_for (shown_cycle l.cycle).evac (shown l.self).words l.index) l.entry
