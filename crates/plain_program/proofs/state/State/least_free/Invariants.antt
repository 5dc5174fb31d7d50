use Rattle.std.proofs.Common.{◌≡◌, ◌-◌}
use Rattle.plain_program.specs.Kept.{shown}
use Rattle.plain_table.specs.Table.{least_free, least_from}
use Rattle.plain_program.proofs.state.State.least_free.Given as goal

abbrev pub invariant-loop-index : goal.invariant-loop-index
invariant-loop-index l = least_free (shown l.self) l.space ≡ least_from ((shown l.self).used l.space) l.index (l.index-end - l.index)
