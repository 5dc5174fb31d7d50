use Rattle.std.proofs.Common.{◌≡◌}
use Rattle.plain_table.specs.declared.events.Space.TheVariants.{External}
use Rattle.plain_table.specs.Area.{count_below}
use Rattle.plain_program.specs.Kept.{shown}
use Rattle.plain_program.proofs.state.State.used_count.Given as goal

abbrev pub invariant-loop-index : goal.invariant-loop-index
invariant-loop-index l = l.count ≡ count_below ((shown l.self).used External) l.index
