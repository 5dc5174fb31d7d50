use Rattle.std.proofs.Common.{◌≡◌}
use Rattle.plain_table.specs.declared.events.Space.TheVariants.{External}
use Rattle.plain_table.specs.Area.{greatest_below}
use Rattle.plain_program.specs.Kept.{shown}
use Rattle.plain_program.proofs.state.State.greatest_used.Given as goal

abbrev pub invariant-loop-index : goal.invariant-loop-index
invariant-loop-index l = l.greatest ≡ greatest_below ((shown l.self).used External) l.index
