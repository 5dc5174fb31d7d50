use Rattle.std.proofs.Common.{arith}
use Rattle.plain_table.specs.declared.events.Space.TheVariants.{External}
use Rattle.plain_program.specs.Kept.{shown}
use Rattle.plain_table.proofs.AreaStarts.{count_below-le}
use Rattle.plain_program.proofs.state.State.used_count.Goals as goal

pub overflow_add-count : goal.overflow_add-count
overflow_add-count c =
    omega (arith, count_below-le ((shown c.args.self.now).used External) c.loop-index.index, c.loop-index.invariant)
