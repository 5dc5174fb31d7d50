use Rattle.std.proofs.Common.{Some, ap}
use Rattle.plain_table.specs.Cycle.{Cycle}
use Rattle.plain_program.specs.Kept.{shown}
use Rattle.plain_program.specs.contracts.state.State.{the_view}
use Rattle.plain_program.proofs.state.State.open_cycle.Goals as goal

pub returns-clause-table : goal.returns-clause-table
returns-clause-table c =
    rw (← c.self.view_is) (ap (λ (cycle : Cycle). record (shown (the_view c.self.inside)) { cycle = Some cycle }) c.new.ensures)
