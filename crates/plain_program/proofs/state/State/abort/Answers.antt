use Rattle.std.proofs.Common.{ap, ◌∙◌}
use Rattle.plain_program.specs.Kept.{shown}
use Rattle.plain_table.specs.Cycle.{with_abort}
use Rattle.plain_program.specs.contracts.state.State.{the_view}
use Rattle.plain_program.proofs.CycleSets.{shown-cycle, shown-no_cycle}
use Rattle.plain_program.proofs.state.State.abort.Goals as goal
use Rattle.plain_program.proofs.state.State.abort.Goals.{in-Some, in_default}

pub returns-clause-table : goal.returns-clause-table
returns-clause-table c = elim c.match-self.branch [
  | in-Some w ↦ ap (λ s. shown (the_view s)) w.self-inside-is ∙ shown-cycle _ c.args.self.now w.in-Some.cycle w.abort.new.self with_abort c.self.view_is w.in-Some.is w.abort.ensures
  | in_default w ↦ ap (λ s. shown (the_view s)) w.self-inside-is ∙ shown-no_cycle _ c.args.self.now with_abort c.self.view_is w.in_default.is
]
