use Rattle.std.proofs.lemmas.Result.{on_ok_weaker}
use Rattle.plain_table.specs.Cycle.{with_entry}
use Rattle.plain_program.proofs.CycleSets.{shown-cycle}
use Rattle.plain_program.proofs.state.State.add_entry.Goals as goal

pub returns-in-Some-clause-table : goal.returns-in-Some-clause-table
returns-in-Some-clause-table c =
    on_ok_weaker c.add_entry.result (shown-cycle _ c.args.self.now c.in-Some.cycle c.add_entry.new.self (with_entry c.args.index c.args.number) c.self.view_is c.in-Some.is) c.add_entry.ensures
