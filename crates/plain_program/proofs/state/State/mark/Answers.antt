use Rattle.std.proofs.lemmas.Result.{on_ok_weaker}
use Rattle.plain_table.specs.Cycle.{with_mark}
use Rattle.plain_program.proofs.CycleSets.{shown-cycle}
use Rattle.plain_program.proofs.state.State.mark.Goals as goal

pub returns-in-Some-clause-table : goal.returns-in-Some-clause-table
returns-in-Some-clause-table c =
    on_ok_weaker c.mark.result (shown-cycle _ c.args.self.now c.in-Some.cycle c.mark.new.self (with_mark c.args.space c.args.index) c.self.view_is c.in-Some.is) c.mark.ensures
