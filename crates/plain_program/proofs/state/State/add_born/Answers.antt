use Rattle.std.proofs.lemmas.Result.{on_ok_weaker}
use Rattle.plain_table.specs.Cycle.{with_birth}
use Rattle.plain_program.proofs.CycleSets.{shown-cycle}
use Rattle.plain_program.proofs.state.State.add_born.Goals as goal

pub returns-in-Some-clause-table : goal.returns-in-Some-clause-table
returns-in-Some-clause-table c =
    on_ok_weaker c.add_born.result (shown-cycle _ c.args.self.now c.in-Some.cycle c.add_born.new.self (with_birth c.args.object) c.self.view_is c.in-Some.is) c.add_born.ensures
