use Rattle.std.proofs.lemmas.Result.{on_ok_weaker}
use Rattle.plain_table.specs.Cycle.{with_word}
use Rattle.plain_program.proofs.CycleSets.{shown-cycle}
use Rattle.plain_program.proofs.state.State.touch.Goals as goal

pub returns-in-Some-clause-table : goal.returns-in-Some-clause-table
returns-in-Some-clause-table c =
    on_ok_weaker c.touch.result (shown-cycle _ c.args.self.now c.in-Some.cycle c.touch.new.self (with_word c.args.field c.args.word) c.self.view_is c.in-Some.is) c.touch.ensures
