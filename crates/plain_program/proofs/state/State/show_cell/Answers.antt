use Rattle.std.proofs.lemmas.Result.{on_ok_weaker}
use Rattle.plain_program.proofs.Makes.{shows_cell}
use Rattle.plain_program.proofs.state.State.show_cell.Goals as goal

pub returns-in-Some-clause-table : goal.returns-in-Some-clause-table
returns-in-Some-clause-table c =
    on_ok_weaker c.set_cell.result (shows_cell c.args.self.now c.set_cell.new.self c.args.index c.in-Some.cell c.in-Some.ensures) c.set_cell.ensures.table
