use Rattle.std.proofs.lemmas.Result.{on_ok_weaker}
use Rattle.plain_program.proofs.Makes.{stores}
use Rattle.plain_program.proofs.state.State.store.Goals as goal

pub returns-clause-table : goal.returns-clause-table
returns-clause-table c =
    on_ok_weaker c.mark.result
    (stores c.args.self.now c.set_cell.new.self c.mark.new.self c.args.index c.args.value c.args.cell c.requires c.in_ok-set_cell.ensures.table)
    c.mark.ensures.table
