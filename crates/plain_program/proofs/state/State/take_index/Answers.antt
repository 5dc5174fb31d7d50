use Rattle.std.proofs.lemmas.Result.{on_ok_weaker}
use Rattle.plain_program.proofs.Makes.{takes}
use Rattle.plain_program.proofs.state.State.take_index.Goals as goal

pub returns-clause-table : goal.returns-clause-table
returns-clause-table c =
    on_ok_weaker c.add_owed.result
    (takes c.args.self.now c.add_used.new.self c.add_owed.new.self c.args.by c.args.space c.args.index c.in_ok-add_used.ensures.table)
    c.add_owed.ensures.table
