use Rattle.plain_program.proofs.MakesMeets.{started-begun}
use Rattle.plain_program.proofs.state.State.begin.Goals as goal

pub returns-clause-table : goal.returns-clause-table
returns-clause-table c =
    started-begun c.args.self.now c.clear_fresh.new.self c.open_cycle.new.self c.args.policy c.area_of-start.result c.in_ok-origin.origin
    c.area_of-start.ensures.start c.in_ok-origin.ensures c.clear_fresh.ensures.table c.open_cycle.ensures.table
