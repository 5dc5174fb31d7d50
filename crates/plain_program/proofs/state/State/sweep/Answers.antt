use Rattle.plain_program.specs.Kept.{shown, shown_cycle}
use Rattle.plain_program.proofs.Finishes.{IsSwept-by_space}
use Rattle.plain_program.proofs.state.State.sweep.Goals as goal

pub returns : goal.returns
returns c =
    IsSwept-by_space (shown c.args.self.now) (shown_cycle c.args.cycle.now) _
    c.in_ok-swept_cells.ensures c.in_ok-swept_cells-2.ensures c.in_ok-swept_used.ensures c.in_ok-swept_used-2.ensures
    c.in_ok-swept_words.ensures c.in_ok-swept_tickets.ensures
