use Rattle.plain_program.proofs.EntryReads.{settled-not_any}
use Rattle.plain_program.proofs.state.State.is_settled.Goals as goal

pub returns : goal.returns
returns c = rw (← c.self.view_is) (settled-not_any c.self.inside.trusted_fresh.keys c.args.index c.has_second.result c.has_second.ensures)
