use Rattle.std.proofs.Common.{arith}
use Rattle.space_steps.proofs.TakeTurns.{takes_grow}
use Rattle.space_steps.proofs.takes.advance.Goals as goal

pub returns-clause-bound : goal.returns-clause-bound
returns-clause-bound g c = let more = takes_grow _ _ _ c.args.space c.commit_at.ensures.called in omega (arith, more)
