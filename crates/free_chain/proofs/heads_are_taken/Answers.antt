use Rattle.free_chain.proofs.Ranks.{IsTaken-shown}
use Rattle.free_chain.proofs.heads_are_taken.Goals as goal

pub returns : goal.returns
returns c = IsTaken-shown
