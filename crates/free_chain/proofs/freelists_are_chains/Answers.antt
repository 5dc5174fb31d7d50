use Rattle.free_chain.proofs.Freelists.{IsFreelist-shown}
use Rattle.free_chain.proofs.freelists_are_chains.Goals as goal

pub returns : goal.returns
returns c = IsFreelist-shown
