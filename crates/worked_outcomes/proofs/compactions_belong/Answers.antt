use Rattle.worked_outcomes.proofs.CompactionProof.{compactions-belong}
use Rattle.worked_outcomes.proofs.compactions_belong.Goals as goal

pub returns : goal.returns
returns c = compactions-belong
