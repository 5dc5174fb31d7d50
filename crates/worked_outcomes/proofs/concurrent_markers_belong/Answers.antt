use Rattle.worked_outcomes.proofs.MarkerProof.{marker-belongs}
use Rattle.worked_outcomes.proofs.concurrent_markers_belong.Goals as goal

pub returns : goal.returns
returns c = marker-belongs
