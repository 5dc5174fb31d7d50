use Rattle.worked_outcomes.proofs.TrustedProof.{trusted-belongs}
use Rattle.worked_outcomes.proofs.trusted_entries_belong.Goals as goal

pub returns : goal.returns
returns c = trusted-belongs
