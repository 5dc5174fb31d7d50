use Rattle.table_laws.proofs.FinishLaws.{CanFinish-scanned}
use Rattle.table_laws.proofs.finishes_cannot_be_refused.Goals as goal

pub returns : goal.returns
returns c = CanFinish-scanned
