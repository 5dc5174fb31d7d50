use Rattle.table_laws.proofs.Causes.{finishes-precise}
use Rattle.table_laws.proofs.finishes_are_precise.Goals as goal

pub returns : goal.returns
returns c = finishes-precise
