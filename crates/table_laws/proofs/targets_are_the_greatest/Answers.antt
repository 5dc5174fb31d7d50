use Rattle.table_laws.proofs.FinishLaws.{targets-greatest}
use Rattle.table_laws.proofs.targets_are_the_greatest.Goals as goal

pub returns : goal.returns
returns c = targets-greatest
