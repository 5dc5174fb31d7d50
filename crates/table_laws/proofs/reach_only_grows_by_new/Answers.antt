use Rattle.table_laws.proofs.Reach.{reached-before}
use Rattle.table_laws.proofs.reach_only_grows_by_new.Goals as goal

pub returns : goal.returns
returns c = reached-before
