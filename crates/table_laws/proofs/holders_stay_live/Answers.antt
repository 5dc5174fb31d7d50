use Rattle.table_laws.proofs.HoldersLive.{holders-live}
use Rattle.table_laws.proofs.holders_stay_live.Goals as goal

pub returns : goal.returns
returns c = holders-live
