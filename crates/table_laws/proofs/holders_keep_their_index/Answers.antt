use Rattle.table_laws.proofs.HoldersUsed.{holders-used}
use Rattle.table_laws.proofs.holders_keep_their_index.Goals as goal

pub returns : goal.returns
returns c = holders-used
