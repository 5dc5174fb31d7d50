use Rattle.table_laws.proofs.FinishLaws.{cells-moved}
use Rattle.table_laws.proofs.cells_move_to_their_target.Goals as goal

pub returns : goal.returns
returns c = cells-moved
