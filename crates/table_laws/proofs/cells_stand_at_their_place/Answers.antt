use Rattle.table_laws.proofs.FinishLaws.{cells-placed}
use Rattle.table_laws.proofs.cells_stand_at_their_place.Goals as goal

pub returns : goal.returns
returns c = cells-placed
