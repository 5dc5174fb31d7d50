use Rattle.table_laws.proofs.Steadiness.{events-steady}
use Rattle.table_laws.proofs.events_are_steady.Goals as goal

pub returns : goal.returns
returns c = events-steady
