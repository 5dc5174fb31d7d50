use Rattle.table_laws.proofs.StoredValues.{values-stored}
use Rattle.plain_table.proofs.OpeningSound.{IsSound-opening}
use Rattle.table_laws.proofs.Soundness.{events-sound}
use Rattle.table_laws.proofs.values_were_stored.Goals as goal

pub returns : goal.returns
returns c = values-stored events-sound IsSound-opening
