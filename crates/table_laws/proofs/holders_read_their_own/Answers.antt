use Rattle.table_laws.proofs.StoredValues.{holders-own}
use Rattle.plain_table.proofs.OpeningSound.{IsSound-opening}
use Rattle.table_laws.proofs.Soundness.{events-sound}
use Rattle.table_laws.proofs.holders_read_their_own.Goals as goal

pub returns : goal.returns
returns c = holders-own events-sound IsSound-opening
