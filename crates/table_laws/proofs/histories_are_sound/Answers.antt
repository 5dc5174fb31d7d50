use Rattle.table_laws.proofs.SoundHistories.{histories-sound}
use Rattle.plain_table.proofs.OpeningSound.{IsSound-opening}
use Rattle.table_laws.proofs.Soundness.{events-sound}
use Rattle.table_laws.proofs.histories_are_sound.Goals as goal

pub returns : goal.returns
returns c = histories-sound events-sound IsSound-opening
