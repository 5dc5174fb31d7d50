use Rattle.table_laws.proofs.Soundness.{events-sound}
use Rattle.table_laws.proofs.events_keep_soundness.Goals as goal

pub returns : goal.returns
returns c = events-sound
