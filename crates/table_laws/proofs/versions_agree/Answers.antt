use Rattle.table_laws.proofs.Versions.{versions-agree}
use Rattle.table_laws.proofs.versions_agree.Goals as goal

pub returns : goal.returns
returns c = versions-agree
