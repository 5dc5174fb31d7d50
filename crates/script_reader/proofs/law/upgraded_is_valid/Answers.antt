use Rattle.script_reader.proofs.Upgrading.{upgraded_is_valid}
use Rattle.script_reader.proofs.law.upgraded_is_valid.Goals as goal

pub returns : goal.returns
returns c = upgraded_is_valid
