use Rattle.script_reader.proofs.HeaderLine.{read-back}
use Rattle.script_reader.proofs.law.printed_is_read_back.Goals as goal

pub returns : goal.returns
returns c = read-back
