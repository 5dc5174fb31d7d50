use Rattle.std.proofs.Common.{rules}
use Rattle.script_reader.proofs.Alone.{start-more}
use Rattle.script_reader.proofs.lines.read_start.Goals as goal

pub returns-in-Some-more : goal.returns-in-Some-more
returns-in-Some-more c = search (rules, start-more)
