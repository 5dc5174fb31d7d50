use Rattle.std.proofs.Common.{rules}
use Rattle.script_reader.proofs.Alone.{alone-more}
use Rattle.script_reader.proofs.lines.alone.Goals as goal

pub returns-in-Some : goal.returns-in-Some
returns-in-Some c = search (rules, alone-more)
