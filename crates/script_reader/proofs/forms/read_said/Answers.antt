use Rattle.std.proofs.Common.{rules}
use Rattle.script_reader.proofs.forms.read_said.Goals as goal

pub read_number-requires : goal.read_number-requires
read_number-requires c = c.nothing-said.ensures.valid c.args.version

pub returns-in-Err-clause-value : goal.returns-in-Err-clause-value
returns-in-Err-clause-value c = search (rules, c.first_fault.ensures c.read_all-in-Err.new.said)
