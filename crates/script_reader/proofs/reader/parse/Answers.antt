use Rattle.script_reader.proofs.Named.{script_of-named}
use Rattle.script_reader.proofs.reader.parse.Goals as goal

pub returns-in-Some-read_header-clause-named : goal.returns-in-Some-read_header-clause-named
returns-in-Some-read_header-clause-named c = script_of-named c.args.bytes.now

pub returns-then-bytes-ge-MOST_BYTES-clause-named : goal.returns-then-bytes-ge-MOST_BYTES-clause-named
returns-then-bytes-ge-MOST_BYTES-clause-named c = script_of-named c.args.bytes.now
