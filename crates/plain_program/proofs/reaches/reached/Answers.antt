use Rattle.plain_program.specs.Entries.{at, at_pair}
use Rattle.plain_program.proofs.Rounds.{found-iff-reaches}
use Rattle.plain_program.proofs.reaches.reached.Goals as goal

pub returns : goal.returns
returns c =
    found-iff-reaches c.args.refs.now.entries (at c.args.globals.now.entries) (at_pair c.args.variables.now.entries)
    c.new-found.result.keys c.add_values.new.set.keys c.add_pair_values.new.set.keys c.close.new.found.keys
    c.new-found.ensures.empty c.in_ok-add_values.ensures c.in_ok-add_pair_values.ensures
    c.in_ok-close.ensures.kept c.in_ok-close.ensures.within c.in_ok-close.ensures.closed
