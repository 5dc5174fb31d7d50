use Rattle.entry_base.specs.Sessions.{view}
use Rattle.worked_tables.proofs.Numbers.{none_given}
use Rattle.worked_tables.proofs.closings.close_whole.Goals as goal

pub finish-requires-clause-all : goal.finish-requires-clause-all
finish-requires-clause-all c = none_given (view c.args.first).numbers c.requires.whole
