use Rattle.entry_base.specs.Sessions.{view}
use Rattle.worked_tables.proofs.Numbers.{one_back}
use Rattle.worked_tables.proofs.closings.close_both.Goals as goal

pub finish-requires-clause-all : goal.finish-requires-clause-all
finish-requires-clause-all c =
    one_back (view c.args.first).numbers (view c.args.one).numbers (view c.join.new.self).numbers (view c.args.one).number c.requires.low c.requires.given c.requires.back c.join.ensures.joined.numbers
