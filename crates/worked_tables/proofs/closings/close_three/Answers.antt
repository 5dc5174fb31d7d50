use Rattle.entry_base.specs.Sessions.{view}
use Rattle.worked_tables.proofs.Numbers.{two_back}
use Rattle.worked_tables.proofs.closings.close_three.Goals as goal

pub finish-requires-clause-all : goal.finish-requires-clause-all
finish-requires-clause-all c =
    two_back (view c.args.first).numbers (view c.args.one).numbers (view c.args.two).numbers (view c.join.new.self).numbers (view c.join-2.new.self).numbers
    (view c.args.one).number (view c.args.two).number c.requires.low.0 c.requires.low.1 c.requires.differ
    c.requires.given c.requires.back.0 c.requires.back.1 c.join.ensures.joined.numbers c.join-2.ensures.joined.numbers
