use Rattle.entry_base.specs.Sessions.{view}
use Rattle.worked_tables.proofs.Numbers.{four_back}
use Rattle.worked_tables.proofs.closings.close_five.Goals as goal

pub finish-requires-clause-all : goal.finish-requires-clause-all
finish-requires-clause-all c =
    let r = c.requires in
    four_back (view c.args.first).numbers (view c.args.low.0).numbers (view c.args.low.1).numbers (view c.args.high.0).numbers (view c.args.high.1).numbers
    (view c.join.new.self).numbers (view c.join-2.new.self).numbers (view c.join-3.new.self).numbers (view c.join-4.new.self).numbers
    r.given r.low_back.0 r.low_back.1 r.high_back.0 r.high_back.1
    c.join.ensures.joined.numbers c.join-2.ensures.joined.numbers c.join-3.ensures.joined.numbers c.join-4.ensures.joined.numbers
