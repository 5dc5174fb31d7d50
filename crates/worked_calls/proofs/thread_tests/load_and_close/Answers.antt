use Rattle.std.proofs.Common.{◌∙◌}
use Rattle.entry_base.specs.Sessions.{view}
use Rattle.worked_tables.proofs.Numbers.{two_back}
use Rattle.worked_calls.proofs.thread_tests.load_and_close.Goals as goal

pub finish-requires-clause-all : goal.finish-requires-clause-all
finish-requires-clause-all g c =
    let r = c.requires in
    two_back (view c.args.first).numbers (view c.args.one.0).numbers (view c.args.two.0).numbers (view c.join.new.self).numbers (view c.load_both.new.s).numbers
    (view c.args.one.0).number (view c.args.two.0).number r.low.0 r.low.1 r.differ
    r.given r.back.0 r.back.1 c.join.ensures.joined.numbers (c.load_both.ensures.same.numbers ∙ c.join-2.ensures.joined.numbers)
