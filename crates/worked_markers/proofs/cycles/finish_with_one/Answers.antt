use Rattle.worked_markers.proofs.LeftObjects.{AreOwed-one}
use Rattle.worked_markers.proofs.cycles.finish_with_one.Goals as goal

pub finish-requires-clause-owed : goal.finish-requires-clause-owed
finish-requires-clause-owed g c = AreOwed-one _ c.args.left c.assert_left.ensures c.assert_shaded.ensures.made c.assert_shaded.ensures.header
