use Rattle.std.proofs.Common.{◌∙◌, sym}
use Rattle.plain_program.specs.Kept.{shown}
use Rattle.plain_table.proofs.LeastFree.{least_from-used}
use Rattle.plain_program.proofs.state.State.least_free.Goals as goal

pub loop-index-preserved : goal.loop-index-preserved
loop-index-preserved c = c.loop-index.invariant
    ∙ least_from-used ((shown c.args.self.now).used c.args.space) c.loop-index.index c.limit-index-end.result c.loop-index-test.true (sym c.is_used.ensures ∙ c.if-not-is_used.false)
