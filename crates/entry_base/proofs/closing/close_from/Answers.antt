use Rattle.std.proofs.Common.{refl, arith}
use Rattle.entry_base.proofs.WalkStep.{closing_more, closing_all}
use Rattle.entry_base.proofs.closing.close_from.Goals as goal

pub loop-i-preserved : goal.loop-i-preserved
loop-i-preserved c = closing_more _ c.args.from c.args.to c.loop-i.i c.loop-i.words _ c.loop-i.invariant c.loop-i-test.true c.requires refl

pub returns : goal.returns
returns c = closing_all _ c.args.from c.args.to c.loop-i.i c.loop-i.words c.loop-i.invariant (let t = c.loop-i-test.false in omega arith)
