use Rattle.std.proofs.Common.{arith, None}
use Rattle.entry_base.proofs.Picks.{copied_all}
use Rattle.entry_base.proofs.arrays.array_of_pending.Goals as goal

pub returns : goal.returns
returns c = copied_all None _ c.loop-i.array c.loop-i.i c.loop-i.invariant (let t = c.loop-i-test.false in let r = c.requires in omega arith)
