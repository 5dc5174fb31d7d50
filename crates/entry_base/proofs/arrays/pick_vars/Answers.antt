use Rattle.std.proofs.Common.{◌/◌, arith, false, get_or}
use Rattle.entry_base.proofs.Picks.{picked_all}
use Rattle.entry_base.proofs.arrays.pick_vars.Goals as goal

pub returns : goal.returns
returns c = picked_all 0 (λ j. get_or c.args.numbers.now (j / 16) false) _ _ c.loop-i.mine c.loop-i.i c.loop-i.invariant (omega arith) (let t = c.loop-i-test.false in omega arith)
