use Rattle.std.proofs.Math.Nat.{mod-add-mod}
use Rattle.script_generator.proofs.generator.value_of.Goals as goal

pub returns : goal.returns
returns c = rw c.from.ensures (mod-add-mod c.args.seed 281474976710656 c.args.number)
