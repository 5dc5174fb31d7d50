use Rattle.std.proofs.Common.{◌-◌, arith}
use Rattle.sweeper.specs.Shading.{names}
use Rattle.sweeper.proofs.ShadeSteps.{Shades-one, shade-fits}
use Rattle.sweeper.proofs.shading.shade.Goals as goal

pub bounds-list-len : goal.bounds-list-len
bounds-list-len c = shade-fits c.args.words.now c.args.list.now c.args.len (c.args.word - 1) c.requires.inside (omega arith) (omega arith) c.requires.room

pub returns : goal.returns
returns c =
    Shades-one c.args.words.now c.args.list.now c.args.len (c.args.word - 1) c.requires.inside (omega arith) (omega arith) c.requires.room
    (names c.args.word) (omega arith) (λ q is. omega (arith, is))
