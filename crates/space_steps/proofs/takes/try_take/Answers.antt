use Rattle.std.proofs.Common.{refl}
use Rattle.space_steps.proofs.TakeTurns.{try_took, try_counts, try_missed, miss_counts, takes_of-take}
use Rattle.space_steps.proofs.takes.try_take.Goals as goal

pub returns-in-Ok-clause-took : goal.returns-in-Ok-clause-took
returns-in-Ok-clause-took g c =
    try_took _ _ _ _ _ c.requires.caller.1.own c.load_link.ensures.learned _ _ (takes_of-take c.args.space c.in-Ok.index) c.number.ensures refl c.in-Ok.ensures.won.1

pub returns-in-Ok-clause-more : goal.returns-in-Ok-clause-more
returns-in-Ok-clause-more g c = try_counts _ _ _ _ _ c.requires.caller.1.own c.load_link.ensures.learned _ _ (takes_of-take c.args.space c.in-Ok.index) c.in-Ok.ensures.won.1

pub returns-in-Err-clause-moved : goal.returns-in-Err-clause-moved
returns-in-Err-clause-moved g c = λ missed. try_missed _ _ _ _ _ c.requires.caller.1.own c.load_link.ensures.learned _ _ c.in-Err.ensures.lost.1

pub returns-in-Err-clause-more : goal.returns-in-Err-clause-more
returns-in-Err-clause-more g c = miss_counts _ _ _ _ _ c.requires.caller.1.own c.load_link.ensures.learned _ _ c.requires.loaded c.in-Err.ensures.lost.1
