use Rattle.std.proofs.Common.{◌<◌, refl, subst, sym}
use Rattle.space_steps.proofs.TakeTurns.{try_took, try_counts, try_missed, miss_counts}
use Rattle.space_steps.proofs.takes.try_below.Goals as goal

pub returns-in-Ok-clause-took : goal.returns-in-Ok-clause-took
returns-in-Ok-clause-took g c = (
  subst (λ i. i < c.args.start) (sym c.in-Ok.ensures.won.0) c.requires.below,
  try_took _ _ _ _ _ c.requires.caller.1.own c.load_link.ensures.learned _ _ refl c.number.ensures refl c.in-Ok.ensures.won.1,
)

pub returns-in-Ok-clause-more : goal.returns-in-Ok-clause-more
returns-in-Ok-clause-more g c = try_counts _ _ _ _ _ c.requires.caller.1.own c.load_link.ensures.learned _ _ refl c.in-Ok.ensures.won.1

pub returns-in-Err-clause-moved : goal.returns-in-Err-clause-moved
returns-in-Err-clause-moved g c = λ missed. try_missed _ _ _ _ _ c.requires.caller.1.own c.load_link.ensures.learned _ _ c.in-Err.ensures.lost.1

pub returns-in-Err-clause-more : goal.returns-in-Err-clause-more
returns-in-Err-clause-more g c = miss_counts _ _ _ _ _ c.requires.caller.1.own c.load_link.ensures.learned _ _ c.requires.loaded c.in-Err.ensures.lost.1
