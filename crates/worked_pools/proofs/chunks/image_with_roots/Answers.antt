use Rattle.mutator_calls.proofs.ValidShapes.{AreSmall-valid}
use Rattle.worked_pools.proofs.chunks.image_with_roots.Goals as goal

pub returns-clause-small : goal.returns-clause-small
returns-clause-small g c = AreSmall-valid _ c.in_ok-start.ensures.ready.shape
