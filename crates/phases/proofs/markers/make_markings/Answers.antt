use Rattle.phases.proofs.Ready.{AreReady-made}
use Rattle.phases.proofs.markers.make_markings.Goals as goal

pub returns-clause-ready : goal.returns-clause-ready
returns-clause-ready c =
    AreReady-made c.args.shared.now c.in_ok-pool.pool c.in-Ok.chunks.items c.args.owed.now c.args.count c.in_ok-pool.thieves.items c.in_ok-markings.markings.items c.in-Ok.ensures.objects c.in-Ok.ensures.chunks
    c.in_ok-pool.ensures.thieves c.in_ok-pool.ensures.fresh c.in_ok-markings.ensures.thieves c.in_ok-markings.ensures.made
