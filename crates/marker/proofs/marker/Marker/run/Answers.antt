use Rattle.std.proofs.Common.{◌≤◌, arith, subst}
use Rattle.entry_base.specs.Openings.{sizes_in}
use Rattle.entry_base.specs.Sessions.{view}
use Rattle.entry_base.proofs.Sums.{each_in}
use Rattle.marker.proofs.Counts.{length_few}
use Rattle.marker.proofs.marker.Marker.run.Goals as goal

pub fill-requires-clause-room : goal.fill-requires-clause-room
fill-requires-clause-room c =
    let few = length_few _ c.args.from.now (each_in _ c.args.from.now (view c.args.s.now).hands c.requires.hands c.requires.caller.1.hands) c.requires.once in
    let room = subst (λ k. (sizes_in k).objects ≤ c.args.self.now) c.requires.caller.1.opened c.requires.room in
    let is = c.self.view_is in
    omega (arith, few, room, is)
