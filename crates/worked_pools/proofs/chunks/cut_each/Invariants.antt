use Rattle.std.proofs.Common.{◌≡◌, All, drop, length}
use Rattle.entry_base.specs.Lists.{AreIn}
use Rattle.entry_base.specs.Sessions.{view, IsChunkOf, IsOf}
use Rattle.worked_pools.proofs.chunks.cut_each.Given as goal

-- the objects that are not cut off yet are in the hands
abbrev pub invariant-loop-object : goal.invariant-loop-object
invariant-loop-object l = record {
  caller : IsOf l.shared l.s;
  hands : AreIn (drop l.object-index l.objects) (view l.s).hands;
  count : length l.chunks.items ≡ l.object-index;
  chunks : All (IsChunkOf l.shared) l.chunks.items;
}
