use Rattle.std.proofs.Common.{◌≡◌, ◌+◌, ◌*◌, ◌-◌, ◌<◌, ◌≤◌, All, length, take, drop}
use Rattle.std.specs.Prelude.{vec_capacity}
use Rattle.entry_base.specs.Lists.{AreIn}
use Rattle.entry_base.specs.Sessions.{view, IsChunkOf, IsOf}
use Rattle.marker.specs.Steals.{objects_of}
use Rattle.phases.specs.Cuts.{CutOff}
use Rattle.phases.proofs.chunks.cut_chunks.Given as goal

abbrev pub invariant-loop-from : goal.invariant-loop-from
invariant-loop-from l = record {
  caller : IsOf l.shared l.first;
  cut : CutOff (view l.initial.first) (take l.from l.owed) (view l.first);
  chunks : All (IsChunkOf l.shared) l.chunks.items;
  objects : objects_of l.chunks.items ≡ take l.from l.owed;
  left : AreIn (drop l.from l.owed) (view l.first).hands;
  low : l.from ≤ length l.owed;
  whole : l.from < length l.owed → 32 * length l.chunks.items ≡ l.from;
  room : length l.owed ≤ 32 * vec_capacity l.chunks;
  few : 32 * length l.chunks.items ≤ length l.owed + 31;
}

abbrev pub decreases-loop-from : goal.decreases-loop-from
decreases-loop-from l = length l.owed - l.from
