-- The objects below this turn's are listed.
use Rattle.std.proofs.Common.{◌≡◌, ◌≤◌, length, vec_capacity}
use Rattle.entry_base.specs.Openings.{greys}
use Rattle.phases.proofs.phases.shaded_objects.Given as goal

abbrev pub invariant-loop-object : goal.invariant-loop-object
invariant-loop-object l = record {
  listed : l.room.items ≡ greys l.image.words.items l.object;
  few : length l.room.items ≤ l.object;
  room : l.image.shape.objects ≤ vec_capacity l.room;
}
