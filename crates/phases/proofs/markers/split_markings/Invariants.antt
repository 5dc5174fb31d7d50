use Rattle.std.proofs.Common.{◌≡◌, ℕ, ◌+◌, ◌<◌, ◌≤◌, ◌++◌, All, length, map, slice_index_or}
use Rattle.std.specs.Prelude.{vec_capacity}
use Rattle.entry_base.specs.Sessions.{view, IsOf}
use Rattle.phases.specs.declared.markers.Marking.{Marking}
use Rattle.phases.specs.Sessions.{GaveOut, IsGiven}
use Rattle.phases.proofs.markers.split_markings.Given as goal

abbrev pub invariant-loop-thief : goal.invariant-loop-thief
invariant-loop-thief l = record {
  all : l.yielded ++ l.thief-iterator.rest.items ≡ l.fn.thieves.items;
  caller : IsOf l.shared l.first;
  gave : GaveOut (view l.fn.first) 8 (length l.yielded) (view l.first);
  number : l.number ≡ 8 + length l.yielded;
  long : length l.markings.items ≡ length l.yielded;
  room : length l.fn.thieves.items ≤ vec_capacity l.markings;
  thieves : map (λ (m : Marking). m.thief) l.markings.items ≡ l.yielded;
  made : All (λ (m : Marking). IsOf l.shared m.session × (m.marker ≡ l.shared.objects)) l.markings.items;
  given : (i : ℕ) (d : Marking) → i < length l.markings.items → IsGiven (view l.fn.first) (8 + i) (view (slice_index_or l.markings.items i d).session);
}
