use Rattle.std.proofs.Common.{◌≡◌, All, length}
use Rattle.entry_base.specs.Sessions.{view, IsChunkOf, IsOf}
use Rattle.worked_markers.proofs.many.eight_chunks.Given as goal

abbrev pub invariant-loop-number : goal.invariant-loop-number
invariant-loop-number g l = record {
  caller : IsOf l.shared l.s;
  opened : (view l.s).opening ≡ (view l.fn.s).opening;
  numbered : (view l.s).number ≡ (view l.fn.s).number;
  all : (view l.s).numbers ≡ (view l.fn.s).numbers;
  count : length l.chunks.items ≡ l.number;
  chunks : All (IsChunkOf l.shared) l.chunks.items;
}
