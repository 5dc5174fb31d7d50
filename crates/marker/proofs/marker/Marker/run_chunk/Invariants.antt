use Rattle.std.proofs.Common.{◌≡◌, take}
use Rattle.entry_base.specs.Sessions.{view, IsOf}
use Rattle.marker.specs.Runs.{Runs}
use Rattle.marker.proofs.marker.Marker.run_chunk.Given as goal

abbrev pub invariant-loop-object : goal.invariant-loop-object
invariant-loop-object l = record {
  caller : IsOf l.shared l.s;
  runs : Runs (view l.initial.s) (take l.object-index l.object-items) (view l.s) l.scans;
  room : l.self ≡ l.fn.self;
}
