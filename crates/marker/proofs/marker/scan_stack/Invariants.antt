use Rattle.std.proofs.Common.{◌≡◌, ◌-◌}
use Rattle.std.specs.Prelude.{vec_capacity}
use Rattle.entry_base.specs.Openings.{sizes_in}
use Rattle.entry_base.specs.Sessions.{view, IsOf}
use Rattle.marker.specs.Runs.{Scanning}
use Rattle.marker.proofs.marker.scan_stack.Given as goal

abbrev pub invariant-loop-object : goal.invariant-loop-object
invariant-loop-object l = record {
  caller : IsOf l.shared l.s;
  scanning : Scanning (view l.fn.s) l.fn.stack.items (view l.s) l.stack.items l.scans;
  room : vec_capacity l.stack ≡ vec_capacity l.fn.stack;
}

abbrev pub decreases-loop-object : goal.decreases-loop-object
decreases-loop-object l = (sizes_in (view l.fn.s).opening).objects - l.scans
