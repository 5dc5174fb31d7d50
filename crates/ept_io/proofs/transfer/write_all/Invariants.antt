use Rattle.std.proofs.Common.{length, ◌-◌, ◌≡◌, ℕ, ◌≤◌, take}
use Rattle.ept_io.specs.Bytes.{Took}
use Rattle.ept_io.specs.Calls.{InCalls}
use Rattle.ept_io.proofs.transfer.write_all.Given as goal

-- the first `done` bytes are appended, and a sink with room for all still has room for the others
abbrev pub invariant-loop-done : goal.invariant-loop-done
invariant-loop-done g l = record {
  within : l.done ≤ length l.bytes;
  appended : Took (g.K.Sink.written l.initial.sink) (take l.done l.bytes) (g.K.Sink.written l.sink);
  writes : InCalls g.K.Sink.takes l.initial.sink (take l.done l.bytes) l.sink;
  no_fault : g.K.Sink.faults l.sink ≡ g.K.Sink.faults l.initial.sink;
  room : (room : ℕ) → g.K.Sink.has_room l.initial.sink room → length l.bytes ≤ room →
      g.K.Sink.has_room l.sink (room - l.done);
}

abbrev pub decreases-loop-done : goal.decreases-loop-done
decreases-loop-done g l = length l.bytes - l.done
