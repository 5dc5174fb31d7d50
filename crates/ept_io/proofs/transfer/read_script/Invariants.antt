use Rattle.std.proofs.Common.{◌≡◌, ◌-◌, ◌≤◌, vec_len}
use Rattle.ept_io.specs.Bytes.{Gave}
use Rattle.ept_io.specs.Calls.{InCalls}
use Rattle.ept_io.proofs.transfer.read_script.Given as goal

-- the source gave just the bytes that were kept, with no fault, and a steady one is steady
abbrev pub invariant-loop-bytes : goal.invariant-loop-bytes
invariant-loop-bytes g l = record {
  within : vec_len l.bytes ≤ l.limit;
  given : Gave (g.S.Source.left l.initial.src) l.bytes.items (g.S.Source.left l.src);
  reads : InCalls g.S.Source.gives l.initial.src l.bytes.items l.src;
  no_fault : g.S.Source.faults l.src ≡ g.S.Source.faults l.initial.src;
  steady : g.S.Source.is_steady l.initial.src → g.S.Source.is_steady l.src;
}

abbrev pub decreases-loop-bytes : goal.decreases-loop-bytes
decreases-loop-bytes g l = l.limit - vec_len l.bytes
