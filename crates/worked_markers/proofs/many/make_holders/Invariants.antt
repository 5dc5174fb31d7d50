use Rattle.entry_base.specs.Callers.{SameCaller}
use Rattle.entry_base.specs.Sessions.{view, IsOf}
use Rattle.worked_markers.proofs.many.make_holders.Given as goal

abbrev pub invariant-loop-number : goal.invariant-loop-number
invariant-loop-number g l = record {
  caller : IsOf l.shared l.s;
  same : SameCaller (view l.fn.s) (view l.s);
}
