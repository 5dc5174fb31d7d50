use Rattle.entry_base.specs.Callers.{SameCaller}
use Rattle.entry_base.specs.Lists.{AreIn}
use Rattle.entry_base.specs.Sessions.{view, IsOf}
use Rattle.worked_markers.proofs.many.cut_own.Given as goal

-- the objects that were shaded are in the hands
abbrev pub invariant-loop : goal.invariant-loop
invariant-loop g l = record {
  caller : IsOf l.shared l.s;
  same : SameCaller (view l.fn.s) (view l.s);
  hands : AreIn l.objects.items (view l.s).hands;
}
