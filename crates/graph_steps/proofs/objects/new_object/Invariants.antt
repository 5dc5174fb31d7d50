use Rattle.std.proofs.Common.{◌-◌}
use Rattle.entry_base.specs.Sessions.{view, IsOf}
use Rattle.graph_steps.proofs.NewCalls.{TriedTo}
use Rattle.graph_steps.proofs.objects.new_object.Given as goal

abbrev pub invariant-loop-var : goal.invariant-loop-var
invariant-loop-var l = record { caller : IsOf l.shared l.s; tried : TriedTo (view l.initial.s) l.least (view l.s) }

abbrev pub decreases-loop-var : goal.decreases-loop-var
decreases-loop-var l = l.shared.objects - l.least
