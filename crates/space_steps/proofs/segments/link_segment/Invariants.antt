use Rattle.std.proofs.Common.{ℕ, ◌<◌, ◌≤◌, []}
use Rattle.entry_base.specs.declared.view.Fact.TheVariants as fact
use Rattle.entry_base.specs.Lists.{Has}
use Rattle.entry_base.specs.Sessions.{view, IsOf}
use Rattle.call_base.specs.Called.{Called, LeavesOwn}
use Rattle.space_steps.proofs.segments.link_segment.Given as goal

abbrev pub invariant-loop-index : goal.invariant-loop-index
invariant-loop-index l = record {
  caller : IsOf l.shared l.s;
  called : Called (view l.initial.s) [] (view l.s);
  leaves : LeavesOwn (view l.initial.s) (view l.s);
  linked : (i : ℕ) → l.head ≤ i → i < l.index → Has (view l.s).facts (fact.Linked l.space i);
}
