-- After each event the cycle, where one is under way, is sound.
use Rattle.std.proofs.Common.{ℕ, Option, Some, None, IfSome}
use Rattle.plain_table.specs.declared.events.Act.{Act}
use Rattle.plain_table.specs.Cycle.{Cycle}
use Rattle.plain_table.specs.Table.{Table}
use Rattle.plain_table.specs.Rows.{row}
use Rattle.plain_table.specs.Sound.{IsSound, CycleSound}
use Rattle.table_laws.proofs.KeepsArea.{AreaIn, AreaIn-next}
use Rattle.table_laws.proofs.KeepsMarks.{MarksIn, MarksIn-next}
use Rattle.table_laws.proofs.KeepsTraced.{TracedIn, TracedIn-next}
use Rattle.table_laws.proofs.KeepsTouched.{TouchedIn, TouchedIn-next}
use Rattle.table_laws.proofs.KeepsBound.{BoundIn, BoundIn-next}

-- its groups make it sound
CycleSound-groups : (s : Table) (cycle : Option Cycle) → IfSome cycle (AreaIn s) → IfSome cycle (MarksIn s) → IfSome cycle (TracedIn s) →
    IfSome cycle (TouchedIn s) → IfSome cycle (BoundIn s) → IfSome cycle (CycleSound s)
CycleSound-groups s None area marks traced touched bound = tt
CycleSound-groups s (Some c) area marks traced touched bound = record {
  area = area;
  marks = marks;
  traced = traced;
  touched = touched;
  bound = bound;
}

pub CycleSound-row : (s : Table) (b : ℕ) (a : Act) → IsSound s → (row s b a).allowed → IfSome (row s b a).next.cycle (CycleSound (row s b a).next)
CycleSound-row s b a h k =
    CycleSound-groups (row s b a).next (row s b a).next.cycle (AreaIn-next s b a h k) (MarksIn-next s b a h k) (TracedIn-next s b a h k)
    (TouchedIn-next s b a h k) (BoundIn-next s b a h k)
