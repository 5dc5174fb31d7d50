-- The law of steadiness: an event other than the start and the finish of a cycle leaves what others have, and lets the rest
-- only grow.
use Rattle.std.proofs.Common.{ℕ}
use Rattle.plain_table.specs.declared.events.Act.{Act}
use Rattle.plain_table.specs.declared.reports.Reply.{Reply}
use Rattle.plain_table.specs.Table.{Table}
use Rattle.plain_table.specs.Rows.{row}
use Rattle.plain_table.specs.History.{IsLegal}
use Rattle.plain_table.specs.Sound.{IsSound}
use Rattle.table_laws.specs.Steady.{IsDuringPhase, IsSteady}
use Rattle.table_laws.specs.Laws.{EventsAreSteady}
use Rattle.table_laws.proofs.CellsStay.{CellsSteady-row}
use Rattle.table_laws.proofs.OthersStay.{OthersSteady-row}
use Rattle.table_laws.proofs.CyclesStay.{CyclesSteady-row}
use Rattle.table_laws.proofs.SafeStays.{SafeSteady-row}
use Rattle.table_laws.proofs.FieldsStay.{SizesSteady-row, FieldsSteady-row, ReferencesSteady-row}
use Rattle.table_laws.proofs.RestStays.{UsedSteady-row, FreshSteady-row, BoundSteady-row, CountsSteady-row}

pub IsSteady-row : (s : Table) (b : ℕ) (a : Act) (said : Reply) → IsSound s → IsLegal s (record { by = b; act = a; said = said }) → IsDuringPhase a →
    IsSteady s (record { by = b; act = a; said = said }) (row s b a).next
IsSteady-row s b a said h k during = record {
  cells = CellsSteady-row s b a said h k during;
  others = OthersSteady-row s b a said h k during;
  cycle = CyclesSteady-row s b a said h k during;
  safe = SafeSteady-row s b a said h k during;
  used = UsedSteady-row s b a during;
  fresh = FreshSteady-row s b a h k.0 during;
  bound = BoundSteady-row s b a h k.0 during;
  sizes = SizesSteady-row s b a during;
  fields = FieldsSteady-row s b a said k.1 during;
  references = ReferencesSteady-row s b a said during;
  count = (CountsSteady-row s b a during).0;
  next = (CountsSteady-row s b a during).1;
}

pub events-steady : EventsAreSteady
events-steady s e h k during = IsSteady-row s e.by e.act e.said h k during
