-- Soundness is kept: each group of a sound table after each legal event, put together.
use Rattle.std.proofs.Common.{ℕ}
use Rattle.plain_table.specs.declared.events.Act.{Act}
use Rattle.plain_table.specs.declared.events.Act.TheVariants.{New, Drop, Get, Link, Take, Below, Abort, Put, Bind, Name, Look, Set, Swap, Forge, Publish, Mark, Evac, Scan, Start, Finish}
use Rattle.plain_table.specs.Table.{Table}
use Rattle.plain_table.specs.Rows.{row}
use Rattle.plain_table.specs.Sound.{IsSound}
use Rattle.table_laws.specs.Laws.{EventsKeepSoundness}
use Rattle.table_laws.proofs.Acts.{IsNoFinish}
use Rattle.table_laws.proofs.KeepsUsed.{UsedSound-row}
use Rattle.table_laws.proofs.KeepsFresh.{FreshSound-row}
use Rattle.table_laws.proofs.KeepsIds.{IdsSound-row}
use Rattle.table_laws.proofs.KeepsCells.{CellsSound-row}
use Rattle.table_laws.proofs.KeepsObjects.{ObjectsSound-row}
use Rattle.table_laws.proofs.KeepsFields.{FieldsSound-row}
use Rattle.table_laws.proofs.KeepsTickets.{TicketsSound-row}
use Rattle.table_laws.proofs.KeepsCycle.{CycleSound-row}
use Rattle.table_laws.proofs.FinishSound.{IsSound-row_finish}

-- any act but a finish keeps each group by its own lemma
IsSound-row_other : (s : Table) (b : ℕ) (a : Act) → IsSound s → (row s b a).allowed → IsNoFinish a → IsSound (row s b a).next
IsSound-row_other s b a h k other = record {
  used = UsedSound-row s b a h k other;
  fresh = FreshSound-row s b a h k other;
  ids = IdsSound-row s b a h k other;
  cells = CellsSound-row s b a h k other;
  objects = ObjectsSound-row s b a h k other;
  fields = FieldsSound-row s b a h k other;
  tickets = TicketsSound-row s b a h k other;
  cycle = CycleSound-row s b a h k;
}

pub IsSound-row : (s : Table) (b : ℕ) (a : Act) → IsSound s → (row s b a).allowed → IsSound (row s b a).next
IsSound-row s b Finish h k = IsSound-row_finish s b h k
IsSound-row s b (New var) h k = IsSound-row_other s b (New var) h k tt
IsSound-row s b (Drop var) h k = IsSound-row_other s b (Drop var) h k tt
IsSound-row s b (Get var spot) h k = IsSound-row_other s b (Get var spot) h k tt
IsSound-row s b (Link spot var) h k = IsSound-row_other s b (Link spot var) h k tt
IsSound-row s b (Take p) h k = IsSound-row_other s b (Take p) h k tt
IsSound-row s b (Below start) h k = IsSound-row_other s b (Below start) h k tt
IsSound-row s b Abort h k = IsSound-row_other s b Abort h k tt
IsSound-row s b (Put p i tag value) h k = IsSound-row_other s b (Put p i tag value) h k tt
IsSound-row s b (Bind f word) h k = IsSound-row_other s b (Bind f word) h k tt
IsSound-row s b (Name f) h k = h
IsSound-row s b (Look p word first last) h k = h
IsSound-row s b (Set word first last value) h k = IsSound-row_other s b (Set word first last value) h k tt
IsSound-row s b (Swap word first last value) h k = IsSound-row_other s b (Swap word first last value) h k tt
IsSound-row s b (Forge number word) h k = IsSound-row_other s b (Forge number word) h k tt
IsSound-row s b (Publish i) h k = IsSound-row_other s b (Publish i) h k tt
IsSound-row s b (Mark p i) h k = IsSound-row_other s b (Mark p i) h k tt
IsSound-row s b (Evac i number) h k = IsSound-row_other s b (Evac i number) h k tt
IsSound-row s b (Scan o) h k = IsSound-row_other s b (Scan o) h k tt
IsSound-row s b (Start policy) h k = IsSound-row_other s b (Start policy) h k tt

pub events-sound : EventsKeepSoundness
events-sound s e h legal = IsSound-row s e.by e.act h legal.0
