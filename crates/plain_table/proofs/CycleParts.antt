-- What holds of the cycle under way, where there is one: from one fact to another, after each change of the cycle, and
-- from the legality of an event.
use Rattle.std.proofs.Common.{◌≡◌, ℕ, Option, Some, None, IsSomeAnd, IfSome, option_map}
use Rattle.plain_table.specs.Cycle.{Cycle, start_in}
use Rattle.plain_table.specs.Table.{Table}
use Rattle.plain_table.specs.Rows.{finished_in}
use Rattle.plain_table.specs.Sound.{IsSound, CycleSound, entries_in}
use Rattle.plain_table.proofs.Options.{IfSome-is}

-- a cycle under way in a sound table is sound
pub CycleSound-is : (s : Table) (c : Cycle) → IsSound s → s.cycle ≡ Some c → CycleSound s c
CycleSound-is s c h is = IfSome-is s.cycle (CycleSound s) c is h.cycle

-- from what holds of a cycle, one fact or two, to what holds of it after a change
pub IfSome-changed : {P : Cycle → Type 0} (Q : Cycle → Type 0) {change : Cycle → Cycle} (cycle : Option Cycle) → IfSome cycle P →
    ((c : Cycle) → P c → Q (change c)) → IfSome (option_map change cycle) Q
IfSome-changed Q None h f = h
IfSome-changed Q (Some c) h f = f c h

pub IfSome-changed_by : {P R : Cycle → Type 0} (Q : Cycle → Type 0) {change : Cycle → Cycle} (cycle : Option Cycle) → IfSome cycle P → IfSome cycle R →
    ((c : Cycle) → P c → R c → Q (change c)) → IfSome (option_map change cycle) Q
IfSome-changed_by Q None h k f = h
IfSome-changed_by Q (Some c) h k f = f c h k

-- after a finish there is no cycle
pub IfSome-finished : (P Q : Cycle → Type 0) (s : Table) (cycle : Option Cycle) → IsSomeAnd cycle P → IfSome (finished_in s cycle).cycle Q
IfSome-finished P Q s None k = absurd k
IfSome-finished P Q s (Some c) k = tt

-- from what an event asks of the cycle
pub IfSome-and : {P Q : Cycle → Type 0} (cycle : Option Cycle) → IsSomeAnd cycle P → ((c : Cycle) → P c → Q c) → IfSome cycle Q
IfSome-and None h f = absurd h
IfSome-and (Some c) h f = f c h

-- what an event asks of the start of the area, and what no entry at an index means, where a cycle is under way
pub IfSome-start : (P : ℕ → Type 0) (cycle : Option Cycle) → IsSomeAnd (start_in cycle) P → IfSome cycle (λ c. IsSomeAnd c.start P)
IfSome-start P None k = tt
IfSome-start P (Some c) k = k

pub IfSome-empty : (cycle : Option Cycle) (i : ℕ) → entries_in cycle i ≡ None → IfSome cycle (λ c. c.evac i ≡ None)
IfSome-empty None i e = tt
IfSome-empty (Some c) i e = e
