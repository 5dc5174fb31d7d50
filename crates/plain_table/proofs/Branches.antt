-- What holds of each table between which a test, a found index, the kind of a spot, or a cycle under way decides.
use Rattle.std.proofs.Common.{◌≡◌, ℕ, Bool, true, false, Option, Some, None, refl}
use Rattle.std.specs.Prelude.{if◌then◌else◌}
use Rattle.plain_table.specs.declared.events.Space.{Space}
use Rattle.plain_table.specs.declared.events.Spot.{Spot}
use Rattle.plain_table.specs.declared.events.Spot.TheVariants.{Global, Ref}
use Rattle.plain_table.specs.Cycle.{Cycle}
use Rattle.plain_table.specs.Table.{Table}
use Rattle.plain_table.specs.Finish.{finished}
use Rattle.plain_table.specs.Rows.{with_taken, with_linked, finished_in}

pub if_either : (P : Table → Type 0) (test : Bool) (s t : Table) → P s → P t → P (if test then s else t)
if_either P true s t first second = first
if_either P false s t first second = second

-- with what the test says
pub if_by : (P : Table → Type 0) (test : Bool) (s t : Table) → (test ≡ true → P s) → (test ≡ false → P t) → P (if test then s else t)
if_by P true s t first second = first refl
if_by P false s t first second = second refl

pub with_taken_either : (P : Table → Type 0) (s : Table) (b : ℕ) (p : Space) (found : Option ℕ) → P s →
    ((i : ℕ) → P (with_taken s b p (Some i))) → P (with_taken s b p found)
with_taken_either P s b p None same taken = same
with_taken_either P s b p (Some i) same taken = taken i

pub with_linked_either : (P : Table → Type 0) (s : Table) (spot : Spot) (x : Option ℕ) → ((g : ℕ) → P (with_linked s (Global g) x)) →
    ((object k : ℕ) → P (with_linked s (Ref object k) x)) → P (with_linked s spot x)
with_linked_either P s (Global g) x global reference = global g
with_linked_either P s (Ref object k) x global reference = reference object k

pub finished_in_either : (P : Table → Type 0) (s : Table) (cycle : Option Cycle) → P s → ((c : Cycle) → P (finished s c)) → P (finished_in s cycle)
finished_in_either P s None same past = same
finished_in_either P s (Some c) same past = past c
