-- What a writer and a reader of a run know after their calls.
use Rattle.std.specs.Prelude.{◌≡◌, ℕ, ◌+◌, ◌*◌, ◌-◌, ◌^◌, ◌<◌, ◌≤◌, ◌==◌, if◌then◌else◌, List, [], length}
use Rattle.code_steps.specs.declared.seat.CodeSeat.{CodeSeat}
use Rattle.code_steps.specs.declared.table.CodeTable.{CodeTable}
use Rattle.code_steps.specs.Seats.{view, IsOf}
use Rattle.code_steps.specs.declared.view.View.{View}
use Rattle.code_steps.specs.declared.view.Store.{Store}
use Rattle.code_steps.specs.Lists.{Each, total, list_at}
use Rattle.code_steps.specs.declared.calls.Wrote.{Wrote}
use Rattle.code_steps.specs.declared.calls.CodeRead.{CodeRead}
use Rattle.code_steps.specs.Calls.{shown_by_write, HasWriteCause, shown_by_read, HasReadCause}
use Rattle.code_run.specs.declared.workers.WriteCounts.{WriteCounts}
use Rattle.code_run.specs.declared.workers.ReadCounts.{ReadCounts}
use Rattle.code_run.specs.Calls.{is_bad, of_done, of_busy, of_pair, of_again, of_bad, shown_at, stores_of, AllStandIn}
use Rattle.code_run.specs.Runs.{IsStoreOf, of_code}

-- 1 for a store at this entry, for a sequence that isn't 0, and for the last sequence, else 0
abbrev pub of_entry : ℕ → Store → ℕ
of_entry i x = if x.at == i then 1 else 0

abbrev pub moved : ℕ → ℕ
moved n = if n == 0 then 0 else 1

abbrev pub is_last : ℕ → ℕ
is_last n = if n == 2 ^ 64 - 2 then 1 else 0

-- how often a list of entry i was seen to have grown: by own stores there and by sequences that are not 0
abbrev pub marks : ℕ → View → ℕ
marks i v = total (of_entry i) v.own + total moved (list_at v.shown i)

pub record WroteCalls (before : View) (w n : ℕ) (after : View) (c : WriteCounts) : Type 0 where
  pub answers : List Wrote
  pub calls : length answers ≡ n
  pub causes : Each HasWriteCause answers
  pub counts : (c.done ≡ total of_done answers) × (c.busy ≡ total of_busy answers)
  pub stored : after.own ≡ stores_of w answers
  pub showed : (i : ℕ) → list_at after.shown i ≡ shown_at shown_by_write i answers
  pub parts : after.parts ≡ before.parts
  pub start : after.start ≡ before.start
  pub made : c.done + c.busy + c.spent ≡ n
  pub own : Each (IsStoreOf w n) after.own
  pub count : length after.own ≡ c.done
  pub once : (code : ℕ) → total (of_code code) after.own ≤ 1
  pub marked : (i : ℕ) → i < 4 → i < n → 1 ≤ marks i after
  pub shown : 2 * c.done + c.busy ≤ total length after.shown
  pub spent : c.spent ≤ total (total is_last) after.shown

pub record ReadCalls (before : View) (n : ℕ) (after : View) (c : ReadCounts) : Type 0 where
  pub answers : List CodeRead
  pub calls : length answers ≡ n
  pub causes : Each HasReadCause answers
  pub counts : (c.pairs ≡ total of_pair answers) × (c.again ≡ total of_again answers) × (c.bad ≡ total of_bad answers)
  pub stand : AllStandIn after answers
  pub showed : (i : ℕ) → list_at after.shown i ≡ shown_at shown_by_read i answers
  pub parts : after.parts ≡ before.parts
  pub start : after.start ≡ before.start
  pub made : c.pairs + c.again ≡ n
  pub few : c.bad ≤ c.pairs
  pub own : after.own ≡ []
  pub shown : 2 * n ≤ total length after.shown
  pub bad : 1 ≤ c.bad → 1 ≤ total (total is_bad) after.seen

-- both writers made their calls, and so did both readers
pub record BothWrote (t : CodeTable) (first second : View) (n : ℕ) (after : (CodeSeat × WriteCounts) × (CodeSeat × WriteCounts)) : Type 0 where
  pub callers : IsOf t after.0.0 × IsOf t after.1.0
  pub one : WroteCalls first 0 n (view after.0.0) after.0.1
  pub two : WroteCalls second 1 n (view after.1.0) after.1.1

pub record BothRead (t : CodeTable) (third fourth : View) (n : ℕ) (after : (CodeSeat × ReadCounts) × (CodeSeat × ReadCounts)) : Type 0 where
  pub callers : IsOf t after.0.0 × IsOf t after.1.0
  pub one : ReadCalls third n (view after.0.0) after.0.1
  pub two : ReadCalls fourth n (view after.1.0) after.1.1
