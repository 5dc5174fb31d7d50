-- At each table of a pause, that at its end included, holds what holds of each table that a pause leaves as it is.
use Rattle.std.proofs.Common.{◌≡◌, ℕ, suc, List, arith}
use Rattle.std.specs.List.{All}
use Rattle.plain_table.specs.declared.events.Event.{Event}
use Rattle.plain_table.specs.declared.events.Field.{Field}
use Rattle.plain_table.specs.Table.{Table}
use Rattle.plain_table.specs.History.{next}
use Rattle.plain_table.specs.Scans.{Scanner, Scans, Ends, Others, Turn, Make}
use Rattle.table_laws.proofs.PauseActs.{IsPauseAct-make}
use Rattle.table_laws.proofs.PauseKeeps.{IsCalm, IsCalm-refl, IsCalm-join, calm-row}
use Rattle.worked_outcomes.proofs.ScansMay.{Along}

module _ (IsRead : Table → Field → ℕ → Type 0) (b : ℕ) where
  pub along-calm : (MayScan : Table → ℕ → Type 0) (Q : Table → Type 0) (at : Scanner) (s : Table) (es : List Event) (to : Scanner) →
      Scans MayScan IsRead b at s es to → All (λ (e : Event). e.by ≡ b) es → ((t : Table) → IsCalm s t → Q t) → Along Q s es
  along-calm MayScan Q _ _ _ _ (Ends at s) own holds = holds s (IsCalm-refl s)
  along-calm MayScan Q _ _ _ _ (Others at s e es to other rest) own holds = absurd (other (own 0 e (omega arith)))
  along-calm MayScan Q _ _ _ _ (Turn at mid s es to turn rest) own holds = along-calm MayScan Q mid s es to rest own holds
  along-calm MayScan Q _ _ _ _ (Make at mid s e es to by make rest) own holds = (
    holds s (IsCalm-refl s),
    along-calm MayScan Q mid (next s e) es to rest (λ k d within. own (suc k) d (omega arith))
        (λ t calm. holds t (IsCalm-join s (next s e) t (calm-row s e.by e.act (IsPauseAct-make IsRead b s e at mid make)) calm)),
  )
