-- Parts of the work of a number that scans objects: from one place of its work to another, whichever table the phase began in.
use Rattle.std.specs.Prelude.{◌≡◌, ℕ, List, [], ◌∷◌, ◌++◌}
use Rattle.plain_table.specs.declared.events.Act.{Act}
use Rattle.plain_table.specs.declared.events.Act.TheVariants.{Scan}
use Rattle.plain_table.specs.declared.events.Event.{Event}
use Rattle.plain_table.specs.Table.{Table}
use Rattle.plain_table.specs.History.{after}
use Rattle.plain_table.specs.Scans.{Scanner, Scans, Turns, IsReadConcurrently}
use Rattle.entry_base.specs.declared.view.View.{View}
use Rattle.entry_base.specs.Openings.{IsBase}
use Rattle.call_base.specs.Called.{Called}

-- concurrently with mutators a marker may scan any object, and read any word that stood in a field in this cycle
abbrev pub any_object : Table → ℕ → Type 0
any_object s o = Unit {0}

abbrev pub ScansOn : ℕ → Scanner → Table → List Event → Scanner → Type 0
ScansOn b at s es to = Scans any_object IsReadConcurrently b at s es to

abbrev pub TurnsOn : Table → Scanner → Scanner → Type 0
TurnsOn s at to = Turns any_object IsReadConcurrently s at to

-- the objects whose scans stand in a list of events, in order
abbrev pub scanned_by : Act → List ℕ
scanned_by (Scan o) = o ∷ []
scanned_by _ = []

abbrev pub scanned_in : List Event → List ℕ
scanned_in [] = []
scanned_in (e ∷ es) = scanned_by e.act ++ scanned_in es

-- the view's own events since bring its number from one place of its work to another, with scans of just these objects, in order
pub record ScanPart (v : View) (at : Scanner) (w : View) (to : Scanner) (done : List ℕ) : Type 0 where
  pub own : List Event
  pub called : Called v own w
  pub scanned : scanned_in own ≡ done
  pub grown : List Event
  pub seen : w.seen ≡ v.seen ++ grown
  pub scans : (b : Table) → IsBase v.opening b → ScansOn v.number at (after b v.seen) grown to
