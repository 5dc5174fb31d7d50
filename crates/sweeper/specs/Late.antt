-- Late marking of an image: what is handed over to it, and what it leaves.
use Rattle.std.specs.Prelude.{◌≡◌, ◌≢◌, ℕ, ◌+◌, ◌*◌, ◌<◌, ◌≤◌, ◌||◌, List, length, slice_index, Some, IsTrue}
use Rattle.std.specs.List.{All, Contains}
use Rattle.plain_table.specs.declared.events.Event.{Event}
use Rattle.plain_table.specs.Reachable.{IsRoot}
use Rattle.plain_table.specs.Cycle.{Cycle}
use Rattle.plain_table.specs.Table.{Table, Sizes}
use Rattle.plain_table.specs.Words.{count_place, object_word}
use Rattle.plain_table.specs.Rows.{InCycle}
use Rattle.plain_table.specs.Scans.{IsReadAtMeet, Rest, Scans}
use Rattle.plain_table.specs.History.{IsLegalHistory, after}
use Rattle.plain_table.specs.Shows.{Image, ImageShows, IsShaded, IsScanned, IsCovered, IsCoveredIn}
use Rattle.plain_table.specs.Sound.{IsSound}
use Rattle.plain_table.specs.Sweeps.{IsDue, IsPause, MayScanAtMeet, meeting}
use Rattle.word_laws.specs.Runs.{IsRun}
use Rattle.table_laws.specs.Pauses.{IsPauseAct, scans_in}
use Rattle.sweeper.specs.Shading.{white_in}
use Rattle.sweeper.specs.Whole.{IsShown}

-- the objects that are shaded and not scanned, each once
pub record AreOwed (words shaded : List ℕ) : Type 0 where
  pub listed : (o : ℕ) → o < slice_index words count_place → IsShaded words o → (IsScanned words o → ⊥) → Contains shaded o
  pub owed : (o : ℕ) → Contains shaded o → (o < slice_index words count_place) × IsShaded words o × (IsScanned words o → ⊥)
  pub differ : (i j : ℕ) → i < j → j < length shaded → slice_index shaded i ≢ slice_index shaded j

-- a list of n objects has room for these objects and all white ones, where as many objects as there are fit it
abbrev pub OwedObjectsLeaveRoom : Type 0
OwedObjectsLeaveRoom =
    (words shaded : List ℕ) (n : ℕ) → AreOwed words shaded → slice_index words count_place ≤ n → length shaded + white_in words n ≤ n

-- the objects that are handed over are due in the cycle, its roots are shaded, and so are the objects that were linked in it
pub record AreHandedOver (words shaded linked : List ℕ) (s : Table) (c : Cycle) : Type 0 where
  pub due : (o : ℕ) → Contains shaded o → IsDue s c linked o
  pub roots : (o : ℕ) → IsRoot c.globals c.vars o → IsShaded words o
  pub links : (o : ℕ) → Contains linked o → (o < s.count) × IsShaded words o

-- whole scans by the meet's number, of due objects by the words that stand in fields; they are the pause of a finish,
-- which leaves no due object out, where the roots of the cycle's start and the objects that were linked in it were shaded
pub record IsLateMarked (old now : Image) (shaded linked : List ℕ) (scanned : ℕ) (s : Table) (c : Cycle) : Type 0 where
  pub events : List Event
  pub legal : IsLegalHistory s events
  pub own : All (λ (e : Event). e.by ≡ meeting) events
  pub scans : Scans (MayScanAtMeet linked) IsReadAtMeet meeting Rest s events Rest
  pub pause : AreHandedOver old.words shaded linked s c → IsPause linked s events
  pub shows : ImageShows now (after s events)
  pub covered : IsCovered now.words (after s events)
  pub counted : scanned ≡ scans_in events

-- for each table in a cycle that the image showed and was covered in, and each list of linked objects by which the shaded
-- ones are due: there is one for each table, since they are by that of the shaded ones themselves
abbrev pub LateMarks : Image → Image → List ℕ → ℕ → Type 0
LateMarks old now shaded scanned =
    (s : Table) (c : Cycle) (linked : List ℕ) → IsSound s → s.cycle ≡ Some c → ImageShows old s → IsCovered old.words s →
    ((o : ℕ) → Contains shaded o → IsDue s c linked o) → IsLateMarked old now shaded linked scanned s c

-- the same of words and variables alone
abbrev pub HoldVariables : List ℕ → Table → Type 0
HoldVariables vars s = (length vars ≡ 128) × ((b v : ℕ) → b < 8 → v < 16 → slice_index vars (16 * b + v) ≡ object_word (s.vars b v))

pub record IsLateStart (words vars : List ℕ) (z : Sizes) (s : Table) (c : Cycle) : Type 0 where
  pub shown : IsShown s c words z
  pub covered : IsCoveredIn words s c
  pub variables : HoldVariables vars s

-- the run of a pause, which is complete where what it has to be handed over was
pub record IsLateEnd (old now shaded linked : List ℕ) (scanned : ℕ) (s : Table) (c : Cycle) : Type 0 where
  pub events : List Event
  pub acts : All (λ (e : Event). IsPauseAct e.act) events
  pub run : IsRun linked Rest Rest now s events
  pub covered : IsCovered now (after s events)
  pub counted : scanned ≡ scans_in events
  pub complete : AreHandedOver old shaded linked s c → InCycle (after s events) (λ d. (o : ℕ) → IsDue (after s events) d linked o → IsTrue (d.scans o || d.born o))

-- nothing is owed: a made object that is shaded or a root is scanned
pub record NothingOwed (words vars : List ℕ) : Type 0 where
  pub shaded : (o : ℕ) → o < slice_index words count_place → IsShaded words o → IsScanned words o
  pub globals : (g o : ℕ) → g < 16 → slice_index words (16 + g) ≡ o + 1 → IsScanned words o
  pub variables : (b v o : ℕ) → b < 8 → v < 16 → slice_index vars (16 * b + v) ≡ o + 1 → IsScanned words o

abbrev pub LateSome : (words vars : List ℕ) → Sizes → Type 0
LateSome words vars z = (s : Table) × (c : Cycle) × IsLateStart words vars z s c

abbrev pub IsLateFrom : (old now vars shaded : List ℕ) → Sizes → ℕ → Type 0
IsLateFrom old now vars shaded z scanned =
    (s : Table) (c : Cycle) (linked : List ℕ) → IsLateStart old vars z s c → ((o : ℕ) → Contains shaded o → IsDue s c linked o) →
    IsLateEnd old now shaded linked scanned s c

-- a list that begins with these objects
pub record IsListedFirst (list objects : List ℕ) : Type 0 where
  pub first : (k : ℕ) → k < length objects → slice_index list k ≡ slice_index objects k
