-- Images as the model sees them, and when one may be swept.
use Rattle.std.specs.Prelude.{◌≡◌, ℕ, ◌+◌, ◌*◌, ◌<◌, List, length, slice_index, slice_index_or, nat_lt, ◌&&◌, if◌then◌else◌, Option, Some, None}
use Rattle.plain_table.specs.declared.reports.SweepReport.{SweepReport}
use Rattle.plain_table.specs.Cycle.{Cycle}
use Rattle.plain_table.specs.Table.{Table}
use Rattle.plain_table.specs.Finish.{CanFinish, finished}
use Rattle.plain_table.specs.Words.{count_place, global_place}
use Rattle.plain_table.specs.Sound.{IsSound}
use Rattle.plain_table.specs.Shows.{Image, ImageShows, IsShaded, IsScanned, IsCovered}
use Rattle.plain_table.specs.Sweeps.{IsSweep}
use Rattle.entry_word.specs.declared.image.Pending as pendings
use Rattle.word_laws.specs.Kinds.{is_marked_word}

-- each made object that is shaded, or stands in a global or a variable, has its scanned bit
pub record IsAllScanned (image : Image) : Type 0 where
  pub shaded : (o : ℕ) → o < slice_index image.words count_place → IsShaded image.words o → IsScanned image.words o
  pub globals : (g o : ℕ) → g < 16 → slice_index image.words (global_place g) ≡ o + 1 → IsScanned image.words o
  pub variables : (b v o : ℕ) → b < 8 → v < 16 → slice_index image.variables (16 * b + v) ≡ o + 1 → IsScanned image.words o

-- a pending cell whose entry is not marked is dropped
abbrev pub pending_kept : List ℕ → (base limit : ℕ) → Option pendings.Pending → Option pendings.Pending
pending_kept words base limit None = None
pending_kept words base limit (Some p) = if nat_lt p.index limit && is_marked_word (slice_index words (base + p.index)) then Some p else None

pub record AreKept (old now : List (Option pendings.Pending)) (words : List ℕ) (base limit : ℕ) : Type 0 where
  pub long : length now ≡ length old
  pub each : (k : ℕ) (d : Option pendings.Pending) → k < length old → slice_index_or now k d ≡ pending_kept words base limit (slice_index_or old k d)

-- each table in a cycle that the image showed may finish, and is shown after the finish
pub record IsSweptTo (old now : Image) (report : SweepReport) (s : Table) (c : Cycle) : Type 0 where
  pub may : CanFinish s c
  pub shows : ImageShows now (finished s c)
  pub reported : IsSweep s c (finished s c) report

abbrev pub SweepsImage : Image → Image → SweepReport → Type 0
SweepsImage old now report =
    (s : Table) (c : Cycle) → IsSound s → s.cycle ≡ Some c → ImageShows old s → IsCovered old.words s → IsSweptTo old now report s c
