-- The sweep of all words: the moves, both spaces, and the headers and the words of the cycle.
use Rattle.std.specs.Prelude.{◌≡◌, ◌≢◌, ◌⊎◌, ℕ, ◌+◌, ◌*◌, ◌/◌, ◌<◌, ◌≤◌, ◌^◌, ◌==◌, ◌||◌, nat_le, if◌then◌else◌, List, length, slice_index, Option, Some, None, is_some}
use Rattle.plain_table.specs.declared.events.Space.TheVariants.{External}
use Rattle.plain_table.specs.declared.events.Field.TheVariants as field
use Rattle.plain_table.specs.declared.reports.Compaction.{Compaction}
use Rattle.plain_table.specs.declared.reports.Compaction.TheVariants.{NoArea, Done, Aborted}
use Rattle.plain_table.specs.declared.reports.SweepReport.{SweepReport}
use Rattle.plain_table.specs.Area.{count_below}
use Rattle.plain_table.specs.Cycle.{Cycle}
use Rattle.plain_table.specs.Table.{Table, Sizes, limit_of}
use Rattle.plain_table.specs.Finish.{target, rewritten, finished}
use Rattle.plain_table.specs.Words.{field_place}
use Rattle.plain_table.specs.Shows.{Shows}
use Rattle.plain_table.specs.Sound.{IsSound}
use Rattle.plain_table.specs.Sweeps.{cells_in, IsSweep}
use Rattle.sweeper.specs.Small.{AreSmall}
use Rattle.word_laws.specs.Kinds.{is_cell_word}
use Rattle.sweeper.specs.Pass.{moved_after, entries_from}
use Rattle.sweeper.specs.Ready.{IsReady}
use Rattle.sweeper.specs.Moves.{external_base}
use Rattle.entry_word.specs.declared.image.Shape.{Shape}

-- what every valid shape has
pub record IsSmallShape (shape : Shape) : Type 0 where
  pub seg : 1 ≤ shape.seg
  pub ext : (1 ≤ shape.ext) × (shape.seg * shape.ext ≤ 65536)
  pub tru : (1 ≤ shape.tru) × (shape.seg * shape.tru ≤ 65536)
  pub objects : shape.objects ≤ 16384

-- the words show a sound table in a cycle
pub record IsShown (s : Table) (c : Cycle) (words : List ℕ) (sizes : Sizes) : Type 0 where
  pub sound : IsSound s
  pub cycle : s.cycle ≡ Some c
  pub small : AreSmall s
  pub same : s.sizes ≡ sizes
  pub shows : Shows words s

abbrev pub IsShownBySome : List ℕ → Sizes → Type 0
IsShownBySome words sizes = (s : Table) × (c : Cycle) × IsShown s c words sizes

-- the cells have moved, where they do, and all that stays stands below `from`
pub record IsResolved (s : Table) (c : Cycle) (old now : List ℕ) (from : ℕ) : Type 0 where
  pub long : length now ≡ length old
  pub ready : IsReady s c External (entries_from now (external_base s)) from
  pub fields : (n : ℕ) → n / 2 < s.sizes.objects → slice_index now (field_place (field.External n)) ≡ rewritten c s.words (field.External n)
  pub rest : (place : ℕ) → (place < external_base s) ⊎ (external_base s + limit_of s External ≤ place) →
      ((n : ℕ) → n / 2 < s.sizes.objects → place ≢ field_place (field.External n)) → slice_index now place ≡ slice_index old place
  pub many : count_below (λ i. is_cell_word (slice_index now (external_base s + i))) (limit_of s External) ≡ cells_in s External
  pub moved : count_below (moved_after (entries_from now (external_base s)) from) (limit_of s External) ≡ count_below (λ i. is_some (target c s.words i)) (limit_of s External)

-- the words of the cycle and all headers are 0
pub record IsTidied (old now : List ℕ) (objects : ℕ) : Type 0 where
  pub long : length now ≡ length old
  pub area : slice_index now 1 ≡ 0
  pub phase : slice_index now 4 ≡ 0
  pub headers : (o : ℕ) → o < objects → slice_index now (32 + 8 * o) ≡ 0
  pub rest : (place : ℕ) → place ≢ 1 → place ≢ 4 → ((o : ℕ) → o < objects → place ≢ 32 + 8 * o) → slice_index now place ≡ slice_index old place

-- what the area word tells: where moving cells begin, and how the compaction ends
abbrev pub moving_of : ℕ → Option ℕ
moving_of area = if (area == 0) || nat_le (2 ^ 32) area then None else Some area

abbrev pub compaction_of : ℕ → Compaction
compaction_of area = if area == 0 then NoArea else (if nat_le (2 ^ 32) area then Aborted else Done)

abbrev pub AreResolved : (old now : List ℕ) → Sizes → ℕ → Type 0
AreResolved old now sizes from = (s : Table) (c : Cycle) → IsShown s c old sizes → IsResolved s c old now from

-- each table that the words showed is shown after its finish, and the report is that of the finish
abbrev pub SweepsAll : (old now : List ℕ) → Sizes → SweepReport → Type 0
SweepsAll old now sizes report = (s : Table) (c : Cycle) → IsShown s c old sizes → Shows now (finished s c) × IsSweep s c (finished s c) report
