-- Late marking on words: what the scan of an object writes, and how far the marking of a pause has come.
use Rattle.std.specs.Prelude.{◌≡◌, ◌≢◌, ℕ, ◌+◌, ◌*◌, ◌<◌, ◌≤◌, true, List, length, slice_index, slice_set, Some}
use Rattle.std.specs.List.{All}
use Rattle.plain_table.specs.declared.events.Event.{Event}
use Rattle.plain_table.specs.declared.events.Field.TheVariants as field
use Rattle.plain_table.specs.Index.{index_of}
use Rattle.plain_table.specs.Cycle.{Cycle}
use Rattle.plain_table.specs.Table.{Table, Sizes}
use Rattle.plain_table.specs.Words.{field_place, header_place, header_word}
use Rattle.plain_table.specs.Scans.{Rest}
use Rattle.plain_table.specs.Shows.{IsCoveredIn}
use Rattle.plain_table.specs.Sound.{IsSound}
use Rattle.plain_table.specs.Sweeps.{IsDue}
use Rattle.word_laws.specs.Runs.{IsRun, marked_after}
use Rattle.table_laws.specs.Pauses.{IsPauseAct, scans_in}
use Rattle.sweeper.specs.Shading.{header_of, white_in, named_at, Shades}
use Rattle.sweeper.specs.Small.{AreSmall}
use Rattle.sweeper.specs.Visits.{visited}

-- the words after the visits of an object's fields, and after its scan
abbrev pub external_visits : List ℕ → Sizes → ℕ → List ℕ
external_visits words z o = visited (visited words (32 + 8 * z.objects) (z.seg * z.ext) (2 * o)) (32 + 8 * z.objects) (z.seg * z.ext) (2 * o + 1)

abbrev pub trusted_visit : List ℕ → Sizes → ℕ → List ℕ
trusted_visit words z o = marked_after words (32 + 8 * z.objects + z.seg * z.ext) (z.seg * z.tru) (index_of (slice_index words (field_place (field.Trusted o))))

abbrev pub all_visited : List ℕ → Sizes → ℕ → List ℕ
all_visited words z o = trusted_visit (external_visits words z o) z o

abbrev pub object_scanned : List ℕ → Sizes → ℕ → List ℕ
object_scanned words z o = slice_set (all_visited words z o) (header_place o) (header_word true true)

-- the objects that an object's references hold are shaded, its fields are visited, and it is scanned
pub record IsObjectScanned (old now list listed : List ℕ) (len end : ℕ) (z : Sizes) (o : ℕ) : Type 0 where
  pub mid : List ℕ
  pub shading : Shades old mid list listed len end (named_at old (33 + 8 * o) 4)
  pub words : now ≡ object_scanned mid z o
  pub room : end + white_in now (length list) ≡ len + white_in old (length list)

-- the shaded objects that are not scanned stand in the list, each once, from `next` on below `end`
pub record IsQueue (words list : List ℕ) (next end count : ℕ) : Type 0 where
  pub each : (j : ℕ) → next ≤ j → j < end → (slice_index list j < count) × (header_of words (slice_index list j) ≡ 1)
  pub all : (o : ℕ) → o < count → header_of words o ≡ 1 → (j : ℕ) × (next ≤ j) × (j < end) × (slice_index list j ≡ o)
  pub differ : (i j : ℕ) → next ≤ i → i < j → j < end → slice_index list i ≢ slice_index list j

-- from the words `old`, which show a table in a cycle, `next` objects were scanned, and those in the list are to be scanned
pub record IsMarking (linked old words list : List ℕ) (next end : ℕ) (s : Table) (c : Cycle) : Type 0 where
  pub sound : IsSound s
  pub cycle : s.cycle ≡ Some c
  pub small : AreSmall s
  pub many : length list ≡ s.sizes.objects
  pub order : next ≤ end
  pub events : List Event
  pub run : IsRun linked Rest Rest words s events
  pub acts : All (λ (e : Event). IsPauseAct e.act) events
  pub covered : IsCoveredIn words s c
  pub queue : IsQueue words list next end s.count
  pub due : (j : ℕ) → next ≤ j → j < end → IsDue s c linked (slice_index list j)
  pub counted : scans_in events ≡ next
  pub kept : (o : ℕ) → o < s.sizes.objects → header_of old o ≢ 0 → header_of words o ≢ 0

-- there is such a table with these sizes; and for each of them all in the list are scanned
abbrev pub MarksSome : List ℕ → List ℕ → ℕ → Sizes → Type 0
MarksSome words list end z = (linked : List ℕ) × (s : Table) × (c : Cycle) × (s.sizes ≡ z) × IsMarking linked words words list 0 end s c

abbrev pub MarksFrom : (old words first list : List ℕ) → (begin next end : ℕ) → Sizes → Type 0
MarksFrom old words first list begin next end z =
    (linked : List ℕ) (s : Table) (c : Cycle) → s.sizes ≡ z → IsMarking linked old old first 0 begin s c → IsMarking linked old words list next end s c
