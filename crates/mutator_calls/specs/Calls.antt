-- What a call of the one mutator makes: events of its shape and reply, legal after what was before, for each sound table
-- that the image showed and was covered in; the image shows the table after them. And what a cycle keeps for its finish.
use Rattle.std.specs.Prelude.{◌≡◌, ◌⊎◌, ℕ, ◌<◌, ◌≤◌, List, length, take, slice_index, Option, IfSome, IsSomeAnd}
use Rattle.std.specs.List.{AllByRecursion, Contains}
use Rattle.plain_table.specs.declared.scripts.Op.{Op}
use Rattle.plain_table.specs.declared.events.Event.{Event}
use Rattle.plain_table.specs.declared.reports.Reply.{Reply}
use Rattle.plain_table.specs.Reachable.{IsRoot}
use Rattle.plain_table.specs.Cycle.{Cycle}
use Rattle.plain_table.specs.Table.{Table}
use Rattle.plain_table.specs.Words.{phase_place}
use Rattle.plain_table.specs.History.{IsLegalHistory, after}
use Rattle.plain_table.specs.Shapes.{IsShape, held_after, own_after, with_ticket}
use Rattle.plain_table.specs.Sweeps.{linked_after}
use Rattle.plain_table.specs.Sound.{IsSound}
use Rattle.plain_table.specs.Shows.{Image, ImageShows, IsCovered, IsLawful, IsShaded}
use Rattle.entry_word.specs.Image.{IsValidShape, image_of}
use Rattle.sweeper.specs.Begin.{HasRoom}
use Rattle.sweeper.specs.Late.{AreOwed}
use Rattle.mutator_calls.specs.declared.heap.Mutator.{Mutator}

-- the image shows the table, which is sound, and is covered in it
pub record Sees (image : Image) (s : Table) : Type 0 where
  pub sound : IsSound s
  pub shows : ImageShows image s
  pub covered : IsCovered image.words s

-- the objects that are shaded and not scanned
abbrev pub owed_of : Mutator → List ℕ
owed_of m = take m.owed m.list.items

-- a mutator between two calls: its image is lawful, it lists the objects that are shaded and not scanned, each once, in a
-- list with room for all objects, and in a cycle it has what the start gave
pub record IsReady (m : Mutator) : Type 0 where
  pub shape : IsValidShape m.image.shape
  pub lawful : IsLawful (image_of m.image)
  pub room : length m.list.items ≡ m.image.shape.objects
  pub few : m.owed ≤ m.image.shape.objects
  pub owed : AreOwed m.image.words.items (owed_of m)
  pub area : slice_index m.image.words.items phase_place ≡ 1 → IsSomeAnd m.area (λ a. HasRoom a m.image.shape.objects)

-- in a cycle each listed object was a root at the start or was linked to a reference since, and these are all shaded
pub record AreHanded (words listed linked : List ℕ) (count : ℕ) (c : Cycle) : Type 0 where
  pub due : (o : ℕ) → Contains listed o → IsRoot c.globals c.vars o ⊎ Contains linked o
  pub roots : (o : ℕ) → IsRoot c.globals c.vars o → IsShaded words o
  pub links : (o : ℕ) → Contains linked o → (o < count) × IsShaded words o

abbrev pub HandsOver : Mutator → List ℕ → Table → Type 0
HandsOver m linked s = IfSome s.cycle (AreHanded m.image.words.items (owed_of m) linked s.count)

-- a call of mutator 0 at the table s, with its reply
pub record Makes (old new : Mutator) (s : Table) (call : Op) (said : Reply) : Type 0 where
  pub events : List Event
  pub legal : IsLegalHistory s events
  pub own : AllByRecursion (λ (e : Event). e.by ≡ 0) events
  pub shape : IsShape 0 s.cycle (s.vars 0) (s.ticket 0) call said events
  pub held : held_after (s.vars 0) events ≡ (after s events).vars 0
  pub ticket : own_after (with_ticket (s.ticket 0)) events ≡ with_ticket ((after s events).ticket 0)
  pub sees : Sees (image_of new.image) (after s events)
  pub handed : (linked : List ℕ) → HandsOver old linked s → HandsOver new (linked_after s linked events) (after s events)

-- the same at each table that the image showed
abbrev pub MakesEach : Mutator → Mutator → Op → Reply → Type 0
MakesEach old new call said = (s : Table) → Sees (image_of old.image) s → Makes old new s call said
