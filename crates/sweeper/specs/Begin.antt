-- The start of a cycle on an image.
use Rattle.std.specs.Prelude.{◌≡◌, ◌≢◌, ◌⊎◌, ◌↔◌, ℕ, ◌+◌, ◌<◌, ◌≤◌, nat_le, Bool, if◌then◌else◌, List, length, slice_index, Option, None, unwrap_or}
use Rattle.std.specs.List.{Contains}
use Rattle.plain_table.specs.declared.scripts.Policy.{Policy}
use Rattle.plain_table.specs.Reachable.{IsRoot}
use Rattle.plain_table.specs.Table.{Table}
use Rattle.plain_table.specs.Finish.{started, area_of}
use Rattle.plain_table.specs.Sound.{IsSound}
use Rattle.plain_table.specs.Shows.{Image, ImageShows, IsShaded, IsCovered}
use Rattle.plain_table.specs.Words.{area_place, count_place, phase_place, header_place}
use Rattle.sweeper.specs.declared.area.Area.{Area}
use Rattle.sweeper.specs.Roots.{is_held}
use Rattle.sweeper.specs.Bits.{without_mark}

-- the entries at `limit` places from `base` on have lost the marking bit
pub record IsUnmarked (old now : List ℕ) (base limit : ℕ) : Type 0 where
  pub long : length now ≡ length old
  pub entries : (k : ℕ) → k < limit → slice_index now (base + k) ≡ without_mark (slice_index old (base + k))
  pub rest : (place : ℕ) → (place < base) ⊎ (base + limit ≤ place) → slice_index now place ≡ slice_index old place

-- the header of an object at the start of a cycle
abbrev pub first_header : (count : ℕ) (held : Bool) (o : ℕ) → ℕ
first_header count held o = if nat_le count o then 3 else (if held then 1 else 0)

-- all headers are those of the start of a cycle, where `count` objects are made
pub record AreHeaders (old now : List ℕ) (held : List Bool) (count : ℕ) : Type 0 where
  pub long : length now ≡ length old
  pub headers : (o : ℕ) → o < length held → slice_index now (header_place o) ≡ first_header count (is_held held o) o
  pub rest : (place : ℕ) → ((o : ℕ) → o < length held → place ≢ header_place o) → slice_index now place ≡ slice_index old place

-- all words are those of the start of a cycle
pub record IsOpened (old now : List ℕ) (held : List Bool) (many : ℕ) (start : Option ℕ) : Type 0 where
  pub long : length now ≡ length old
  pub area : slice_index now area_place ≡ unwrap_or start 0
  pub phase : slice_index now phase_place ≡ 1
  pub headers : (o : ℕ) → o < length held → slice_index now (header_place o) ≡ first_header (slice_index old count_place) (is_held held o) o
  pub entries : (k : ℕ) → k < many → slice_index now (header_place (length held) + k) ≡ without_mark (slice_index old (header_place (length held) + k))
  pub rest : (place : ℕ) → place < header_place (length held) → place ≢ area_place → place ≢ phase_place →
      ((o : ℕ) → o < length held → place ≢ header_place o) → slice_index now place ≡ slice_index old place

-- a table outside a cycle that the image showed is shown after the start, and covered; the area begins where the start
-- decides, and the roots are the distinct objects in globals and variables, ascending and shaded
pub record IsBegun (old now : Image) (policy : Policy) (area : Area) (s : Table) : Type 0 where
  pub shows : ImageShows now (started s policy)
  pub covered : IsCovered now.words (started s policy)
  pub start : area.start ≡ area_of s policy
  pub listed : (o : ℕ) → Contains area.roots.items o ↔ IsRoot s.globals s.vars o
  pub ascending : (i j : ℕ) → i < j → j < length area.roots.items → slice_index area.roots.items i < slice_index area.roots.items j
  pub shaded : (o : ℕ) → IsRoot s.globals s.vars o → IsShaded now.words o

abbrev pub Begins : Image → Image → Policy → Area → Type 0
Begins old now policy area = (s : Table) → IsSound s → s.cycle ≡ None → ImageShows old s → IsBegun old now policy area s

-- there is room to list that many objects
abbrev pub HasRoom : Area → ℕ → Type 0
HasRoom area objects = length area.work.items ≡ objects
