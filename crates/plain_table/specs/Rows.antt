-- The table of events: one equation an act, with its three columns. `allowed` says where the event is legal, `reply`
-- what it answers, and `next` the table after it. What `next` does not name stays as it was. Before the rows stand the
-- words that they are said in.
use Rattle.std.specs.Prelude.{◌≡◌, ◌⊎◌, ℕ, ◌+◌, ◌^◌, ◌<◌, ◌≤◌, ◌==◌, nat_lt, nat_le, Bool, true, false, ◌&&◌, if◌then◌else◌, Option, Some, None, IsTrue, IsSome, IsSomeAnd, IfSome}
use Rattle.std.specs.Option.{option_map, option_map_or}
use Rattle.plain_table.specs.declared.events.Act.{Act}
use Rattle.plain_table.specs.declared.events.Act.TheVariants.{New, Drop, Get, Link, Take, Below, Abort, Put, Bind, Name, Look, Set, Swap, Forge, Publish, Mark, Evac, Scan, Start, Finish}
use Rattle.plain_table.specs.declared.events.Cell.{Cell}
use Rattle.plain_table.specs.declared.events.Space.{Space}
use Rattle.plain_table.specs.declared.events.Space.TheVariants.{External, Trusted}
use Rattle.plain_table.specs.declared.events.Field.{Field}
use Rattle.plain_table.specs.declared.events.Field.TheVariants as field
use Rattle.plain_table.specs.declared.events.Spot.{Spot}
use Rattle.plain_table.specs.declared.events.Spot.TheVariants.{Global, Ref}
use Rattle.plain_table.specs.declared.reports.Reply.{Reply}
use Rattle.plain_table.specs.declared.reports.Reply.TheVariants as reply
use Rattle.plain_table.specs.Index.{index_of}
use Rattle.plain_table.specs.Places.{space_of, object_of, same_space, put_at, put_pair, put_entry, put_field, put_claim}
use Rattle.plain_table.specs.Cycle.{Cycle, IsOld, IsTouched, is_from, start_in, moves_from, marked_in, born_in, scanned_in, touched_in, evacuated_in, aborted_in}
use Rattle.plain_table.specs.Table.{Table, least_free}
use Rattle.plain_table.specs.Finish.{id_at, IsOwn, CanFinish, started, finished}

-- a tag is a byte other than 0
abbrev pub IsTag : ℕ → Type 0
IsTag tag = (1 ≤ tag) × (tag < 256)

-- a tag is asked where it lies in the asked range, which has both of its ends
abbrev pub is_asked : ℕ → ℕ → ℕ → Bool
is_asked first last tag = nat_le first tag && nat_le tag last

-- a mutator holds an object where one of its 16 variables does
abbrev pub Holds : Table → ℕ → ℕ → Type 0
Holds s b o = (v : ℕ) × (v < 16) × (s.vars b v ≡ Some o)

-- a place that a number may read or link: a global, or a reference of an object that it holds; and what stands there
abbrev pub IsSpotOf : Table → ℕ → Spot → Type 0
IsSpotOf s b (Global g) = g < 16
IsSpotOf s b (Ref object k) = Holds s b object × (k < 4)

abbrev pub at_spot : Table → Spot → Option ℕ
at_spot s (Global g) = s.globals g
at_spot s (Ref object k) = s.refs object k

-- a variable that holds an object, or none at all; and the object that is to be linked
abbrev pub IsFull : Table → ℕ → Option ℕ → Type 0
IsFull s b None = Unit {0}
IsFull s b (Some var) = (var < 16) × IsSome (s.vars b var)

abbrev pub object_in : Table → ℕ → Option ℕ → Option ℕ
object_in s b None = None
object_in s b (Some var) = s.vars b var

-- the least free external index, where it is below a start
abbrev pub only_below : ℕ → Option ℕ → Option ℕ
only_below start None = None
only_below start (Some i) = if nat_lt i start then Some i else None

abbrev pub free_below : Table → ℕ → Option ℕ
free_below s start = only_below start (least_free s External)

-- what a look answers: null at index 0, the value of a shown cell whose tag is asked, and else a fault
abbrev pub seen_under : Option Cell → ℕ → ℕ → Reply
seen_under None first last = reply.Fault
seen_under (Some c) first last = if c.shown && is_asked first last c.tag then reply.Value c.value else reply.Fault

abbrev pub look : Table → Space → ℕ → ℕ → ℕ → Reply
look s p word first last =
    if index_of word == 0 then reply.Null else seen_under (s.cells p (index_of word)) first last

-- a cell whose tag is asked stands at the index that a word of the external space names
abbrev pub HasCell : Table → ℕ → ℕ → ℕ → Type 0
HasCell s word first last = IsSomeAnd (s.cells External (index_of word)) (λ c. IsTrue (is_asked first last c.tag))

-- the value of the cell at an index, and 0 where none stands
abbrev pub value_at : Option Cell → ℕ
value_at None = 0
value_at (Some c) = c.value

-- a put in the evacuation area comes only after an abort
abbrev pub MayFill : Table → Space → ℕ → Type 0
MayFill s External i = IfSome s.cycle (λ c. IfSome c.start (λ start. start ≤ i → IsTrue c.aborted))
MayFill s Trusted i = Unit {0}

-- a bind is fresh where its number filled the word's index and has not bound it yet
abbrev pub IsFreshBind : Table → ℕ → Field → ℕ → Type 0
IsFreshBind s b f word = IsTrue (s.fresh b (space_of f) (index_of word))

-- a bind is shared where a trusted field gets the word of a trusted cell that nobody is about to bind, and that is
-- marked in a cycle
pub record IsSharedBind (s : Table) (f : Field) (word : ℕ) : Type 0 where
  pub trusted : space_of f ≡ Trusted
  pub cell : IsSome (s.cells Trusted (index_of word))
  pub settled : (b : ℕ) → s.fresh b Trusted (index_of word) ≡ false
  pub marked : IfSome s.cycle (λ c. IsTrue (c.marks Trusted (index_of word)))

-- a cycle is under way, and this holds of it
abbrev pub InCycle : Table → (Cycle → Type 0) → Type 0
InCycle s P = IsSomeAnd s.cycle P

-- a word that stood in a field of the space since the start names the index
abbrev pub IsNamed : Cycle → Space → ℕ → Type 0
IsNamed c p i = (f : Field) × (w : ℕ) × (space_of f ≡ p) × (index_of w ≡ i) × IsTouched c f w

-- a cell does not move from its index, or the field that names it has an evacuation entry
abbrev pub IsPlaced : Cycle → Field → ℕ → Type 0
IsPlaced c (field.External number) i = (is_from (moves_from c) i ≡ false) ⊎ IsTrue (c.visited number)
IsPlaced c (field.Trusted number) i = Unit {0}

-- a bound field is safe where its own cell stands at its word's index, marked, and will not move without the field
abbrev pub IsSafe : Table → Cycle → Field → ℕ → Type 0
IsSafe s c f id =
    IsOwn s f id × IsTrue (c.marks (space_of f) (index_of (s.words f))) × IsPlaced c f (index_of (s.words f))

-- each bound field of the object is safe
abbrev pub AreSafe : Table → Cycle → ℕ → Type 0
AreSafe s c o = (f : Field) (id : ℕ) → object_of f ≡ o → s.bound f ≡ Some id → IsSafe s c f id

-- the next tables
abbrev pub with_object : Table → ℕ → ℕ → Table
with_object s b var = record s {
  vars = put_pair s.vars b var (Some s.count);
  count = s.count + 1;
  cycle = born_in s.cycle s.count;
}

abbrev pub with_taken : Table → ℕ → Space → Option ℕ → Table
with_taken s b p None = s
with_taken s b p (Some i) = record s {
  used = put_entry s.used p i true;
  owed = put_claim s.owed b p i true;
}

abbrev pub with_cell : Table → ℕ → Space → ℕ → ℕ → ℕ → Table
with_cell s b p i tag value = record s {
  cells = put_entry s.cells p i (Some (record { id = s.next; tag = tag; value = value; shown = same_space p External }));
  next = s.next + 1;
  owed = put_claim s.owed b p i false;
  fresh = put_claim s.fresh b p i true;
  cycle = marked_in s.cycle p i;
}

-- the tickets after a bind: the trusted cell that a number filled and bound is its own to publish
abbrev pub tickets_after : Table → ℕ → Space → ℕ → ℕ → Option ℕ
tickets_after s b External i = s.ticket
tickets_after s b Trusted i = if s.fresh b Trusted i then put_at s.ticket b (Some i) else s.ticket

abbrev pub with_bound : Table → ℕ → Field → ℕ → Table
with_bound s b f word = record s {
  words = put_field s.words f word;
  bound = put_field s.bound f (id_at s (space_of f) (index_of word));
  fresh = put_claim s.fresh b (space_of f) (index_of word) false;
  ticket = tickets_after s b (space_of f) (index_of word);
  cycle = touched_in s.cycle f word;
}

-- a cell that found its field taken is bound to none
abbrev pub with_unbound : Table → ℕ → Field → ℕ → Table
with_unbound s b f word = record s { fresh = put_claim s.fresh b (space_of f) (index_of word) false }

-- a store at the index of a word of the external space
abbrev pub with_value : Table → ℕ → ℕ → Table
with_value s i value = record s {
  cells = put_entry s.cells External i (option_map (λ (c : Cell). record c { value = value }) (s.cells External i));
  cycle = marked_in s.cycle External i;
}

-- a forged field holds the word, and names no cell as its own
abbrev pub with_forged : Table → ℕ → ℕ → Table
with_forged s number word = record s {
  words = put_field s.words (field.External number) word;
  bound = put_field s.bound (field.External number) None;
  cycle = touched_in s.cycle (field.External number) word;
}

abbrev pub with_linked : Table → Spot → Option ℕ → Table
with_linked s (Global g) x = record s { globals = put_at s.globals g x }
with_linked s (Ref object k) x = record s { refs = put_pair s.refs object k x }

-- a published cell can be seen, and its ticket is given up
abbrev pub with_published : Table → ℕ → ℕ → Table
with_published s b i = record s {
  cells = put_entry s.cells Trusted i (option_map (λ (c : Cell). record c { shown = true }) (s.cells Trusted i));
  ticket = put_at s.ticket b None;
  cycle = marked_in s.cycle Trusted i;
}

abbrev pub with_evacuation : Table → ℕ → ℕ → ℕ → Table
with_evacuation s b i number = record s {
  owed = put_claim s.owed b External i false;
  cycle = evacuated_in s.cycle i number;
}

abbrev pub finished_in : Table → Option Cycle → Table
finished_in s None = s
finished_in s (Some c) = finished s c

-- one row of the table of events
pub record Row : Type 1 where
  pub allowed : Type 0
  pub reply : Reply
  pub next : Table

abbrev pub row : Table → ℕ → Act → Row
row s b (New var) = record {
  allowed = (b < 8) × (var < 16);
  reply = if nat_lt s.count s.sizes.objects then reply.Obj s.count else reply.HeapFull;
  next = if nat_lt s.count s.sizes.objects then with_object s b var else s;
}
row s b (Drop var) = record {
  allowed = (b < 8) × (var < 16);
  reply = reply.Ok;
  next = record s { vars = put_pair s.vars b var None };
}
row s b (Get var spot) = record {
  allowed = (b < 8) × (var < 16) × IsSpotOf s b spot;
  reply = option_map_or reply.Obj (at_spot s spot) reply.Nothing;
  next = record s { vars = put_pair s.vars b var (at_spot s spot) };
}
row s b (Link spot var) = record {
  allowed = IsSpotOf s b spot × IsFull s b var;
  reply = reply.Ok;
  next = with_linked s spot (object_in s b var);
}
row s b (Take p) = record {
  allowed = Unit {0};
  reply = option_map_or reply.Index (least_free s p) reply.Full;
  next = with_taken s b p (least_free s p);
}
row s b (Below start) = record {
  allowed = start_in s.cycle ≡ Some start;
  reply = option_map_or reply.Index (free_below s start) reply.NoRoom;
  next = with_taken s b External (free_below s start);
}
row s b Abort = record {
  allowed = IsSomeAnd (start_in s.cycle) (λ start. free_below s start ≡ None);
  reply = reply.Ok;
  next = record s { cycle = aborted_in s.cycle };
}
row s b (Put p i tag value) = record {
  allowed = IsTrue (s.owed b p i) × IsTag tag × (value < 2 ^ 48) × MayFill s p i;
  reply = reply.Ok;
  next = with_cell s b p i tag value;
}
row s b (Bind f word) = record {
  allowed = Holds s b (object_of f) × (word < 2 ^ 32) × (IsFreshBind s b f word ⊎ IsSharedBind s f word);
  reply = if s.words f == 0 then reply.Ok else reply.Taken (s.words f);
  next = if s.words f == 0 then with_bound s b f word else with_unbound s b f word;
}
row s b (Name f) = record {
  allowed = Holds s b (object_of f);
  reply = reply.Word (s.words f);
  next = s;
}
row s b (Look p word first last) = record {
  allowed = Unit {0};
  reply = look s p word first last;
  next = s;
}
row s b (Set word first last value) = record {
  allowed = HasCell s word first last × (value < 2 ^ 48);
  reply = reply.Ok;
  next = with_value s (index_of word) value;
}
row s b (Swap word first last value) = record {
  allowed = HasCell s word first last × (value < 2 ^ 48);
  reply = reply.Value (value_at (s.cells External (index_of word)));
  next = with_value s (index_of word) value;
}
row s b (Forge number word) = record {
  allowed = Holds s b (object_of (field.External number)) × (word < 2 ^ 32);
  reply = reply.Ok;
  next = with_forged s number word;
}
row s b (Publish i) = record {
  allowed = s.ticket b ≡ Some i;
  reply = reply.Ok;
  next = with_published s b i;
}
row s b (Mark p i) = record {
  allowed = InCycle s (λ c. IsSome (s.cells p i) × IsNamed c p i);
  reply = reply.Ok;
  next = record s { cycle = marked_in s.cycle p i };
}
row s b (Evac i number) = record {
  allowed = IsTrue (s.owed b External i) × IsSomeAnd (start_in s.cycle) (λ start. i < start)
      × InCycle s (λ c. IsOld c (object_of (field.External number)));
  reply = reply.Ok;
  next = with_evacuation s b i number;
}
row s b (Scan o) = record {
  allowed = InCycle s (λ c. IsOld c o × (c.scans o ≡ false) × AreSafe s c o);
  reply = reply.Ok;
  next = record s { cycle = scanned_in s.cycle o };
}
row s b (Start policy) = record {
  allowed = (b ≡ 12) × (s.cycle ≡ None);
  reply = reply.Ok;
  next = started s policy;
}
row s b Finish = record {
  allowed = (b ≡ 12) × InCycle s (CanFinish s);
  reply = reply.Ok;
  next = finished_in s s.cycle;
}
