-- What the steps of marking tell their seat: a marker's loads, the mark of an entry, shading and the scan of an object.
use Rattle.std.specs.Prelude.{◌≡◌, ◌≢◌, ◌⊎◌, ℕ, zero, suc, ◌%◌, ◌^◌, ◌<◌, ◌≤◌, ◌==◌, ◌||◌, nat_le, Bool, true, if◌then◌else◌, List, [], ◌∷◌, ◌++◌, None, IsTrue, IsSome}
use Rattle.plain_table.specs.declared.events.Act.TheVariants as act
use Rattle.plain_table.specs.declared.events.Event.{Event}
use Rattle.plain_table.specs.declared.events.Field.{Field}
use Rattle.plain_table.specs.declared.events.Space.{Space}
use Rattle.plain_table.specs.declared.events.Space.TheVariants.{Trusted}
use Rattle.plain_table.specs.declared.reports.Reply.TheVariants as reply
use Rattle.plain_table.specs.History.{after}
use Rattle.plain_table.specs.Index.{index_of}
use Rattle.plain_table.specs.Places.{object_of, space_of}
use Rattle.plain_table.specs.Rows.{InCycle}
use Rattle.plain_table.specs.Table.{Table}
use Rattle.plain_table.specs.Words.{object_word}
use Rattle.word_laws.specs.ReadLaws.{has_mark, tag_bits}
use Rattle.entry_base.specs.declared.view.Fact.{Fact}
use Rattle.entry_base.specs.declared.view.Fact.TheVariants as fact
use Rattle.entry_base.specs.declared.view.Opening.{Opening}
use Rattle.entry_base.specs.declared.view.View.{View}
use Rattle.entry_base.specs.Callers.{SameCaller, SameOwn, Looks, Extends, event_of}
use Rattle.entry_base.specs.Learned.{Loaded}
use Rattle.entry_base.specs.Lists.{Has, StartsWith, count_in, without_one}
use Rattle.entry_base.specs.Openings.{IsBase, phase_of, sizes_in}
use Rattle.entry_base.specs.Owns.{IsHeld}

-- an object of the hands
abbrev pub InHands : View → ℕ → Type 0
InHands v o = 1 ≤ count_in o v.hands

-- what is so at a moment, whichever table the phase began in: the field has the word, the reference holds an object or nothing,
-- a cell stands at the index or none does, and a cycle is under way in which the index is marked or not
abbrev pub StandsIn : Opening → List Event → Field → ℕ → Type 0
StandsIn key h f w = (b : Table) → IsBase key b → (after b h).words f ≡ w

abbrev pub HoldsAt : Opening → List Event → ℕ → ℕ → ℕ → Type 0
HoldsAt key h o k w = (b : Table) → IsBase key b → object_word ((after b h).refs o k) ≡ w

abbrev pub NoneThere : Opening → List Event → Space → ℕ → Type 0
NoneThere key h p i = (b : Table) → IsBase key b → (after b h).cells p i ≡ None

abbrev pub SomeThere : Opening → List Event → Space → ℕ → Type 0
SomeThere key h p i = (b : Table) → IsBase key b → IsSome ((after b h).cells p i)

abbrev pub HasMarkAfter : Opening → List Event → Space → ℕ → Bool → Type 0
HasMarkAfter key h p i marked = (b : Table) → IsBase key b → InCycle (after b h) (λ c. c.marks p i ≡ marked)

-- a word that can name no cell: its index is 0, or not below the limit
abbrev pub is_out : ℕ → ℕ → Bool
is_out limit w = (index_of w == 0) || nat_le limit (index_of w)

-- what a word tells that was found in a field of an object of the hands: the field has it or is safe, and it stood there; and
-- where it can name no cell, there is nothing to mark or to move
abbrev pub out_facts : Bool → Field → ℕ → List Fact
out_facts out f w = if out then fact.Visited (space_of f) (index_of w) ∷ fact.Placed f w ∷ [] else []

abbrev pub word_facts : ℕ → Field → ℕ → List Fact
word_facts limit f zero = fact.Read f 0 ∷ out_facts (is_out limit 0) f 0
word_facts limit f (suc n) = fact.Read f (suc n) ∷ fact.Touched f (suc n) ∷ out_facts (is_out limit (suc n)) f (suc n)

pub record WordLoaded (v : View) (limit : ℕ) (f : Field) (found : ℕ) (w : View) : Type 0 where
  pub loaded : Loaded v (word_facts limit f found) w
  pub small : found < 2 ^ 32
  pub stands : StandsIn v.opening w.seen f found

-- and one that was found in a reference
abbrev pub reference_facts : ℕ → ℕ → ℕ → List Fact
reference_facts o k zero = fact.Reference o k 0 ∷ []
reference_facts o k (suc q) = fact.Reference o k (suc q) ∷ fact.Traced q ∷ []

pub record ReferenceLoaded (v : View) (o k found : ℕ) (w : View) : Type 0 where
  pub loaded : Loaded v (reference_facts o k found) w
  pub low : found ≤ (sizes_in v.opening).objects
  pub holds : HoldsAt v.opening w.seen o k found

-- the entry at a word of a field may be read by whoever scans the field's object, and for a trusted field by all
abbrev pub MayRead : View → Field → Type 0
MayRead v f = (space_of f ≡ Trusted) ⊎ InHands v (object_of f)

-- the load of an entry: no cell stands there, so that nothing is to be marked or moved; or one does, and its word is known
abbrev pub entry_facts : Field → ℕ → ℕ → List Fact
entry_facts f word found =
    if tag_bits found == 0 then fact.Visited (space_of f) (index_of word) ∷ fact.Placed f word ∷ []
    else fact.Entry (space_of f) (index_of word) (found % 2 ^ 62) ∷ []

pub record EntryLoaded (v : View) (f : Field) (word found : ℕ) (w : View) : Type 0 where
  pub loaded : Loaded v (entry_facts f word found) w
  pub none : tag_bits found ≡ 0 → NoneThere v.opening w.seen (space_of f) (index_of word)
  pub some : tag_bits found ≢ 0 → SomeThere v.opening w.seen (space_of f) (index_of word)

-- an index was marked, which had the mark already or not
pub record Marked (v : View) (p : Space) (i : ℕ) (had : Bool) (w : View) : Type 0 where
  pub same : SameCaller v w
  pub own : SameOwn v w
  pub hands : w.hands ≡ v.hands
  pub extends : Extends v (event_of v (act.Mark p i) reply.Ok) w
  pub before : List Event
  pub since : StartsWith before v.seen
  pub last : w.seen ≡ before ++ event_of v (act.Mark p i) reply.Ok ∷ []
  pub was : HasMarkAfter v.opening before p i had
  pub knows : Has w.facts (fact.Marked p i) × Has w.facts (fact.Visited p i)

-- the load that may be the event of a mark: where it shows a marked cell
abbrev pub IsMarkedWord : ℕ → Type 0
IsMarkedWord found = (tag_bits found ≢ 0) × IsTrue (has_mark found)

pub record MarkLoaded (v : View) (f : Field) (word found : ℕ) (w : View) : Type 0 where
  pub marked : IsMarkedWord found → Marked v (space_of f) (index_of word) true w
  pub unmarked : (IsMarkedWord found → ⊥) → EntryLoaded v f word found w

-- the exchange of an unmarked cell's word for the marked one: it won and found no mark, or it found the entry marked
pub record MarkExchanged (v : View) (p : Space) (i word found : ℕ) (w : View) : Type 0 where
  pub marked : Marked v p i (has_mark found) w
  pub found_marked : found ≢ word → IsTrue (has_mark found)

-- an object that a variable of the caller holds, in a cycle; and one that it knows as old or born in the cycle
pub record IsHeldInCycle (v : View) (o : ℕ) : Type 0 where
  pub mutator : v.number < 8
  pub held : IsHeld v o
  pub in_cycle : phase_of v.opening ≡ 1

pub record IsKnownTraced (v : View) (o : ℕ) : Type 0 where
  pub within : o < (sizes_in v.opening).objects
  pub traced : Has v.facts (fact.Traced o)

-- the caller saw the object in a cycle, in a variable or in a reference
abbrev pub IsSeen : View → ℕ → Type 0
IsSeen v o = IsHeldInCycle v o ⊎ IsKnownTraced v o

-- an object was shaded: it is known as shaded, and it is in the hands where it was white; each object stands there at most once
pub record Shaded (v : View) (o found : ℕ) (w : View) : Type 0 where
  pub same : SameCaller v w
  pub own : SameOwn v w
  pub looks : Looks v w
  pub hands : w.hands ≡ (if found % 2 == 0 then o ∷ v.hands else v.hands)
  pub once : (q : ℕ) → count_in q w.hands ≤ 1
  pub knows : Has w.facts (fact.Shaded o)

-- an object was scanned, and has left the hands
pub record Scanned (v : View) (o : ℕ) (w : View) : Type 0 where
  pub same : SameCaller v w
  pub own : SameOwn v w
  pub extends : Extends v (event_of v (act.Scan o) reply.Ok) w
  pub hands : w.hands ≡ without_one o v.hands
