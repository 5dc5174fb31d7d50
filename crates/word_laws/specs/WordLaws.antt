-- Words for words: where a list of machine words shows a table, and an event is legal in it, the list with the one word
-- changed that the event writes shows the table after the event. Words tell nothing of variables, claims, fresh cells,
-- tickets and bindings, so some events change no word, and shading an object is a change of words with no event. What no
-- word shows is a premise: that an object is within the limit, and that used indexes are sound.
use Rattle.std.specs.Prelude.{◌≡◌, ◌≢◌, ℕ, ◌+◌, ◌*◌, ◌/◌, ◌%◌, ◌^◌, ◌<◌, ◌≤◌, nat_lt, true, false, if◌then◌else◌, List, slice_index, slice_set, Option, Some, None, IsTrue}
use Rattle.plain_table.specs.declared.events.Act.{Act}
use Rattle.plain_table.specs.declared.events.Act.TheVariants.{New, Drop, Get, Link, Take, Below, Abort, Put, Bind, Name, Look, Set, Swap, Forge, Publish, Mark, Evac, Scan}
use Rattle.plain_table.specs.declared.events.Cell.{Cell}
use Rattle.plain_table.specs.declared.events.Event.{Event}
use Rattle.plain_table.specs.declared.events.Space.{Space}
use Rattle.plain_table.specs.declared.events.Space.TheVariants.{External, Trusted}
use Rattle.plain_table.specs.declared.events.Spot.{Spot}
use Rattle.plain_table.specs.declared.events.Spot.TheVariants.{Global, Ref}
use Rattle.plain_table.specs.declared.events.Field.{Field}
use Rattle.plain_table.specs.declared.events.Field.TheVariants as field
use Rattle.plain_table.specs.declared.reports.Reply.{Reply}
use Rattle.plain_table.specs.declared.reports.Reply.TheVariants as reply
use Rattle.plain_table.specs.Index.{index_of}
use Rattle.plain_table.specs.Places.{object_of}
use Rattle.plain_table.specs.Cycle.{Cycle}
use Rattle.plain_table.specs.Table.{Table, limit_of, least_free}
use Rattle.plain_table.specs.Finish.{id_at}
use Rattle.plain_table.specs.Rows.{object_in}
use Rattle.plain_table.specs.History.{IsLegal, next}
use Rattle.plain_table.specs.Sound.{UsedSound, entries_in}
use Rattle.plain_table.specs.Words.{area_place, count_place, freelist_place, global_place, header_place, reference_place, field_place, entry_place, object_word, cell_word, free_word, evacuation_word, no_access_word, freelist_word, next_free, area_word, header_word}
use Rattle.plain_table.specs.Shows.{Shows, is_black}

-- the events that write no word
abbrev pub WritesNothing : Act → Reply → Type 0
WritesNothing (New var) said = said ≡ reply.HeapFull
WritesNothing (Drop var) said = Unit {0}
WritesNothing (Get var spot) said = Unit {0}
WritesNothing (Take p) said = said ≡ reply.Full
WritesNothing (Below start) said = said ≡ reply.NoRoom
WritesNothing (Bind f word) said = (found : ℕ) × (said ≡ reply.Taken found)
WritesNothing (Name f) said = Unit {0}
WritesNothing (Look p word first last) said = Unit {0}
WritesNothing _ said = ⊥

-- after them the same words show the next table
abbrev pub WordsStay : Type 0
WordsStay =
    (words : List ℕ) (s : Table) (e : Event) → Shows words s → IsLegal s e → WritesNothing e.act e.said →
    Shows words (next s e)

-- a bind that says ok and a forge write a word into a field
abbrev pub WritesField : Act → Reply → Field → ℕ → Type 0
WritesField (Bind g v) said f w = (g ≡ f) × (v ≡ w) × (said ≡ reply.Ok)
WritesField (Forge number v) said f w = (field.External number ≡ f) × (v ≡ w)
WritesField _ said f w = ⊥

abbrev pub FieldWordsFollow : Type 0
FieldWordsFollow =
    (words : List ℕ) (s : Table) (e : Event) (f : Field) (w : ℕ) → object_of f < s.sizes.objects → Shows words s → IsLegal s e →
    WritesField e.act e.said f w → Shows (slice_set words (field_place f) w) (next s e)

-- used indexes are sound, as in each sound table
abbrev pub HasSoundIndexes : Table → Type 0
HasSoundIndexes s = UsedSound (limit_of s) s.used (id_at s) s.owed (entries_in s.cycle)

-- a put, a store, an exchange, a publish and a mark write the word of the cell that stands at the index after them
abbrev pub WritesCell : Act → Space → ℕ → Type 0
WritesCell (Put q j tag value) p i = (q ≡ p) × (j ≡ i)
WritesCell (Set word first last value) p i = (External ≡ p) × (index_of word ≡ i)
WritesCell (Swap word first last value) p i = (External ≡ p) × (index_of word ≡ i)
WritesCell (Publish j) p i = (Trusted ≡ p) × (j ≡ i)
WritesCell (Mark q j) p i = (q ≡ p) × (j ≡ i)
WritesCell _ p i = ⊥

abbrev pub CellWordsFollow : Type 0
CellWordsFollow =
    (words : List ℕ) (s : Table) (e : Event) (p : Space) (i : ℕ) (cell : Cell) → HasSoundIndexes s → Shows words s → IsLegal s e →
    WritesCell e.act p i → (next s e).cells p i ≡ Some cell →
    Shows (slice_set words (entry_place s.sizes p i) (cell_word cell true)) (next s e)

-- an evacuation entry writes the number of its field
abbrev pub EvacuationWordsFollow : Type 0
EvacuationWordsFollow =
    (words : List ℕ) (s : Table) (e : Event) (i number : ℕ) → HasSoundIndexes s → Shows words s → IsLegal s e →
    e.act ≡ Evac i number → Shows (slice_set words (entry_place s.sizes External i) (evacuation_word number)) (next s e)

-- a link writes the object, or nothing, into a global or a reference
abbrev pub spot_place : Spot → ℕ
spot_place (Global g) = global_place g
spot_place (Ref object k) = reference_place object k

-- the object of a reference is within the limit
abbrev pub IsWithin : Table → Spot → Type 0
IsWithin s (Global g) = Unit {0}
IsWithin s (Ref object k) = object < s.sizes.objects

abbrev pub LinkWordsFollow : Type 0
LinkWordsFollow =
    (words : List ℕ) (s : Table) (e : Event) (spot : Spot) (var : Option ℕ) → IsWithin s spot → Shows words s → IsLegal s e →
    e.act ≡ Link spot var → Shows (slice_set words (spot_place spot) (object_word (object_in s e.by var))) (next s e)

-- a new object raises the count
abbrev pub CountWordsFollow : Type 0
CountWordsFollow =
    (words : List ℕ) (s : Table) (e : Event) (var o : ℕ) → Shows words s → IsLegal s e →
    e.act ≡ New var → e.said ≡ reply.Obj o → Shows (slice_set words count_place (s.count + 1)) (next s e)

-- an abort writes the area word
abbrev pub AreaWordsFollow : Type 0
AreaWordsFollow =
    (words : List ℕ) (s : Table) (e : Event) → Shows words s → IsLegal s e →
    e.act ≡ Abort → Shows (slice_set words area_place (area_word (next s e).cycle)) (next s e)

-- a scan makes its object's header black, and its shaded bit stands in it
abbrev pub ScanWordsFollow : Type 0
ScanWordsFollow =
    (words : List ℕ) (s : Table) (e : Event) (o : ℕ) → o < s.sizes.objects → Shows words s → IsLegal s e →
    e.act ≡ Scan o → Shows (slice_set words (header_place o) (header_word true true)) (next s e)

-- where an object is shaded in a cycle, the words show the table that they showed
abbrev pub ShadedWordsStay : Type 0
ShadedWordsStay =
    (words : List ℕ) (s : Table) (c : Cycle) (o : ℕ) → Shows words s → s.cycle ≡ Some c → o < s.sizes.objects →
    Shows (slice_set words (header_place o) (header_word true (is_black s c o))) s

-- a take of an index, and one below a start, write the freelist word of their space
abbrev pub TakesFrom : Act → Space → Type 0
TakesFrom (Take q) p = q ≡ p
TakesFrom (Below start) p = External ≡ p
TakesFrom _ p = ⊥

-- where the list has an index: its head becomes the one that the entry of the taken index links, and its length is one
-- less. The indexes of the space have to fit the 32 bits of a link, as those of every table in range do
abbrev pub FreelistWordsFollow : Type 0
FreelistWordsFollow =
    (words : List ℕ) (s : Table) (e : Event) (p : Space) (i link len : ℕ) → IsTrue (s.used p 0) → Shows words s → limit_of s p < 2 ^ 32 →
    IsLegal s e → TakesFrom e.act p → e.said ≡ reply.Index i →
    slice_index words (freelist_place p) / 2 ^ 32 ≡ len + 1 → slice_index words (entry_place s.sizes p i) ≡ free_word link →
    Shows (slice_set words (freelist_place p) (freelist_word link len)) (next s e)

-- what the freelist word of a space tells: where its length is 0, its head is the end of the committed segments, each of
-- whose indexes is used, and the least free index, where there is one, is the head; and else the head is that index
pub record FreelistTells (s : Table) (p : Space) (entry : ℕ → ℕ) (head len committed : ℕ) : Type 0 where
  pub segments : (n : ℕ) × (committed ≡ n * s.sizes.seg)
  pub within : committed ≤ limit_of s p
  pub used : (i : ℕ) → IsTrue (s.used p i) → i < committed
  pub none : len ≡ 0 → (i : ℕ) → i < committed → IsTrue (s.used p i)
  pub end : len ≡ 0 → head ≡ committed
  pub least : len ≡ 0 → least_free s p ≡ (if nat_lt committed (limit_of s p) then Some committed else None)
  pub some : len ≢ 0 → (least_free s p ≡ Some head) × (head < committed)
  -- each free entry links the next free index, and the last one the end of the committed segments
  pub links : (i : ℕ) → 1 ≤ i → i < committed → s.used p i ≡ false → entry i ≡ free_word (next_free (s.used p) (i + 1) committed)
  -- the others have no access, and where there is one, a whole segment has
  pub closed : (i : ℕ) → committed ≤ i → i < limit_of s p → entry i ≡ no_access_word
  pub room : committed < limit_of s p → committed + s.sizes.seg ≤ limit_of s p

abbrev pub FreelistsTell : Type 0
FreelistsTell =
    (words : List ℕ) (s : Table) (p : Space) → IsTrue (s.used p 0) → Shows words s → limit_of s p < 2 ^ 32 →
    (committed : ℕ) × FreelistTells s p (λ i. slice_index words (entry_place s.sizes p i)) (slice_index words (freelist_place p) % 2 ^ 32) (slice_index words (freelist_place p) / 2 ^ 32) committed
