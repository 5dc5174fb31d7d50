-- The words of cells and of evacuation entries: after a put, a store, an exchange, a publish, a mark and an evacuation
-- entry, the list with the new word at its index shows the table.
use Rattle.std.proofs.Common.{◌≡◌, ◌≢◌, ℕ, Bool, true, List, slice_set, Option, Some, None, IsSome, IsSomeAnd, IsTrue, is_some, refl, sym, ap, subst, subst₂, ◌∙◌, inl, inr, arith}
use Rattle.std.specs.Option.{option_map}
use Rattle.plain_table.specs.declared.events.Act.{Act}
use Rattle.plain_table.specs.declared.events.Act.TheVariants.{Put, Set, Swap, Publish, Mark, Evac}
use Rattle.plain_table.specs.declared.events.Cell.{Cell}
use Rattle.plain_table.specs.declared.events.Space.{Space}
use Rattle.plain_table.specs.declared.events.Space.TheVariants.{External, Trusted}
use Rattle.plain_table.specs.Index.{index_of}
use Rattle.plain_table.specs.Places.{put_at, put_entry}
use Rattle.plain_table.specs.Cycle.{Cycle, start_in, marked_in, evacuated_in}
use Rattle.plain_table.specs.Table.{Table}
use Rattle.plain_table.specs.Finish.{id_at}
use Rattle.plain_table.specs.Rows.{row}
use Rattle.plain_table.specs.Sound.{entries_in}
use Rattle.plain_table.specs.Words.{entry_place, cell_word, evacuation_word}
use Rattle.plain_table.specs.Shows.{Shows, entry_at}
use Rattle.word_laws.specs.WordLaws.{WritesCell, CellWordsFollow, EvacuationWordsFollow, HasSoundIndexes}
use Rattle.plain_table.proofs.PlaceReads.{read_entry, put_at-same, put_at-other, put_entry-same}
use Rattle.plain_table.proofs.CycleParts.{IfSome-changed}
use Rattle.plain_table.proofs.WordPlaces.{entry_place-below}
use Rattle.word_laws.proofs.ShownParts.{IsMarkIn, ShownParts-Shows, Shows-ShownParts}
use Rattle.word_laws.proofs.WordChanges.{Changed, Changed-slice_set, AreWithin-HasSoundIndexes, no_cell-id}
use Rattle.word_laws.proofs.EntryWords.{EntryTells, Shown-entry}

-- the marks after a mark
IsMarkIn-marked : (cycle : Option Cycle) (p : Space) (i : ℕ) → IsMarkIn (marked_in cycle p i) p i true
IsMarkIn-marked None p i = tt
IsMarkIn-marked (Some c) p i = sym (put_entry-same c.marks p i true)

IsMarkIn-other : (cycle : Option Cycle) (p : Space) (i : ℕ) (q : Space) (j : ℕ) (m : Bool) → ((p ≡ q) × (i ≡ j) → ⊥) →
    IsMarkIn cycle q j m → IsMarkIn (marked_in cycle p i) q j m
IsMarkIn-other cycle p i q j m apart was = IfSome-changed (λ d. m ≡ d.marks q j) cycle was (λ c h. elim (read_entry true c.marks p i q j) [
  | inl r ↦ absurd (apart r.0)
  | inr r ↦ h ∙ sym r.1
])

-- cells that are changed at one index, and evacuation entries that are changed at one index of the external space
abbrev AreChangedAt : Space → ℕ → (Space → ℕ → Option Cell) → (Space → ℕ → Option Cell) → Type 0
AreChangedAt p i cells cells_new = (q : Space) (j : ℕ) → ((p ≡ q) × (i ≡ j) → ⊥) → cells_new q j ≡ cells q j

put_entry-changed : (cells : Space → ℕ → Option Cell) (p : Space) (i : ℕ) (found : Option Cell) → AreChangedAt p i cells (put_entry cells p i found)
put_entry-changed cells p i found = λ q j apart. elim (read_entry found cells p i q j) [
  | inl r ↦ absurd (apart r.0)
  | inr r ↦ r.1
]

-- a place that has a cell, or that a number owes, has no evacuation entry
filled-no_entry : (s : Table) (p : Space) (i : ℕ) → HasSoundIndexes s → IsSome (id_at s p i) → entry_at s p i ≡ None
filled-no_entry s External i h filled = by_case (entries_in s.cycle i) (h.entries i)
  where
    by_case : (found : Option ℕ) → (IsSome found → IsTrue (s.used External i) × (i ≢ 0) × (id_at s External i ≡ None)) → found ≡ None
    by_case None stands = refl
    by_case (Some n) stands = absurd (none_filled (id_at s External i) (stands refl).2 filled)
      where
        none_filled : (id : Option ℕ) → id ≡ None → IsSome id → ⊥
        none_filled None e is = absurd (cc)
        none_filled (Some n) e is = absurd (cc)
filled-no_entry s Trusted i h filled = refl

owed-no_entry : (s : Table) (b : ℕ) (p : Space) (i : ℕ) → HasSoundIndexes s → IsTrue (s.owed b p i) → entry_at s p i ≡ None
owed-no_entry s b External i h owed = h.claim_or_entry b i owed
owed-no_entry s b Trusted i h owed = refl

-- the word of a cell
EntryTells-cell : (cycle : Option Cycle) (p : Space) (i : ℕ) (cell : Cell) (found : Option Cell) (entry : Option ℕ) → found ≡ Some cell → entry ≡ None →
    EntryTells (cell_word cell true) found entry (IsMarkIn (marked_in cycle p i) p i)
EntryTells-cell cycle p i cell found entry stands none = record {
  filled = λ c is. let same : cell ≡ c = cc in (true, ap (λ (d : Cell). cell_word d true) same, IsMarkIn-marked cycle p i);
  evacuated = λ number is. absurd (cc);
  occupied = λ no_cell no_entry. absurd (cc);
}

-- what is asked of an index whose word is written: it is used, not 0, and without an evacuation entry
record IsFillable (s : Table) (p : Space) (i : ℕ) : Type 0 where
  taken : IsTrue (s.used p i)
  later : i ≢ 0
  no_entry : entry_at s p i ≡ None

IsFillable-filled : (s : Table) (p : Space) (i : ℕ) → HasSoundIndexes s → IsSome (id_at s p i) → IsFillable s p i
IsFillable-filled s p i h filled = record {
  taken = (h.cells p i filled).0;
  later = (h.cells p i filled).1;
  no_entry = filled-no_entry s p i h filled;
}

IsFillable-owed : (s : Table) (b : ℕ) (p : Space) (i : ℕ) → HasSoundIndexes s → IsTrue (s.owed b p i) → IsFillable s p i
IsFillable-owed s b p i h owed = record {
  taken = (h.claims b p i owed).0;
  later = (h.claims b p i owed).1;
  no_entry = owed-no_entry s b p i h owed;
}

Changed-entry : (words : List ℕ) (s : Table) (p : Space) (i w : ℕ) → HasSoundIndexes s → IsTrue (s.used p i) → Shows words s →
    Changed words (slice_set words (entry_place s.sizes p i) w) (entry_place s.sizes p i) w
Changed-entry words s p i w h taken shows =
    Changed-slice_set words (entry_place s.sizes p i) w
    (omega (arith, entry_place-below s.sizes p i ((AreWithin-HasSoundIndexes s h).below p i taken), shows.whole))

module _ (words : List ℕ) (s : Table) (p : Space) (i : ℕ) (cell : Cell) where
  -- whatever becomes of owed and fresh indexes, tickets and the number of puts
  Shows-cell : (cycle : Option Cycle) (cells : Space → ℕ → Option Cell) (owed fresh : ℕ → Space → ℕ → Bool) (ticket : ℕ → Option ℕ) (next : ℕ) →
      HasSoundIndexes (record s { cycle = cycle }) → IsFillable (record s { cycle = cycle }) p i → AreChangedAt p i s.cells cells → cells p i ≡ Some cell →
      Shows words (record s { cycle = cycle }) →
      Shows (slice_set words (entry_place s.sizes p i) (cell_word cell true))
      (record s { cells = cells; owed = owed; fresh = fresh; ticket = ticket; next = next; cycle = marked_in cycle p i })
  Shows-cell None cells owed fresh ticket next h fills changed stands shows =
      Shows-ShownParts _ _ (Shown-entry p i (cell_word cell true) (Changed-entry words (record s { cycle = None }) p i (cell_word cell true) h fills.taken shows)
      (AreWithin-HasSoundIndexes (record s { cycle = None }) h) fills.taken fills.later
      (EntryTells-cell None p i cell (cells p i) (entry_at (record s { cycle = None }) p i) stands fills.no_entry)
      (record { filled = changed; evacuated = λ q j apart. refl; marked = λ q j m apart was. IsMarkIn-other None p i q j m apart was })
      (ShownParts-Shows _ _ shows))
  Shows-cell (Some c) cells owed fresh ticket next h fills changed stands shows =
      Shows-ShownParts _ _ (Shown-entry p i (cell_word cell true) (Changed-entry words (record s { cycle = Some c }) p i (cell_word cell true) h fills.taken shows)
      (AreWithin-HasSoundIndexes (record s { cycle = Some c }) h) fills.taken fills.later
      (EntryTells-cell (Some c) p i cell (cells p i) (entry_at (record s { cycle = Some c }) p i) stands fills.no_entry)
      (record { filled = changed; evacuated = λ q j apart. refl; marked = λ q j m apart was. IsMarkIn-other (Some c) p i q j m apart was })
      (ShownParts-Shows _ _ shows))

-- the row of an event that writes a cell
abbrev CellFollows : List ℕ → Table → Table → Cell → Space → ℕ → Type 0
CellFollows words s next cell p i = next.cells p i ≡ Some cell → Shows (slice_set words (entry_place s.sizes p i) (cell_word cell true)) next

id_at-some : (found : Option Cell) (P : Cell → Type 0) → IsSomeAnd found P → IsSome (option_map (λ (c : Cell). c.id) found)
id_at-some None P is = absurd is
id_at-some (Some c) P is = refl

-- where a published cell stands, a cell stood
published-some : (found : Option Cell) (cell : Cell) → option_map (λ (c : Cell). record c { shown = true }) found ≡ Some cell →
    IsSome (option_map (λ (c : Cell). c.id) found)
published-some None cell is = absurd (cc)
published-some (Some c) cell is = refl

CellWords-row : (words : List ℕ) (s : Table) (b : ℕ) (a : Act) (p : Space) (i : ℕ) (cell : Cell) → HasSoundIndexes s → Shows words s →
    (row s b a).allowed → WritesCell a p i → CellFollows words s (row s b a).next cell p i
CellWords-row words s b (Put q j tag value) p i cell h shows legal (space, index) =
    subst₂ (CellFollows words s (row s b (Put q j tag value)).next cell) space index
    (λ stands. Shows-cell words s q j cell s.cycle _ _ _ _ _ h (IsFillable-owed s b q j h legal.0) (put_entry-changed s.cells q j _) stands shows)
CellWords-row words s b (Set word first last value) p i cell h shows legal (space, index) =
    subst₂ (CellFollows words s (row s b (Set word first last value)).next cell) space index
    (λ stands. Shows-cell words s External (index_of word) cell s.cycle _ _ _ _ _ h
    (IsFillable-filled s External (index_of word) h (id_at-some (s.cells External (index_of word)) _ legal.0))
    (put_entry-changed s.cells External (index_of word) _) stands shows)
CellWords-row words s b (Swap word first last value) p i cell h shows legal (space, index) =
    subst₂ (CellFollows words s (row s b (Swap word first last value)).next cell) space index
    (λ stands. Shows-cell words s External (index_of word) cell s.cycle _ _ _ _ _ h
    (IsFillable-filled s External (index_of word) h (id_at-some (s.cells External (index_of word)) _ legal.0))
    (put_entry-changed s.cells External (index_of word) _) stands shows)
CellWords-row words s b (Publish j) p i cell h shows legal (space, index) =
    subst₂ (CellFollows words s (row s b (Publish j)).next cell) space index
    (λ stands. Shows-cell words s Trusted j cell s.cycle _ _ _ _ _ h
    (IsFillable-filled s Trusted j h (published-some (s.cells Trusted j) cell (sym (put_entry-same s.cells Trusted j _) ∙ stands)))
    (put_entry-changed s.cells Trusted j _) stands shows)
CellWords-row words s b (Mark q j) p i cell h shows legal (space, index) =
    subst₂ (CellFollows words s (row s b (Mark q j)).next cell) space index
    (λ stands. Shows-cell words s q j cell s.cycle _ _ _ _ _ h
    (IsFillable-filled s q j h (ap (λ found. is_some (option_map (λ (c : Cell). c.id) found)) stands))
    (λ r k apart. refl) stands shows)
CellWords-row words s b _ p i cell h shows legal wrong = absurd wrong

pub CellWordsFollow-row : CellWordsFollow
CellWordsFollow-row words s e p i cell h shows legal writes stands = CellWords-row words s e.by e.act p i cell h shows legal.0 writes stands

-- an evacuation entry
EntryTells-entry : (cycle : Option Cycle) (i number : ℕ) (evac : ℕ → Option ℕ) (found : Option Cell) (IsMark : Bool → Type 0) → found ≡ None →
    EntryTells (evacuation_word number) found (put_at evac i (Some number) i) IsMark
EntryTells-entry cycle i number evac found IsMark none = record {
  filled = λ c stands. absurd (cc);
  evacuated = λ m is. let stands = put_at-same evac i (Some number) in let same : number ≡ m = cc in ap evacuation_word same;
  occupied = λ no_cell no_entry. let stands = put_at-same evac i (Some number) in absurd (cc);
}

evacuated-other : (s : Table) (c : Cycle) (i number : ℕ) (q : Space) (j : ℕ) → ((External ≡ q) × (i ≡ j) → ⊥) →
    entry_at (record s { cycle = evacuated_in (Some c) i number }) q j ≡ entry_at (record s { cycle = Some c }) q j
evacuated-other s c i number External j apart = put_at-other c.evac i j (Some number) (λ e. apart (refl, e))
evacuated-other s c i number Trusted j apart = refl

Shows-evacuation : (words : List ℕ) (s : Table) (i number : ℕ) (cycle : Option Cycle) (owed : ℕ → Space → ℕ → Bool) (P : ℕ → Type 0) →
    HasSoundIndexes (record s { cycle = cycle }) → IsFillable (record s { cycle = cycle }) External i → s.cells External i ≡ None →
    IsSomeAnd (start_in cycle) P → Shows words (record s { cycle = cycle }) →
    Shows (slice_set words (entry_place s.sizes External i) (evacuation_word number)) (record s { owed = owed; cycle = evacuated_in cycle i number })
Shows-evacuation words s i number None owed P h fills none area shows = absurd area
Shows-evacuation words s i number (Some c) owed P h fills none area shows =
    Shows-ShownParts _ _ (Shown-entry External i (evacuation_word number)
    (Changed-entry words (record s { cycle = Some c }) External i (evacuation_word number) h fills.taken shows)
    (AreWithin-HasSoundIndexes (record s { cycle = Some c }) h) fills.taken fills.later
    (EntryTells-entry (Some c) i number c.evac (s.cells External i) (IsMarkIn (Some c) External i) none)
    (record { filled = λ q j apart. refl; evacuated = evacuated-other s c i number; marked = λ q j m apart was. was })
    (ShownParts-Shows _ _ shows))

EvacuationWords-row : (words : List ℕ) (s : Table) (b i number : ℕ) → HasSoundIndexes s → Shows words s → (row s b (Evac i number)).allowed →
    Shows (slice_set words (entry_place s.sizes External i) (evacuation_word number)) (row s b (Evac i number)).next
EvacuationWords-row words s b i number h shows legal =
    Shows-evacuation words s i number s.cycle _ _ h (IsFillable-owed s b External i h legal.0)
    (no_cell-id (s.cells External i) (h.claims b External i legal.0).2) legal.1 shows

pub EvacuationWordsFollow-row : EvacuationWordsFollow
EvacuationWordsFollow-row words s e i number h shows legal is =
    subst (λ a. (row s e.by a).allowed → Shows (slice_set words (entry_place s.sizes External i) (evacuation_word number)) (row s e.by a).next)
    (sym is) (EvacuationWords-row words s e.by i number h shows) legal.0
