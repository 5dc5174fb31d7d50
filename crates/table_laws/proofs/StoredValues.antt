-- Stored values: each cell has the tag of its put and the value last stored in it, as the history alone tells. So do the
-- cells of live holders, and each value that a look answers was stored.
use Rattle.std.proofs.Common.{◌≡◌, ℕ, ◌<◌, ◌==◌, Bool, true, false, ◌&&◌, List, [], ◌∷◌, Option, Some, None, sym, refl, ap, ◌∙◌, subst₂, arith, inl, inr, IsTrue, IsSomeAnd}
use Rattle.std.specs.Prelude.{if◌then◌else◌, nat_lt}
use Rattle.std.specs.Option.{option_map}
use Rattle.plain_table.specs.declared.events.Act.{Act}
use Rattle.plain_table.specs.declared.events.Act.TheVariants.{New, Drop, Get, Link, Take, Below, Abort, Put, Bind, Name, Look, Set, Swap, Forge, Publish, Mark, Evac, Scan, Start, Finish}
use Rattle.plain_table.specs.declared.events.Cell.{Cell}
use Rattle.plain_table.specs.declared.events.Event.{Event}
use Rattle.plain_table.specs.declared.events.Space.{Space}
use Rattle.plain_table.specs.declared.events.Space.TheVariants.{External, Trusted}
use Rattle.plain_table.specs.declared.events.Field.{Field}
use Rattle.plain_table.specs.declared.scripts.Limits.{Limits}
use Rattle.plain_table.specs.declared.reports.Reply.TheVariants as reply
use Rattle.plain_table.specs.Ranges.{IsInRange}
use Rattle.plain_table.specs.Index.{index_of}
use Rattle.plain_table.specs.Places.{space_of, same_space, put_at, put_entry}
use Rattle.plain_table.specs.Cycle.{Cycle}
use Rattle.plain_table.specs.Table.{Table, opening, least_free}
use Rattle.plain_table.specs.Finish.{swept, id_at}
use Rattle.plain_table.specs.Holders.{IsLiveHolder}
use Rattle.plain_table.specs.Rows.{row, is_asked, seen_under, object_in, free_below, with_object, with_bound, with_unbound}
use Rattle.plain_table.specs.History.{IsLegalHistory, next, after}
use Rattle.plain_table.specs.Sound.{IdsSound, IsSound}
use Rattle.table_laws.specs.Stored.{Stored, store_at, stored_next, stored_after, nothing_stored}
use Rattle.plain_table.specs.Openings.{OpeningsAreSound}
use Rattle.table_laws.specs.Laws.{EventsKeepSoundness, HoldersReadTheirOwn, ValuesWereStored}
use Rattle.plain_table.proofs.PlaceReads.{read_entry, put_at-same, put_at-other}
use Rattle.table_laws.proofs.FinishMoves.{swept-from}
use Rattle.plain_table.proofs.Options.{IsSomeAnd-is}
use Rattle.table_laws.proofs.SoundHistories.{histories-sound}
use Rattle.plain_table.proofs.Branches.{if_either, with_taken_either, with_linked_either, finished_in_either}

-- what is stored for the id of each cell is its tag and value
abbrev pub CellsStored : (Space → ℕ → Option Cell) → Stored → Type 0
CellsStored cells stored = (p : Space) (i : ℕ) (c : Cell) → cells p i ≡ Some c → stored c.id ≡ Some (c.tag, c.value)

abbrev ids_of : (Space → ℕ → Option Cell) → Space → ℕ → Option ℕ
ids_of cells p i = option_map (λ (c : Cell). c.id) (cells p i)

abbrev HasStored : Stored → Cell → Type 0
HasStored stored c = stored c.id ≡ Some (c.tag, c.value)

-- a put stores for the next id, which no cell has
pub CellsStored-put : (cells : Space → ℕ → Option Cell) (stored : Stored) (top : ℕ) (p : Space) (i tag value : ℕ) (shown : Bool) →
    IdsSound (ids_of cells) top → CellsStored cells stored →
    CellsStored (put_entry cells p i (Some (record { id = top; tag = tag; value = value; shown = shown }))) (put_at stored top (Some (tag, value)))
CellsStored-put cells stored top p i tag value shown ids h q j c e =
    let made : Cell = record { id = top; tag = tag; value = value; shown = shown } in
    elim (read_entry (Some made) cells p i q j) [
      | inl r ↦ IsSomeAnd-is (Some made) (HasStored (put_at stored top (Some (tag, value)))) c (sym r.1 ∙ e) (put_at-same stored top (Some (tag, value)))
      | inr r ↦
          let less : c.id < top = ids.below q j c.id (ap (option_map (λ (d : Cell). d.id)) (sym r.1 ∙ e)) in
          put_at-other stored top c.id (Some (tag, value)) (λ same. omega arith) ∙ h q j c (sym r.1 ∙ e)
    ]

-- a store of a value is one at the id of its cell, which no other cell has
pub CellsStored-value : (cells : Space → ℕ → Option Cell) (stored : Stored) (top i value : ℕ) (found : Option Cell) → cells External i ≡ found →
    IdsSound (ids_of cells) top → CellsStored cells stored →
    CellsStored (put_entry cells External i (option_map (λ (c : Cell). record c { value = value }) found))
    (store_at stored (option_map (λ (c : Cell). c.id) found) value)
CellsStored-value cells stored top i value None is ids h q j c e =
    elim (read_entry None cells External i q j) [
      | inl r ↦ let none : None ≡ Some c = sym r.1 ∙ e in absurd (cc)
      | inr r ↦ h q j c (sym r.1 ∙ e)
    ]
CellsStored-value cells stored top i value (Some d) is ids h q j c e =
    let pair : ℕ × ℕ → ℕ × ℕ = λ old. (old.0, value) in
    let past : Stored = put_at stored d.id (option_map pair (stored d.id)) in
    elim (read_entry (Some (record d { value = value })) cells External i q j) [
      | inl r ↦
          IsSomeAnd-is (Some (record d { value = value })) (HasStored past) c (sym r.1 ∙ e)
          (put_at-same stored d.id (option_map pair (stored d.id)) ∙ ap (option_map pair) (h External i d is))
      | inr r ↦
          put_at-other stored d.id c.id (option_map pair (stored d.id))
          (λ same. r.0 (ids.differ External q i j d.id (ap (option_map (λ (x : Cell). x.id)) is)
          (ap (option_map (λ (x : Cell). x.id)) (sym r.1 ∙ e) ∙ ap Some (sym same))))
          ∙ h q j c (sym r.1 ∙ e)
    ]

-- a publish leaves tag and value
pub CellsStored-shown : (cells : Space → ℕ → Option Cell) (stored : Stored) (i : ℕ) (found : Option Cell) → cells Trusted i ≡ found →
    CellsStored cells stored → CellsStored (put_entry cells Trusted i (option_map (λ (c : Cell). record c { shown = true }) found)) stored
CellsStored-shown cells stored i None is h q j c e =
    elim (read_entry None cells Trusted i q j) [
      | inl r ↦ let none : None ≡ Some c = sym r.1 ∙ e in absurd (cc)
      | inr r ↦ h q j c (sym r.1 ∙ e)
    ]
CellsStored-shown cells stored i (Some d) is h q j c e =
    elim (read_entry (Some (record d { shown = true })) cells Trusted i q j) [
      | inl r ↦ IsSomeAnd-is (Some (record d { shown = true })) (HasStored stored) c (sym r.1 ∙ e) (h Trusted i d is)
      | inr r ↦ h q j c (sym r.1 ∙ e)
    ]

-- each cell after a finish stood somewhere before
pub CellsStored-swept : (s : Table) (c : Cycle) (stored : Stored) → CellsStored s.cells stored → CellsStored (swept s c) stored
CellsStored-swept s c stored h p e d is =
    let came = swept-from s c p e d is in h p came.index d came.cell_is

pub CellsStored-row : (s : Table) (b : ℕ) (a : Act) (stored : Stored) → IsSound s → CellsStored s.cells stored →
    CellsStored (row s b a).next.cells (stored_next s a stored)
CellsStored-row s b (New var) stored sound h = if_either (λ t. CellsStored t.cells stored) (nat_lt s.count s.sizes.objects) (with_object s b var) s h h
CellsStored-row s b (Drop var) stored sound h = h
CellsStored-row s b (Get var spot) stored sound h = h
CellsStored-row s b (Link spot var) stored sound h = with_linked_either (λ t. CellsStored t.cells stored) s spot (object_in s b var) (λ g. h) (λ object k. h)
CellsStored-row s b (Take p) stored sound h = with_taken_either (λ t. CellsStored t.cells stored) s b p (least_free s p) h (λ i. h)
CellsStored-row s b (Below start) stored sound h = with_taken_either (λ t. CellsStored t.cells stored) s b External (free_below s start) h (λ i. h)
CellsStored-row s b Abort stored sound h = h
CellsStored-row s b (Put p i tag value) stored sound h =
    CellsStored-put s.cells stored s.next p i tag value (same_space p External) sound.ids h
CellsStored-row s b (Bind f word) stored sound h = if_either (λ t. CellsStored t.cells stored) (s.words f == 0) (with_bound s b f word) (with_unbound s b f word) h h
CellsStored-row s b (Name f) stored sound h = h
CellsStored-row s b (Look p word first last) stored sound h = h
CellsStored-row s b (Set word first last value) stored sound h =
    CellsStored-value s.cells stored s.next (index_of word) value (s.cells External (index_of word)) refl sound.ids h
CellsStored-row s b (Swap word first last value) stored sound h =
    CellsStored-value s.cells stored s.next (index_of word) value (s.cells External (index_of word)) refl sound.ids h
CellsStored-row s b (Forge number word) stored sound h = h
CellsStored-row s b (Publish i) stored sound h = CellsStored-shown s.cells stored i (s.cells Trusted i) refl h
CellsStored-row s b (Mark p i) stored sound h = h
CellsStored-row s b (Evac i number) stored sound h = h
CellsStored-row s b (Scan o) stored sound h = h
CellsStored-row s b (Start policy) stored sound h = h
CellsStored-row s b Finish stored sound h =
    finished_in_either (λ t. CellsStored t.cells stored) s s.cycle h (λ c. CellsStored-swept s c stored h)

-- the cell at a live holder's word is the one with its id, which can be seen
stored_with : (stored : Stored) (id : ℕ) (found : Option Cell) → ((c : Cell) → found ≡ Some c → HasStored stored c) →
    IsSomeAnd found (λ c. (c.id ≡ id) × IsTrue c.shown) →
    IsSomeAnd found (λ c. (c.id ≡ id) × IsTrue c.shown × (stored id ≡ Some (c.tag, c.value)))
stored_with stored id None h seen = seen
stored_with stored id (Some c) h seen = (seen.0, seen.1, ap stored (sym seen.0) ∙ h c refl)

id_found : (found : Option Cell) (id : ℕ) → IsSomeAnd found (λ c. (c.id ≡ id) × IsTrue c.shown) → option_map (λ (c : Cell). c.id) found ≡ Some id
id_found None id seen = absurd seen
id_found (Some c) id seen = ap Some seen.0

pub IsLiveHolder-own : (s : Table) (stored : Stored) (f : Field) (id : ℕ) → IsSound s → CellsStored s.cells stored → IsLiveHolder s f id →
    IsSomeAnd (s.cells (space_of f) (index_of (s.words f))) (λ c. (c.id ≡ id) × IsTrue c.shown × (stored id ≡ Some (c.tag, c.value)))
IsLiveHolder-own s stored f id sound h (binds, reached, (p, i, seen)) =
    let q = space_of f in
    let j = index_of (s.words f) in
    let own : id_at s q j ≡ Some id = sound.fields.own f id reached binds in
    let same : (p ≡ q) × (i ≡ j) = sound.ids.differ p q i j id (id_found (s.cells p i) id seen) own in
    stored_with stored id (s.cells q j) (h q j)
    (subst₂ (λ (r : Space) (k : ℕ). IsSomeAnd (s.cells r k) (λ c. (c.id ≡ id) × IsTrue c.shown)) same.0 same.1 seen)

-- a look that answers a value found a cell whose tag is asked, with that value
look_found : (shown asked : Bool) (c : Cell) (value : ℕ) →
    reply.Value value ≡ (if shown && asked then reply.Value c.value else reply.Fault) → IsTrue asked × (c.value ≡ value)
look_found false asked c value said = absurd (cc)
look_found true false c value said = absurd (cc)
look_found true true c value said = (refl, let values : value ≡ c.value = cc in sym values)

look_stored : (stored : Stored) (null : Bool) (found : Option Cell) (first last value : ℕ) → ((c : Cell) → found ≡ Some c → HasStored stored c) →
    reply.Value value ≡ (if null then reply.Null else seen_under found first last) →
    (id : ℕ) × (tag : ℕ) × (option_map (λ (c : Cell). c.id) found ≡ Some id) × (stored id ≡ Some (tag, value)) × IsTrue (is_asked first last tag)
look_stored stored true found first last value h said = absurd (cc)
look_stored stored false None first last value h said = absurd (cc)
look_stored stored false (Some c) first last value h said =
    let seen = look_found c.shown (is_asked first last c.tag) c value said in
    (c.id, c.tag, refl, h c refl ∙ ap (λ (v : ℕ). Some (c.tag, v)) seen.1, seen.0)

module _ (keeps : EventsKeepSoundness) where
  pub CellsStored-after : (es : List Event) (s : Table) (stored : Stored) → IsSound s → IsLegalHistory s es → CellsStored s.cells stored →
      CellsStored (after s es).cells (stored_after s es stored)
  CellsStored-after [] s stored sound legal h = h
  CellsStored-after (e ∷ es) s stored sound legal h =
      CellsStored-after es (next s e) (stored_next s e.act stored) (keeps s e sound legal.0) legal.1 (CellsStored-row s e.by e.act stored sound h)

  module _ (opens : OpeningsAreSound) where
    CellsStored-past : (limits : Limits) (es : List Event) → IsInRange limits → IsLegalHistory (opening limits) es →
        CellsStored (after (opening limits) es).cells (stored_after (opening limits) es nothing_stored)
    CellsStored-past limits es range legal =
        CellsStored-after es (opening limits) nothing_stored (opens limits range) legal (λ p i c is. absurd (cc))

    pub holders-own : HoldersReadTheirOwn
    holders-own limits es f id range legal holder =
        IsLiveHolder-own (after (opening limits) es) (stored_after (opening limits) es nothing_stored) f id
        (histories-sound keeps opens limits es range legal) (CellsStored-past limits es range legal) holder

    pub values-stored : ValuesWereStored
    values-stored limits es p w first last value b range legal look =
        look_stored (stored_after (opening limits) es nothing_stored) (index_of w == 0) ((after (opening limits) es).cells p (index_of w)) first last value
        (CellsStored-past limits es range legal p (index_of w)) look.1
