-- Stores and exchanges: an external cell whose tag is known gets a new value, and its entry the marked word of it. An exchange
-- answers the value that stood there.
use Rattle.std.proofs.Common.{◌≡◌, ◌≢◌, ◌+◌, ◌*◌, ◌^◌, ◌<◌, true, if◌then◌else◌, Bool, [], ℕ, List, set, slice_index, Option, Some, None, IsTrue, is_some, IsSomeAnd, IfSome, refl, sym, ap, subst, ◌∙◌}
use Rattle.std.specs.Option.{option_map}
use mathlib.Core.Option.{some}
use lib.ListN.{get_elem?}
use Rattle.atomic_table.specs.Table.{Me}
use Rattle.plain_table.specs.declared.events.Act.{Act}
use Rattle.plain_table.specs.declared.events.Act.TheVariants as act
use Rattle.plain_table.specs.declared.events.Cell.{Cell}
use Rattle.plain_table.specs.declared.events.Event.{Event}
use Rattle.plain_table.specs.declared.events.Space.{Space}
use Rattle.plain_table.specs.declared.events.Space.TheVariants.{External}
use Rattle.plain_table.specs.declared.events.Spot.TheVariants.{Ref}
use Rattle.plain_table.specs.declared.reports.Reply.{Reply}
use Rattle.plain_table.specs.declared.reports.Reply.TheVariants as reply
use Rattle.plain_table.specs.History.{IsLegal, next}
use Rattle.plain_table.specs.Index.{index_of}
use Rattle.plain_table.specs.Rows.{HasCell, IsTag, is_asked, value_at, with_value}
use Rattle.plain_table.specs.Shows.{Shows}
use Rattle.plain_table.specs.Table.{Table, Sizes, limit_in}
use Rattle.plain_table.specs.Words.{cell_word, entry_place}
use Rattle.plain_table.proofs.Options.{IsSomeAnd-by}
use Rattle.plain_table.proofs.PlaceReads.{put_entry-same}
use Rattle.plain_table.proofs.SpacesShown.{cell-used}
use Rattle.table_laws.specs.Steady.{IsDuringPhase}
use Rattle.table_laws.proofs.CellsStay.{marked_in-here}
use Rattle.table_laws.proofs.Steadiness.{events-steady}
use Rattle.word_laws.specs.ReadLaws.{value_bits}
use Rattle.word_laws.specs.WordLaws.{WritesCell}
use Rattle.word_laws.proofs.CellWords.{CellWordsFollow-row}
use Rattle.word_laws.proofs.EntryBits.{cell_word-open}
use Rattle.entry_base.specs.declared.view.Fact.TheVariants as fact
use Rattle.entry_base.specs.declared.view.Opening.{Opening}
use Rattle.entry_base.specs.declared.view.View.{View}
use Rattle.entry_base.specs.Callers.{IsCaller, event_of}
use Rattle.entry_base.specs.Facts.{IsKnown}
use Rattle.entry_base.specs.Learned.{Answered}
use Rattle.entry_base.specs.Lists.{Has}
use Rattle.entry_base.specs.Openings.{sizes_in}
use Rattle.entry_base.specs.Owns.{Owns}
use Rattle.entry_base.specs.Ranks.{takes_of}
use Rattle.entry_base.specs.Rule.{Kept}
use Rattle.entry_base.proofs.Changes.{EntryChanges, kept_entry}
use Rattle.entry_base.proofs.OwnsStay.{owns_same}
use Rattle.entry_base.proofs.Steps.{Given, Keeps, keeps_by}
use Rattle.entry_base.proofs.Sums.{each_has}
use Rattle.entry_rule.specs.Looks.{stored_word, Stored, Exchanged}
use Rattle.entry_rule.proofs.FoundEntries.{answered, answered_view}
use Rattle.entry_base.proofs.EntryTells.{entry_tells}

-- the word of a shown cell does not speak of its id
shown_word : (c : Cell) (tag value : ℕ) → c.tag ≡ tag → IsTrue c.shown → stored_word tag value ≡ cell_word (record c { value = value }) true
shown_word c tag value same shown =
    ap (λ (t : ℕ). 0 + (value + 2 ^ 48 * t + 2 ^ 62)) (sym same)
    ∙ ap (λ (b : Bool). (if b then 0 else 2 ^ 59) + (value + 2 ^ 48 * c.tag + 2 ^ 62)) (sym shown)

-- a cell of a known tag stands there
record TaggedCell (found : Option Cell) (tag : ℕ) : Type 0 where
  cell : Cell
  stands : found ≡ Some cell
  tagged : cell.tag ≡ tag

tagged_cell : (found : Option Cell) (tag : ℕ) → IsSomeAnd found (λ c. c.tag ≡ tag) → TaggedCell found tag
tagged_cell None tag known = absurd known
tagged_cell (Some c) tag known = record { cell = c; stands = refl; tagged = known }

module _ (key : Opening) (words : List ℕ) (views : List View) (id : ℕ) (v : View) (word first last tag value : ℕ) (k : Kept key words views)
    (at : get_elem? views id ≡ some v) (caller : IsCaller key v) (known : Has v.facts (fact.Cell External (index_of word) tag))
    (asked : IsTrue (is_asked first last tag)) (is_tag : IsTag tag) (low : value < 2 ^ 48) (below : index_of word < limit_in (sizes_in key) External) where
  abbrev i : ℕ
  i = index_of word

  abbrev place : ℕ
  place = entry_place (sizes_in key) External i

  module _ (s : Table) (g : Given key k.log k.shown words v s) where
    there : TaggedCell (s.cells External i) tag
    there = tagged_cell (s.cells External i) tag (each_has (IsKnown (sizes_in key) k.log s k.shown words) v.facts (fact.Cell External i tag) g.known known).0

    may_write : HasCell s word first last × (value < 2 ^ 48)
    may_write = (IsSomeAnd-by (s.cells External i) there.cell (λ c. IsTrue (is_asked first last c.tag)) there.stands (subst (λ (t : ℕ). IsTrue (is_asked first last t)) (sym there.tagged) asked), low)

    -- the value that an exchange answers
    found_value : value_bits (slice_index words place) ≡ value_at (s.cells External i)
    found_value = ((entry_tells key words views k v s g External i below).cell there.cell there.stands).value ∙ ap value_at (sym there.stands)

    new_word : stored_word tag value ≡ cell_word (record there.cell { value = value }) true
    new_word = shown_word there.cell tag value there.tagged (g.sound.cells.seen i there.cell there.stands)

    new_cell : (with_value s i value).cells External i ≡ Some (record there.cell { value = value })
    new_cell = put_entry-same s.cells External i (option_map (λ (c : Cell). record c { value = value }) (s.cells External i))
        ∙ ap (option_map (λ (c : Cell). record c { value = value })) there.stands

  -- a store and an exchange: either leaves the table with the value
  module _ (a : Act) (said : Reply) (in_phase : IsDuringPhase a) (takes : (p : Space) → takes_of p a said ≡ 0) (unlinked : (o m : ℕ) (var : Option ℕ) → a ≢ act.Link (Ref o m) var)
      (writes : WritesCell a External i) (left : (s : Table) → next s (event_of v a said) ≡ with_value s i value)
      (legal : (s : Table) → Given key k.log k.shown words v s → IsLegal s (event_of v a said)) where
    abbrev e : Event
    e = event_of v a said

    abbrev w : View
    w = answered_view v k.log e []

    changes : (s : Table) → Given key k.log k.shown words v s → EntryChanges (sizes_in key) k.log e k.shown words External i (stored_word tag value) w [] s
    changes s g = record {
      legal = legal s g;
      shows = subst (λ (z : Sizes). Shows (set k.shown (entry_place z External i) (stored_word tag value)) (next s e)) g.sizes
          (subst (λ (n : ℕ). Shows (set k.shown (entry_place s.sizes External i) n) (next s e)) (sym (new_word s g))
          (CellWordsFollow-row k.shown s e External i (record (there s g).cell { value = value }) g.sound.used g.shows (legal s g) writes
          (ap (λ (t : Table). t.cells External i) (left s) ∙ new_cell s g)));
      used = subst (λ (t : Table). IsTrue (t.used External i)) (sym (left s)) (cell-used s External i g.sound (ap is_some (there s g).stands));
      marked = λ stood. subst (λ (t : Table). IfSome t.cycle (λ d. IsTrue (d.marks External i))) (sym (left s)) (marked_in-here s.cycle External i);
      owns = record { variables = own.variables; pending = own.pending; owed = own.owed; fresh = own.fresh };
      tells = tt;
    }
      where
        own : Owns (next s e) v
        own = owns_same s e (next s e) v (events-steady s e g.sound (legal s g) in_phase).cells (record {
          vars = ap (λ (t : Table). t.vars) (left s);
          ticket = ap (λ (t : Table). t.ticket) (left s);
          owed = ap (λ (t : Table). t.owed) (left s);
          fresh = ap (λ (t : Table). t.fresh) (left s);
        }) g.owns

    kept_value : (w : View) × Kept key (set words place (stored_word tag value)) (set views id w) × Answered v e w
    kept_value =
        let done = kept_entry key words views id v w k at [] e refl caller.own in_phase takes refl refl refl refl refl External i (stored_word tag value) below
        (cell_word-open (record { id = 0; tag = tag; value = value; shown = true }) true is_tag.1 low is_tag.0) unlinked changes in
        (w, done.0, answered v k.log e [] (done.1 caller.opened))

  kept_store : (w : View) × Kept key (set words place (stored_word tag value)) (set views id w) × Stored v word first last value w
  kept_store = kept_value (act.Set word first last value) reply.Ok tt (λ q. refl) (λ o m var is. absurd (cc)) (refl, refl) (λ s. refl) (λ s g. (may_write s g, refl))

  kept_exchange : (w : View) × Kept key (set words place (stored_word tag value)) (set views id w) × Exchanged v word first last value (slice_index words place) w
  kept_exchange =
      kept_value (act.Swap word first last value) (reply.Value (value_bits (slice_index words place))) tt (λ q. refl) (λ o m var is. absurd (cc)) (refl, refl) (λ s. refl)
      (λ s g. (may_write s g, ap reply.Value (found_value s g)))

inside : (key : Opening) (v : View) (word : ℕ) → IsCaller key v → index_of word < limit_in (sizes_in v.opening) External → index_of word < limit_in (sizes_in key) External
inside key v word caller below = subst (λ (o : Opening). index_of word < limit_in (sizes_in o) External) caller.opened below

pub stores : (key : Opening) (slots id : ℕ) (me : Me (Unit {0}) View) (word first last tag value : ℕ) → IsCaller key me.0 → Has me.0.facts (fact.Cell External (index_of word) tag) → IsTrue (is_asked first last tag) → IsTag tag → value < 2 ^ 48 → index_of word < limit_in (sizes_in me.0.opening) External → Keeps key slots id me (entry_place (sizes_in key) External (index_of word)) (λ x. stored_word tag value) (λ found w. Stored me.0 word first last value w)
stores key slots id me word first last tag value caller known asked is_tag low below =
    keeps_by key slots id me (entry_place (sizes_in key) External (index_of word)) (λ x. stored_word tag value) (λ found w. Stored me.0 word first last value w)
    (λ words views k at. kept_store key words views id me.0 word first last tag value k at caller known asked is_tag low (inside key me.0 word caller below))

pub exchanges : (key : Opening) (slots id : ℕ) (me : Me (Unit {0}) View) (word first last tag value : ℕ) → IsCaller key me.0 → Has me.0.facts (fact.Cell External (index_of word) tag) → IsTrue (is_asked first last tag) → IsTag tag → value < 2 ^ 48 → index_of word < limit_in (sizes_in me.0.opening) External → Keeps key slots id me (entry_place (sizes_in key) External (index_of word)) (λ x. stored_word tag value) (λ found w. Exchanged me.0 word first last value found w)
exchanges key slots id me word first last tag value caller known asked is_tag low below =
    keeps_by key slots id me (entry_place (sizes_in key) External (index_of word)) (λ x. stored_word tag value) (λ found w. Exchanged me.0 word first last value found w)
    (λ words views k at. kept_exchange key words views id me.0 word first last tag value k at caller known asked is_tag low (inside key me.0 word caller below))
