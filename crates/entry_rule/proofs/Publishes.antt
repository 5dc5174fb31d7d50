-- Publishing: the ticket of the caller's number tells which hidden trusted cell stands at its index, and its entry gets the marked
-- word of it as a shown cell. Then the ticket is given up, and nothing is pending for the number.
use Rattle.std.proofs.Common.{◌≡◌, ◌≢◌, ◌<◌, true, ◌∷◌, [], ◌++◌, ℕ, List, length, set, get_or-set_same, get_or-set_other, Option, Some, None, is_some, refl, sym, ap, subst, ◌∙◌, inl, inr}
use Rattle.std.specs.Option.{option_map}
use Rattle.std.specs.Prelude.{slice_index_or, slice_set}
use Rattle.std.proofs.lemmas.Bool.{cases_lt}
use Rattle.std.proofs.lemmas.Bool.Decides.{eqb_tells}
use Rattle.std.proofs.lemmas.List.{get_or_past}
use Rattle.std.proofs.lemmas.Option.{same_Some}
use mathlib.Core.Option.{some}
use lib.ListN.{get_elem?}
use Rattle.atomic_table.specs.Table.{Me}
use Rattle.plain_table.specs.declared.events.Act.TheVariants as act
use Rattle.plain_table.specs.declared.events.Cell.{Cell}
use Rattle.plain_table.specs.declared.events.Event.{Event}
use Rattle.plain_table.specs.declared.events.Space.TheVariants.{Trusted}
use Rattle.plain_table.specs.declared.reports.Reply.TheVariants as reply
use Rattle.plain_table.specs.History.{IsLegal, next}
use Rattle.plain_table.specs.Places.{put_at}
use Rattle.plain_table.specs.Shows.{IsPending, PendingCell, Shows}
use Rattle.plain_table.specs.Table.{Table, Sizes, limit_in}
use Rattle.plain_table.specs.Words.{cell_word, entry_place, no_access_word}
use Rattle.plain_table.proofs.Options.{IsSome-value, IsSomeAnd-is, IsSomeAnd-some}
use Rattle.plain_table.proofs.PlaceReads.{put_at-other, put_at-same, put_entry-same}
use Rattle.plain_table.proofs.SpacesShown.{cell-used}
use Rattle.table_laws.proofs.CellsStay.{marked_in-here}
use Rattle.table_laws.proofs.Steadiness.{events-steady}
use Rattle.word_laws.proofs.CellWords.{CellWordsFollow-row}
use Rattle.word_laws.proofs.EntryBits.{cell_word-open}
use Rattle.entry_word.specs.declared.image.Pending.{Pending}
use Rattle.entry_base.specs.declared.view.Opening.{Opening}
use Rattle.entry_base.specs.declared.view.View.{View}
use Rattle.entry_base.specs.Callers.{ArePublishable, AreVariables, AreWithin, IsCaller, event_of}
use Rattle.entry_base.specs.Numbers.{HasNumber}
use Rattle.entry_base.specs.Openings.{pending_cell, sizes_in}
use Rattle.entry_base.specs.Rule.{Kept}
use Rattle.entry_base.proofs.Changes.{EntryChanges, kept_entry}
use Rattle.entry_base.proofs.OneByOne.{caller_stays, pending_set}
use Rattle.entry_base.proofs.OwnsStay.{pending_stays}
use Rattle.entry_base.proofs.Steps.{Given, Keeps, given, keeps_by}
use Rattle.entry_rule.specs.Looks.{stored_word, HasTicket, Published}

-- a number may publish the cell at an index, which has this tag and value
record TicketCell (s : Table) (b i tag value : ℕ) : Type 0 where
  ticket : s.ticket b ≡ Some i
  cell : Cell
  stands : s.cells Trusted i ≡ Some cell
  tagged : cell.tag ≡ tag
  valued : cell.value ≡ value

abbrev is_of : PendingCell → ℕ → Cell → Type 0
is_of x j c = Some x ≡ Some (record { index = j; tag = c.tag; value = c.value })

ticket_cell : (s : Table) (b : ℕ) (x : PendingCell) (found : Option ℕ) → s.ticket b ≡ found → IsPending s found (Some x) → TicketCell s b x.index x.tag x.value
ticket_cell s b x None is was = absurd (cc)
ticket_cell s b x (Some j) is was =
    let c = IsSome-value (s.cells Trusted j) (IsSomeAnd-some (s.cells Trusted j) (is_of x j) was) in
    let same = same_Some x (record { index = j; tag = c.0.tag; value = c.0.value }) (IsSomeAnd-is (s.cells Trusted j) (is_of x j) c.0 c.1 was) in
    let index : x.index ≡ j = ap (λ (y : PendingCell). y.index) same in
    record {
      ticket = is ∙ ap Some (sym index);
      cell = c.0;
      stands = ap (s.cells Trusted) index ∙ c.1;
      tagged = sym (ap (λ (y : PendingCell). y.tag) same);
      valued = sym (ap (λ (y : PendingCell). y.value) same);
    }

module _ (key : Opening) (words : List ℕ) (views : List View) (id : ℕ) (v : View) (i tag value : ℕ) (k : Kept key words views) (at : get_elem? views id ≡ some v)
    (caller : IsCaller key v) (mutator : v.number < 8) (has : HasTicket v i tag value) (below : i < limit_in (sizes_in key) Trusted) where
  abbrev place : ℕ
  place = entry_place (sizes_in key) Trusted i

  abbrev e : Event
  e = event_of v (act.Publish i) reply.Ok

  abbrev w : View
  w = record v { seen = k.log ++ e ∷ []; pending = slice_set v.pending v.number None }

  -- a ticket that stands in the list stands within it
  long : v.number < length v.pending
  long = elim (cases_lt v.number (length v.pending)) [
    | inl within ↦ within
    | inr past ↦ absurd (let none_there : slice_index_or v.pending v.number None ≡ None = get_or_past v.pending v.number None past in let some_there = has None in cc)
  ]

  there : (s : Table) → Given key k.log k.shown words v s → TicketCell s v.number i tag value
  there s g = ticket_cell s v.number (record { index = i; tag = tag; value = value }) (s.ticket v.number) refl
      (subst (λ (x : Option Pending). IsPending s (s.ticket v.number) (pending_cell x)) (has None) (g.owns.pending v.number None caller.own mutator))

  new_word : (s : Table) (t : TicketCell s v.number i tag value) → stored_word tag value ≡ cell_word (record t.cell { shown = true }) true
  new_word s t = λ j. cell_word (record { id = 0; tag = sym t.tagged j; value = sym t.valued j; shown = true }) true

  open_word : stored_word tag value ≢ no_access_word
  open_word =
      let g = given key words views id v k at k.base k.is_base in
      let t = there _ g in
      let good = g.sound.cells.tags Trusted i t.cell t.stands in
      subst (λ (n : ℕ). n ≢ no_access_word) (sym (new_word _ t)) (cell_word-open (record t.cell { shown = true }) true good.0.1 good.1 good.0.0)

  module _ (s : Table) (g : Given key k.log k.shown words v s) where
    legal : IsLegal s e
    legal = ((there s g).ticket, refl)

    new_cell : (next s e).cells Trusted i ≡ Some (record (there s g).cell { shown = true })
    new_cell = put_entry-same s.cells Trusted i (option_map (λ (c : Cell). record c { shown = true }) (s.cells Trusted i))
        ∙ ap (option_map (λ (c : Cell). record c { shown = true })) (there s g).stands

    own_pending : (b : ℕ) (d : Option Pending) → HasNumber v b → b < 8 → IsPending (next s e) (put_at s.ticket v.number None b) (pending_cell (slice_index_or (slice_set v.pending v.number None) b d))
    own_pending b d is_number few = elim (eqb_tells v.number b) [
      | inl same ↦
          subst (λ (c : ℕ). IsPending (next s e) (put_at s.ticket v.number None c) (pending_cell (slice_index_or (slice_set v.pending v.number None) c d))) same.1
          (subst (λ (x : Option ℕ). IsPending (next s e) x (pending_cell (slice_index_or (slice_set v.pending v.number None) v.number d))) (sym (put_at-same s.ticket v.number None))
          (ap pending_cell (get_or-set_same v.pending v.number None d long)))
      | inr apart ↦
          subst (λ (x : Option ℕ). IsPending (next s e) x (pending_cell (slice_index_or (slice_set v.pending v.number None) b d))) (sym (put_at-other s.ticket v.number b None apart.1))
          (subst (λ (x : Option Pending). IsPending (next s e) (s.ticket b) (pending_cell x)) (sym (get_or-set_other v.pending v.number b None d (λ same. apart.1 (sym same))))
          (pending_stays s e (next s e) (s.ticket b) (pending_cell (slice_index_or v.pending b d)) (events-steady s e g.sound legal tt).cells (g.owns.pending b d is_number few)))
    ]

    changes : EntryChanges (sizes_in key) k.log e k.shown words Trusted i (stored_word tag value) w [] s
    changes = record {
      legal = legal;
      shows = subst (λ (z : Sizes). Shows (set k.shown (entry_place z Trusted i) (stored_word tag value)) (next s e)) g.sizes
          (subst (λ (n : ℕ). Shows (set k.shown (entry_place s.sizes Trusted i) n) (next s e)) (sym (new_word s (there s g)))
          (CellWordsFollow-row k.shown s e Trusted i (record (there s g).cell { shown = true }) g.sound.used g.shows legal (refl, refl) new_cell));
      used = cell-used s Trusted i g.sound (ap is_some (there s g).stands);
      marked = λ stood. marked_in-here s.cycle Trusted i;
      owns = record { variables = g.owns.variables; pending = own_pending; owed = g.owns.owed; fresh = g.owns.fresh };
      tells = tt;
    }

  kept_publish : (w : View) × Kept key (set words place (stored_word tag value)) (set views id w) × Published v i w
  kept_publish =
      let done = kept_entry key words views id v w k at [] e refl caller.own tt (λ q. refl) refl refl refl refl refl Trusted i (stored_word tag value) below
      open_word (λ o m var is. absurd (cc)) changes in (
        w,
        done.0,
        record {
          same = record { opening = refl; number = refl; numbers = refl; cut = refl; knows = λ f known. known };
          rest = (refl, refl, refl, refl);
          pending = refl;
          extends = done.1 caller.opened;
        },
      )

-- the publisher gave its ticket up, and can call
pub published_calls : (key : Opening) (v : View) (i : ℕ) (w : View) → IsCaller key v → Published v i w → IsCaller key w
published_calls key v i w caller t =
    caller_stays key v w caller t.same t.extends.lawful (subst (AreVariables key) (sym t.rest.0) caller.variables)
    (subst (ArePublishable key) (sym t.pending) (pending_set key v.pending v.number None caller.pending tt))
    (subst (AreWithin key) (sym t.rest.3) caller.hands)

pub publishes : (key : Opening) (slots id : ℕ) (me : Me (Unit {0}) View) (i tag value : ℕ) → IsCaller key me.0 → me.0.number < 8 → HasTicket me.0 i tag value → i < limit_in (sizes_in me.0.opening) Trusted → Keeps key slots id me (entry_place (sizes_in key) Trusted i) (λ x. stored_word tag value) (λ found w. Published me.0 i w)
publishes key slots id me i tag value caller mutator has below =
    keeps_by key slots id me (entry_place (sizes_in key) Trusted i) (λ x. stored_word tag value) (λ found w. Published me.0 i w)
    (λ words views k at. kept_publish key words views id me.0 i tag value k at caller mutator has (subst (λ (o : Opening). i < limit_in (sizes_in o) Trusted) caller.opened below))
