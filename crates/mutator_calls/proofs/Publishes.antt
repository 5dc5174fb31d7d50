-- Publishing: after it the cell at the ticket's index can be seen, and the ticket is given up.
use Rattle.std.proofs.Common.{◌≡◌, ◌≢◌, ℕ, ◌+◌, ◌*◌, ◌<◌, true, [], ◌∷◌, List, length, map, slice_index, slice_set, Option, Some, None, refl, sym, ap, subst, ◌∙◌, inl, inr, arith}
use Rattle.std.specs.Global.{Vec}
use Rattle.std.specs.Prelude.{MatchOption}
use Rattle.std.specs.Option.{option_map}
use Rattle.std.proofs.lemmas.List.{map-set}
use Rattle.plain_table.specs.declared.events.Act.TheVariants.{Name, Publish}
use Rattle.plain_table.specs.declared.events.Cell.{Cell}
use Rattle.plain_table.specs.declared.events.Event.{Event}
use Rattle.plain_table.specs.declared.events.Field.{Field}
use Rattle.plain_table.specs.declared.events.Field.TheVariants as field
use Rattle.plain_table.specs.declared.events.Space.TheVariants.{Trusted}
use Rattle.plain_table.specs.declared.scripts.Op.TheVariants as op
use Rattle.plain_table.specs.declared.reports.Reply.TheVariants as reply
use Rattle.plain_table.specs.Index.{index_of}
use Rattle.plain_table.specs.Table.{Table, Sizes}
use Rattle.plain_table.specs.Words.{cell_word, entry_place, object_word}
use Rattle.plain_table.specs.History.{IsLegal, IsLegalHistory, next}
use Rattle.plain_table.specs.Shapes.{IsEmptyCall, IsTPub, event}
use Rattle.plain_table.specs.Shows.{Image, Shows}
use Rattle.plain_table.proofs.PlaceReads.{put_entry-same}
use Rattle.plain_table.proofs.WordPlaces.{entry_place-from}
use Rattle.word_laws.proofs.CellWords.{CellWordsFollow-row}
use Rattle.entry_word.specs.declared.image.Pending.{Pending}
use Rattle.entry_word.specs.Entry.{tagged_word}
use Rattle.entry_word.specs.Image.{image_of, pending_of, sizes_of}
use Rattle.mutator_calls.specs.declared.heap.Mutator.{Mutator}
use Rattle.mutator_calls.specs.Calls.{Makes, Sees}
use Rattle.mutator_calls.proofs.Fields.{Holds-variable}
use Rattle.mutator_calls.proofs.Quiet.{IsLegal-name, Makes-name}
use Rattle.mutator_calls.proofs.Seen.{HasPending, HasPending-next, IsCovered-next, Sees-next}
use Rattle.mutator_calls.proofs.Tickets.{HasPending-put, IsOwnPending}
use Rattle.mutator_calls.proofs.Written.{HandsOver-parts, KeepsHeaders, KeepsHeaders-set, with_parts}

abbrev shown_cell : Cell → Cell
shown_cell cell = record cell { shown = true }

module _ (image : Image) (s : Table) (h : Sees image s) (i : ℕ) (ticket : s.ticket 0 ≡ Some i) (cell : Cell) (stands : s.cells Trusted i ≡ Some cell) where
  abbrev e : Event
  e = event 0 (Publish i) reply.Ok

  pub IsLegal-publish : IsLegal s e
  IsLegal-publish = (ticket, refl)

  shown-next : (next s e).cells Trusted i ≡ Some (shown_cell cell)
  shown-next = put_entry-same s.cells Trusted i (option_map shown_cell (s.cells Trusted i)) ∙ ap (option_map shown_cell) stands

  -- the words and the pending cells of any image that has the cell's word, and no cell of the mutator pending
  pub Sees-publish : (now : Image) → now.sizes ≡ image.sizes → now.variables ≡ image.variables →
      now.words ≡ slice_set image.words (entry_place s.sizes Trusted i) (cell_word (shown_cell cell) true) →
      now.pending ≡ slice_set image.pending 0 None → KeepsHeaders s.sizes.objects image.words now.words → Sees now (next s e)
  Sees-publish now sizes variables words pending keeps =
      Sees-next image s e h IsLegal-publish tt now sizes
      (subst (λ ws. Shows ws (next s e)) (sym words)
      (CellWordsFollow-row image.words s e Trusted i (shown_cell cell) h.sound.used h.shows.words IsLegal-publish (refl, refl) shown-next))
      (IsCovered-next image s e h IsLegal-publish tt now.words keeps.headers (λ o k. refl))
      (subst (λ vs. (length vs ≡ 128) × ((b v : ℕ) → b < 8 → v < 16 → slice_index vs (16 * b + v) ≡ object_word ((next s e).vars b v))) (sym variables) h.shows.variables)
      (subst (λ ps. HasPending ps (next s e) (next s e).ticket) (sym pending)
      (HasPending-put image.pending (next s e) s.ticket 0 None None (omega arith) (HasPending-next image s e h IsLegal-publish tt s.ticket h.shows.pending) refl))

module _ (m : Mutator) (s : Table) (h : Sees (image_of m.image) s) (var o : ℕ) (small : var < 16) (held : s.vars 0 var ≡ Some o) where
  abbrev f : Field
  f = field.Trusted o

  abbrev i : ℕ
  i = index_of (s.words f)

  -- the named index is not the mutator's ticket
  pub Makes-not_yours : s.ticket 0 ≢ Some i → Makes m m s (op.TPub var) reply.NotYours
  Makes-not_yours other =
      Makes-name m s h (op.TPub var) reply.NotYours f (s.words f) (Holds-variable s var o f small held refl) refl
      (subst (λ x. MatchOption x (IsEmptyCall reply.NotYours named) (λ q. IsTPub 0 (s.ticket 0) (field.Trusted q) reply.NotYours named)) (sym held)
      (s.words f, inl (other, refl, refl)))
    where
      named : List Event
      named = event 0 (Name f) (reply.Word (s.words f)) ∷ []

  -- it is
  module _ (x : Pending) (own : IsOwnPending s (pending_of x)) (same : x.index ≡ i) (words : Vec ℕ) (pending : Vec (Option Pending))
      (words_is : words.items ≡ slice_set m.image.words.items (entry_place (sizes_of m.image.shape) Trusted i) (tagged_word x.tag x.value true))
      (pending_is : pending.items ≡ slice_set m.image.pending.items 0 None) where
    pub KeepsHeaders-publish : KeepsHeaders m.image.shape.objects m.image.words.items words.items
    KeepsHeaders-publish =
        let from = entry_place-from (sizes_of m.image.shape) Trusted i in
        KeepsHeaders-set m.image.shape.objects m.image.words.items words.items (entry_place (sizes_of m.image.shape) Trusted i) (tagged_word x.tag x.value true) words_is
        (omega (arith, from)) (λ o few is. absurd (omega (arith, from, few, is)))

    abbrev events : List Event
    events = event 0 (Name f) (reply.Word (s.words f)) ∷ event 0 (Publish i) reply.Ok ∷ []

    ticket : s.ticket 0 ≡ Some i
    ticket = own.ticket ∙ ap Some same

    stands : s.cells Trusted i ≡ Some own.cell
    stands = ap (s.cells Trusted) (sym same) ∙ own.stands

    legal : IsLegalHistory s events
    legal = (IsLegal-name s f (s.words f) (Holds-variable s var o f small held refl) refl, (IsLegal-publish (image_of m.image) s h i ticket own.cell stands, tt))

    word : tagged_word x.tag x.value true ≡ cell_word (shown_cell own.cell) true
    word = let tag = own.tag in let value = own.value in omega (arith, tag, value)

    sees : Sees (image_of (with_parts m words pending).image) (next s (event 0 (Publish i) reply.Ok))
    sees =
        Sees-publish (image_of m.image) s h i ticket own.cell stands (image_of (with_parts m words pending).image) refl refl
        (words_is
        ∙ ap (λ (z : Sizes). slice_set m.image.words.items (entry_place z Trusted i) (tagged_word x.tag x.value true)) (sym h.shows.sizes)
        ∙ ap (slice_set m.image.words.items (entry_place s.sizes Trusted i)) word)
        (ap (map (option_map pending_of)) pending_is ∙ map-set (option_map pending_of) m.image.pending.items 0 None)
        (subst (λ n. KeepsHeaders n m.image.words.items words.items) (sym (ap (λ (z : Sizes). z.objects) h.shows.sizes)) KeepsHeaders-publish)

    pub Makes-publish : Makes m (with_parts m words pending) s (op.TPub var) reply.Ok
    Makes-publish = record {
      events = events;
      legal = legal;
      own = (refl, (refl, tt));
      shape = subst (λ x. MatchOption x (IsEmptyCall reply.Ok events) (λ q. IsTPub 0 (s.ticket 0) (field.Trusted q) reply.Ok events)) (sym held)
          (s.words f, inr (ticket, refl));
      held = refl;
      ticket = refl;
      sees = sees;
      handed = λ linked. HandsOver-parts m words pending KeepsHeaders-publish linked s events h legal (tt, (tt, tt));
    }
