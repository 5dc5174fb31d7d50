-- Binds of mutator 0: what an image shows after one that finds its field taken, after one that leaves the tickets alone, and
-- after one that makes its index the mutator's ticket.
use Rattle.std.proofs.Common.{◌≡◌, ◌≢◌, ℕ, ◌^◌, ◌<◌, Bool, slice_index, slice_set, Option, Some, refl, sym, ap, subst, ◌∙◌, arith, eq-eqb, ne_eqb, get_or-set_other}
use Rattle.std.specs.Prelude.{if◌then◌else◌, ◌⊎◌}
use Rattle.plain_table.specs.declared.events.Act.TheVariants.{Bind}
use Rattle.plain_table.specs.declared.events.Cell.{Cell}
use Rattle.plain_table.specs.declared.events.Event.{Event}
use Rattle.plain_table.specs.declared.events.Field.{Field}
use Rattle.plain_table.specs.declared.events.Space.TheVariants.{Trusted}
use Rattle.plain_table.specs.declared.reports.Reply.TheVariants as reply
use Rattle.plain_table.specs.Index.{index_of}
use Rattle.plain_table.specs.Places.{object_of, put_at, space_of}
use Rattle.plain_table.specs.Table.{Table}
use Rattle.plain_table.specs.Rows.{Holds, IsFreshBind, IsSharedBind, tickets_after, with_bound, with_unbound}
use Rattle.plain_table.specs.Words.{field_place, header_place}
use Rattle.plain_table.specs.History.{IsLegal, next}
use Rattle.plain_table.specs.Shapes.{event}
use Rattle.plain_table.specs.Shows.{Image, PendingCell, Shows}
use Rattle.plain_table.proofs.Options.{IsSomeAnd-by}
use Rattle.plain_table.proofs.WordPlaces.{header-apart-field}
use Rattle.word_laws.proofs.FieldWords.{FieldWordsFollow-row}
use Rattle.word_laws.proofs.QuietWords.{WordsStay-all}
use Rattle.mutator_calls.specs.Calls.{Sees}
use Rattle.mutator_calls.proofs.Seen.{HasPending, HasPending-next, HasVariables, IsCovered-next, Sees-next, Sees-words}
use Rattle.mutator_calls.proofs.Tickets.{HasPending-put}

-- a bind of mutator 0 may be made
abbrev pub MayBind : Table → Field → ℕ → Type 0
MayBind s f w = Holds s 0 (object_of f) × (w < 2 ^ 32) × (IsFreshBind s 0 f w ⊎ IsSharedBind s f w)

-- the image shows the table after the event, which changes no variable
pub record FollowsTo (now : Image) (s : Table) (e : Event) (ticket : ℕ → Option ℕ) : Type 0 where
  pub legal : IsLegal s e
  pub sees : Sees now (next s e)
  pub vars : (next s e).vars ≡ s.vars
  pub ticket_is : (next s e).ticket ≡ ticket

module _ (image : Image) (s : Table) (h : Sees image s) (f : Field) (w : ℕ) (may : MayBind s f w) where
  module _ (some : s.words f ≢ 0) where
    abbrev taken : Event
    taken = event 0 (Bind f w) (reply.Taken (s.words f))

    IsLegal-taken : IsLegal s taken
    IsLegal-taken = (may, sym (ap (λ (b : Bool). if b then reply.Ok else reply.Taken (s.words f)) (ne_eqb (s.words f) 0 some)))

    next-taken : next s taken ≡ with_unbound s 0 f w
    next-taken = ap (λ (b : Bool). if b then with_bound s 0 f w else with_unbound s 0 f w) (ne_eqb (s.words f) 0 some)

    pub FollowsTo-taken : FollowsTo image s taken s.ticket
    FollowsTo-taken = record {
      legal = IsLegal-taken;
      sees = Sees-words image s taken h IsLegal-taken tt image.words (WordsStay-all image.words s taken h.shows.words IsLegal-taken (s.words f, refl)) (λ o few. refl)
          (ap (λ (t : Table). t.refs) next-taken) (ap (λ (t : Table). t.vars) next-taken) (ap (λ (t : Table). t.ticket) next-taken);
      vars = ap (λ (t : Table). t.vars) next-taken;
      ticket_is = ap (λ (t : Table). t.ticket) next-taken;
    }

  module _ (none : s.words f ≡ 0) where
    abbrev bound : Event
    bound = event 0 (Bind f w) reply.Ok

    IsLegal-bound : IsLegal s bound
    IsLegal-bound = (may, sym (ap (λ (b : Bool). if b then reply.Ok else reply.Taken (s.words f)) (eq-eqb (s.words f) 0 none)))

    next-bound : next s bound ≡ with_bound s 0 f w
    next-bound = ap (λ (b : Bool). if b then with_bound s 0 f w else with_unbound s 0 f w) (eq-eqb (s.words f) 0 none)

    object-few : object_of f < s.sizes.objects
    object-few =
        let held = may.0 in
        let made = (h.sound.objects.variables 0 held.0 (object_of f) held.2).2 in
        let few = h.sound.objects.few in
        omega (arith, made, few)

    shows : Shows (slice_set image.words (field_place f) w) (next s bound)
    shows = FieldWordsFollow-row image.words s bound f w object-few h.shows.words IsLegal-bound (refl, refl, refl)

    headers : (o : ℕ) → o < s.sizes.objects → slice_index (slice_set image.words (field_place f) w) (header_place o) ≡ slice_index image.words (header_place o)
    headers o few = get_or-set_other image.words (field_place f) (header_place o) w 0 (header-apart-field o f)

    pub FollowsTo-bound : tickets_after s 0 (space_of f) (index_of w) ≡ s.ticket →
        FollowsTo (record image { words = slice_set image.words (field_place f) w }) s bound s.ticket
    FollowsTo-bound stays =
        let ticket = ap (λ (t : Table). t.ticket) next-bound ∙ stays in
        record {
          legal = IsLegal-bound;
          sees = Sees-words image s bound h IsLegal-bound tt (slice_set image.words (field_place f) w) shows headers
              (ap (λ (t : Table). t.refs) next-bound) (ap (λ (t : Table). t.vars) next-bound) ticket;
          vars = ap (λ (t : Table). t.vars) next-bound;
          ticket_is = ticket;
        }

    -- the index that the word names becomes the ticket
    pub FollowsTo-ticket : (i : ℕ) (cell : Cell) → s.cells Trusted i ≡ Some cell → tickets_after s 0 (space_of f) (index_of w) ≡ put_at s.ticket 0 (Some i) →
        (now : Image) → now.sizes ≡ image.sizes → now.variables ≡ image.variables → now.words ≡ slice_set image.words (field_place f) w →
        now.pending ≡ slice_set image.pending 0 (Some (record { index = i; tag = cell.tag; value = cell.value })) →
        FollowsTo now s bound (put_at s.ticket 0 (Some i))
    FollowsTo-ticket i cell stands becomes now sizes variables words pending =
        let ticket = ap (λ (t : Table). t.ticket) next-bound ∙ becomes in
        let stays = ap (λ (t : Table). t.cells Trusted i) next-bound ∙ stands in
        let p : PendingCell = record { index = i; tag = cell.tag; value = cell.value } in
        let variables_are : HasVariables image.variables (next s bound).vars =
        subst (HasVariables image.variables) (sym (ap (λ (t : Table). t.vars) next-bound)) h.shows.variables in
        let pending_are : HasPending (slice_set image.pending 0 (Some p)) (next s bound) (put_at s.ticket 0 (Some i)) =
        HasPending-put image.pending (next s bound) s.ticket 0 (Some i) (Some p) (omega arith)
        (HasPending-next image s bound h IsLegal-bound tt s.ticket h.shows.pending)
        (IsSomeAnd-by ((next s bound).cells Trusted i) cell (λ (c : Cell). Some p ≡ Some (record { index = i; tag = c.tag; value = c.value })) stays refl) in
        record {
          legal = IsLegal-bound;
          sees = Sees-next image s bound h IsLegal-bound tt now sizes
              (subst (λ ws. Shows ws (next s bound)) (sym words) shows)
              (IsCovered-next image s bound h IsLegal-bound tt now.words
              (λ o few. ap (λ ws. slice_index ws (header_place o)) words ∙ headers o few)
              (λ o k. ap (λ (t : Table). t.refs o k) next-bound))
              (subst (λ vs. HasVariables vs (next s bound).vars) (sym variables) variables_are)
              (subst (λ ps. HasPending ps (next s bound) (next s bound).ticket) (sym pending)
              (subst (HasPending (slice_set image.pending 0 (Some p)) (next s bound)) (sym ticket) pending_are));
          vars = ap (λ (t : Table). t.vars) next-bound;
          ticket_is = ticket;
        }
