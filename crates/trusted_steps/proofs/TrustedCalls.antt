-- Calls by the trusted field of a variable's object, and what they leave of the mutator's ticket.
use Rattle.std.proofs.Common.{◌≡◌, ◌≢◌, ℕ, zero, suc, ◌+◌, ◌*◌, ◌<◌, List, [], ◌∷◌, Option, Some, None, option_map, length, slice_index, slice_index_or, slice_set, get_or-set_same, refl, sym, ap, subst, ◌∙◌, inl, inr, arith}
use Rattle.plain_table.specs.declared.events.Act.TheVariants as act
use Rattle.plain_table.specs.declared.events.Event.{Event}
use Rattle.plain_table.specs.declared.events.Field.TheVariants as field
use Rattle.plain_table.specs.declared.events.Space.TheVariants.{Trusted}
use Rattle.plain_table.specs.declared.scripts.Op.{Op}
use Rattle.plain_table.specs.declared.scripts.Op.TheVariants as op
use Rattle.plain_table.specs.declared.reports.Reply.{Reply}
use Rattle.plain_table.specs.declared.reports.Reply.TheVariants as reply
use Rattle.plain_table.specs.Cycle.{Cycle, start_in}
use Rattle.plain_table.specs.Index.{index_of}
use Rattle.plain_table.specs.Shapes.{Held, OwnTicket, IsLoad, IsTPub, WithObject, event, held_after, own_after, with_ticket}
use Rattle.plain_table.specs.Words.{object_word, phase_word}
use Rattle.entry_word.specs.declared.image.Pending.{Pending}
use Rattle.entry_base.specs.declared.view.View.{View}
use Rattle.entry_base.specs.Callers.{SameCaller, event_of}
use Rattle.entry_base.specs.Learned.{Answered}
use Rattle.entry_base.specs.Numbers.{HasNumber}
use Rattle.entry_base.specs.Openings.{phase_of, start_of}
use Rattle.entry_base.specs.Sessions.{held_in, pending_in, ticket_in}
use Rattle.entry_rule.specs.Looks.{HasTicket, Published}
use Rattle.call_base.specs.Called.{Called, EndsWith, LeavesOwn, Made, Suits}
use Rattle.call_base.proofs.CallsInOrder.{called_then, pends_stay, suits_stay}
use Rattle.call_base.proofs.OneEvent.{HasShape, called_once, ends_once, made_still, made_stays}
use Rattle.call_base.proofs.HeldVariables.{WithObject-none, WithObject-some, held_suits}

-- a call by a variable that holds nothing, and by one that holds an object
pub with_none : (u : View) (var : ℕ) → var < 16 → held_in u var ≡ None → (Shape : ℕ → Type 0) (cycle : Option Cycle) (held : Held) (own : OwnTicket) → Suits u cycle held own
    → WithObject held var reply.Empty [] Shape
with_none u var few none Shape cycle held own suits = WithObject-none held var Shape (held_suits u var few cycle held own suits ∙ none)

pub with_some : (u : View) (var o : ℕ) → var < 16 → held_in u var ≡ Some o → (said : Reply) (events : List Event) (Shape : ℕ → Type 0) → Shape o
    → (cycle : Option Cycle) (held : Held) (own : OwnTicket) → Suits u cycle held own → WithObject held var said events Shape
with_some u var o few found said events Shape shape cycle held own suits = WithObject-some held var o said events Shape (held_suits u var few cycle held own suits ∙ found) shape

-- loads
pub Made-traw : (v w : View) (word first last : ℕ) (said : Reply) → Called v (event_of v (act.Look Trusted word first last) said ∷ []) w
    → EndsWith (event_of v (act.Look Trusted word first last) said ∷ []) w.seen → LeavesOwn v w → Made v (op.TRaw word first last) said w
Made-traw v w word first last said called ends leaves =
    made_stays v w (op.TRaw word first last) said _ called ends (λ cycle held own suits. refl) (suits_stay v w called.same leaves.own.vars leaves.own.pending) (λ held. refl) (λ ticket. refl)

pub Made-tload_empty : (u : View) (var first last : ℕ) → var < 16 → held_in u var ≡ None → Made u (op.TLoad var first last) reply.Empty u
Made-tload_empty u var first last few none = made_still u (op.TLoad var first last) reply.Empty (with_none u var few none _)

pub Made-tload : (u v w : View) (var o word first last : ℕ) (said : Reply) → var < 16 → held_in u var ≡ Some o → HasNumber u u.number
    → Answered u (event_of u (act.Name (field.Trusted o)) (reply.Word word)) v → LeavesOwn u w
    → Called v (event_of v (act.Look Trusted word first last) said ∷ []) w → EndsWith (event_of v (act.Look Trusted word first last) said ∷ []) w.seen
    → Made u (op.TLoad var first last) said w
Made-tload u v w var o word first last said few found own named leaves looked ends =
    let first_called = called_once u v _ _ own named.same named.extends in
    let called = called_then u v w (event_of u (act.Name (field.Trusted o)) (reply.Word word) ∷ []) (λ b. event b (act.Look Trusted word first last) said ∷ []) first_called looked in
    made_stays u w (op.TLoad var first last) said _ called (subst (λ b. EndsWith (event b (act.Look Trusted word first last) said ∷ []) w.seen) named.same.number ends)
    (with_some u var o few found said _
    (λ q. IsLoad u.number Trusted (field.Trusted q) first last said (event_of u (act.Name (field.Trusted o)) (reply.Word word) ∷ event_of u (act.Look Trusted word first last) said ∷ [])) (word, refl))
    (suits_stay u w called.same leaves.own.vars leaves.own.pending) (λ held. refl) (λ ticket. refl)

-- a call that leaves the variables, and the ticket that the view then tells
pub made_tickets : (v w : View) (call : Op) (said : Reply) (events : List Event) → Called v events w → EndsWith events w.seen → HasShape v call said events → w.vars ≡ v.vars
    → ((held : Held) → held_after held events ≡ held) → own_after (with_ticket (ticket_in v)) events ≡ with_ticket (ticket_in w) → Made v call said w
made_tickets v w call said events called ends shape vars held_still own = record {
  own = events;
  called = called;
  ends = ends;
  shape = shape;
  suits = λ cycle held ticket a. record {
    phase = subst (λ o. phase_word cycle ≡ phase_of o) (sym called.same.opening) a.phase;
    start = subst (λ o. start_in cycle ≡ start_of o) (sym called.same.opening) a.start;
    holds = λ i low. subst (λ n. slice_index w.vars (16 * n + i) ≡ object_word (held_after held events i)) (sym called.same.number)
        (subst (λ h. slice_index w.vars (16 * v.number + i) ≡ object_word (h i)) (sym (held_still held))
        (subst (λ l. slice_index l (16 * v.number + i) ≡ object_word (held i)) (sym vars) (a.holds i low)));
    pends = ap (λ t. own_after t events) a.pends ∙ own;
  };
}

-- the ticket after a cell to publish was set
pub ticket_in-set : (v w : View) (cell : Option Pending) → SameCaller v w → v.number < 8 → length v.pending ≡ 8 → w.pending ≡ slice_set v.pending v.number cell
    → ticket_in w ≡ option_map (λ (p : Pending). p.index) cell
ticket_in-set v w cell same mutator eight set =
    ap (λ n. option_map (λ (p : Pending). p.index) (slice_index_or w.pending n None)) same.number
    ∙ (ap (λ l. option_map (λ (p : Pending). p.index) (slice_index_or l v.number None)) set
    ∙ ap (option_map (λ (p : Pending). p.index)) (get_or-set_same v.pending v.number cell None (omega (arith, mutator, eight))))

-- a cell that is read with no default is read with any
pub has_ticket : (v : View) (cell : Pending) → pending_in v ≡ Some cell → HasTicket v cell.index cell.tag cell.value
has_ticket v cell is = read v.pending v.number is
  where
    read : (cells : List (Option Pending)) (n : ℕ) → slice_index_or cells n None ≡ Some cell → (d : Option Pending) → slice_index_or cells n d ≡ Some cell
    read [] n e d = absurd (cc)
    read (x ∷ xs) zero e d = e
    read (x ∷ xs) (suc n) e d = read xs n e d

-- publishing
pub Made-publish_empty : (u : View) (var : ℕ) → var < 16 → held_in u var ≡ None → Made u (op.TPub var) reply.Empty u
Made-publish_empty u var few none = made_still u (op.TPub var) reply.Empty (λ cycle held own suits.
    with_none u var few none (λ o. IsTPub u.number own.ticket (field.Trusted o) reply.Empty []) cycle held own suits)

module _ (u v : View) (var o word : ℕ) (few : var < 16) (found : held_in u var ≡ Some o) (own : HasNumber u u.number)
    (named : Answered u (event_of u (act.Name (field.Trusted o)) (reply.Word word)) v) where
  abbrev name_event : Event
  name_event = event_of u (act.Name (field.Trusted o)) (reply.Word word)

  first_called : Called u (name_event ∷ []) v
  first_called = called_once u v _ _ own named.same named.extends

  own_ticket : (cycle : Option Cycle) (held : Held) (ticket : OwnTicket) → Suits u cycle held ticket → ticket.ticket ≡ ticket_in v
  own_ticket cycle held ticket suits = ap (λ (t : OwnTicket). t.ticket) suits.pends ∙ pends_stay u v named.same named.own.pending

  pub Made-not_yours : ticket_in v ≢ Some (index_of word) → Made u (op.TPub var) reply.NotYours v
  Made-not_yours other = made_stays u v (op.TPub var) reply.NotYours (name_event ∷ []) first_called (ends_once u v name_event named.extends)
      (λ cycle held ticket suits. with_some u var o few found reply.NotYours (name_event ∷ [])
      (λ q. IsTPub u.number ticket.ticket (field.Trusted q) reply.NotYours (name_event ∷ []))
      (word, inl ((λ is. other (sym (own_ticket cycle held ticket suits) ∙ is)), refl, refl)) cycle held ticket suits)
      (suits_stay u v named.same named.own.vars named.own.pending) (λ held. refl) (λ ticket. refl)

  pub Made-publish : (w : View) (i : ℕ) → u.number < 8 → length u.pending ≡ 8 → HasNumber v v.number → ticket_in v ≡ Some i → i ≡ index_of word → Published v i w → Made u (op.TPub var) reply.Ok w
  Made-publish w i mutator eight own_there is_ticket at published =
      let published_at = subst (λ j. Published v j w) at published in
      let called = called_then u v w (name_event ∷ []) (λ b. event b (act.Publish (index_of word)) reply.Ok ∷ []) first_called
      (called_once v w (act.Publish (index_of word)) reply.Ok own_there published_at.same published_at.extends) in
      made_tickets u w (op.TPub var) reply.Ok (name_event ∷ event u.number (act.Publish (index_of word)) reply.Ok ∷ []) called
      (subst (λ b. EndsWith (event b (act.Publish (index_of word)) reply.Ok ∷ []) w.seen) named.same.number (ends_once v w (event_of v (act.Publish (index_of word)) reply.Ok) published_at.extends))
      (λ cycle held ticket suits. with_some u var o few found reply.Ok _
      (λ q. IsTPub u.number ticket.ticket (field.Trusted q) reply.Ok (name_event ∷ event u.number (act.Publish (index_of word)) reply.Ok ∷ []))
      (word, inr (own_ticket cycle held ticket suits ∙ (is_ticket ∙ ap Some at), refl)) cycle held ticket suits)
      (published.rest.0 ∙ named.own.vars) (λ held. refl)
      (ap with_ticket (sym (ticket_in-set u w None called.same mutator eight
      (published.pending ∙ (ap (λ l. slice_set l v.number None) named.own.pending ∙ ap (λ n. slice_set u.pending n None) named.same.number)))))
