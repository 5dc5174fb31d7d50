-- The events of a new trusted entry, and the ticket that they leave.
use Rattle.std.proofs.Common.{◌≡◌, ◌⊎◌, ℕ, ◌<◌, ◌==◌, ◌&&◌, if◌then◌else◌, Bool, true, false, List, [], ◌∷◌, Option, Some, None, length, slice_set, refl, sym, ap, subst, ◌∙◌, inl, inr, arith}
use Rattle.std.proofs.lemmas.Bool.Decides.{nat_tests}
use Rattle.plain_table.specs.declared.events.Act.TheVariants as act
use Rattle.plain_table.specs.declared.events.Event.{Event}
use Rattle.plain_table.specs.declared.events.Field.TheVariants as field
use Rattle.plain_table.specs.declared.events.Space.TheVariants.{Trusted}
use Rattle.plain_table.specs.declared.scripts.Op.TheVariants as op
use Rattle.plain_table.specs.declared.reports.Reply.{Reply}
use Rattle.plain_table.specs.declared.reports.Reply.TheVariants as reply
use Rattle.plain_table.specs.Index.{index_of, word_of}
use Rattle.plain_table.specs.Shapes.{Held, IsTNew, event, held_after, own_after, own_bound, ticket_said, with_ticket}
use Rattle.entry_word.specs.declared.image.Pending.{Pending}
use Rattle.entry_base.specs.declared.view.Claim.{Claim}
use Rattle.entry_base.specs.declared.view.View.{View}
use Rattle.entry_base.specs.Callers.{event_of}
use Rattle.entry_base.specs.Numbers.{HasNumber}
use Rattle.entry_base.specs.Owns.{without_claim}
use Rattle.entry_base.specs.Sessions.{held_in, ticket_in}
use Rattle.entry_rule.specs.Entries.{PutTrusted}
use Rattle.object_rule.specs.Fields.{BoundTrusted, bind_reply}
use Rattle.call_base.specs.Called.{Called, EndsWith, Made}
use Rattle.call_base.proofs.CallsInOrder.{called_then, pends_stay}
use Rattle.call_base.proofs.OneEvent.{called_once, ends_once, made_still}
use Rattle.access_steps.proofs.NewBindings.{bind_reply-free, bind_reply-taken}
use Rattle.space_steps.specs.declared.tickets.Ticket.{Ticket}
use Rattle.space_steps.specs.Tickets.{OwesIndex}
use Rattle.trusted_steps.specs.Fills.{BindsNew, FillsNew, LeavesAllButTicket, fill_events}
use Rattle.trusted_steps.proofs.TrustedCalls.{made_tickets, ticket_in-set, with_none, with_some}

-- a claim that was added is the one that is taken off
pub without_claim-same : (b i : ℕ) (ts : List Claim) → without_claim b Trusted i (record { number = b; space = Trusted; index = i } ∷ ts) ≡ without_claim b Trusted i ts
without_claim-same b i ts =
    let t : ((b == b) && true && (i == i)) ≡ true = grind (arith, nat_tests) in
    ap (λ (x : Bool). if x then without_claim b Trusted i ts else (record { number = b; space = Trusted; index = i }) ∷ without_claim b Trusted i ts) t

module _ (v x y : View) (o i tag value word found : ℕ) (own : HasNumber v v.number) (own_there : HasNumber x x.number) (put : PutTrusted v i tag value x)
    (bound : BoundTrusted x o word tag value found y) (at : word ≡ word_of i) where
  index_at : index_of word ≡ i
  index_at = omega (arith, at)

  ends_at : EndsWith (event v.number (act.Bind (field.Trusted o) (word_of i)) (bind_reply found) ∷ []) y.seen
  ends_at = subst (λ b. EndsWith (event b (act.Bind (field.Trusted o) (word_of i)) (bind_reply found) ∷ []) y.seen) put.put.same.number
      (subst (λ n. EndsWith (event x.number (act.Bind (field.Trusted o) n) (bind_reply found) ∷ []) y.seen) at (ends_once x y _ bound.extends))

  called_both : Called v (fill_events v.number o i tag value (bind_reply found)) y
  called_both = called_then v x y (event_of v (act.Put Trusted i tag value) reply.Ok ∷ []) (λ b. event b (act.Bind (field.Trusted o) (word_of i)) (bind_reply found) ∷ [])
      (called_once v x _ _ own put.put.same put.put.extends)
      (subst (λ n. Called x (event x.number (act.Bind (field.Trusted o) n) (bind_reply found) ∷ []) y) at (called_once x y _ _ own_there bound.same bound.extends))

  fresh_after : y.fresh ≡ v.fresh
  fresh_after = bound.fresh
      ∙ (ap (λ j. without_claim x.number Trusted j x.fresh) index_at
      ∙ (ap (λ n. without_claim n Trusted i x.fresh) put.put.same.number
      ∙ (ap (without_claim v.number Trusted i) put.put.fresh
      ∙ (without_claim-same v.number i v.fresh ∙ put.put.fresh_claim))))

  pending_after : (is_free : Bool) → (found == 0) ≡ is_free
      → y.pending ≡ (if is_free then slice_set v.pending v.number (Some (record { index = i; tag = tag; value = value })) else v.pending)
  pending_after true free = bound.pending
      ∙ (ap (λ (b : Bool). if b then slice_set x.pending x.number (Some (record { index = index_of word; tag = tag; value = value })) else x.pending) free
      ∙ (ap (λ j. slice_set x.pending x.number (Some (record { index = j; tag = tag; value = value }))) index_at
      ∙ (ap (λ n. slice_set x.pending n (Some (record { index = i; tag = tag; value = value }))) put.put.same.number
      ∙ ap (λ l. slice_set l v.number (Some (record { index = i; tag = tag; value = value }))) put.put.rest.1)))
  pending_after false taken = bound.pending
      ∙ (ap (λ (b : Bool). if b then slice_set x.pending x.number (Some (record { index = index_of word; tag = tag; value = value })) else x.pending) taken
      ∙ put.put.rest.1)

  -- an index was filled, and a field bound to it
  BindsNew-said : (said : Reply) → bind_reply found ≡ said
      → ((said ≡ reply.Ok) × (y.pending ≡ slice_set v.pending v.number (Some (record { index = i; tag = tag; value = value })))) ⊎ ((n : ℕ) × (said ≡ reply.Taken n) × (y.pending ≡ v.pending))
      → BindsNew v o i tag value said y
  BindsNew-said said is ticket = record {
    called = subst (λ r. Called v (fill_events v.number o i tag value r) y) is called_both;
    ends = subst (λ r. EndsWith (event v.number (act.Bind (field.Trusted o) (word_of i)) r ∷ []) y.seen) is ends_at;
    rest = (bound.rest.0 ∙ put.put.rest.0, bound.rest.2 ∙ put.put.rest.2);
    owed = bound.rest.1 ∙ put.put.owed;
    fresh = fresh_after;
    ticket = ticket;
  }

  pub BindsNew-ok : found ≡ 0 → BindsNew v o i tag value reply.Ok y
  BindsNew-ok free = BindsNew-said reply.Ok (bind_reply-free found free) (inl (refl, pending_after true (grind (arith, nat_tests))))

  pub BindsNew-taken : (found ≡ 0 → ⊥) → BindsNew v o i tag value (reply.Taken found) y
  BindsNew-taken taken = BindsNew-said (reply.Taken found) (bind_reply-taken found taken) (inr (found, refl, pending_after false (grind (arith, nat_tests))))

-- the ticket after a take, a put and a bind
own_after-fill : (b o i tag value : ℕ) (said : Reply)
    → own_after (with_ticket None) (event b (act.Take Trusted) (reply.Index i) ∷ fill_events b o i tag value said) ≡ with_ticket (ticket_said None i said)
own_after-fill b o i tag value said =
    let at : index_of (word_of i) ≡ i = omega arith in
    let t : (i == i) ≡ true = grind (arith, nat_tests) in
    ap (λ j. own_bound (record { filled = Some i; ticket = None }) j said) at
    ∙ ap (λ (x : Bool). if x then with_ticket (ticket_said None i said) else (record { filled = Some i; ticket = None })) t

module _ (u v w : View) (o tag value : ℕ) (said : Reply) (t : Ticket) (mutator : u.number < 8) (eight : length u.pending ≡ 8) (none : ticket_in u ≡ None)
    (took : Called u (event_of u (act.Take Trusted) (reply.Index t.index) ∷ []) v) (owes : OwesIndex u Trusted t v) (binds : BindsNew v o t.index tag value said w) where
  abbrev fills : List Event
  fills = event_of u (act.Take Trusted) (reply.Index t.index) ∷ fill_events u.number o t.index tag value said

  called_all : Called u fills w
  called_all = called_then u v w _ (λ b. fill_events b o t.index tag value said) took binds.called

  pending_then : (cell : Option Pending) → w.pending ≡ slice_set v.pending v.number cell → w.pending ≡ slice_set u.pending u.number cell
  pending_then cell is = is ∙ (ap (λ l. slice_set l v.number cell) owes.rest.1 ∙ ap (λ n. slice_set u.pending n cell) took.same.number)

  pub FillsNew-bound : FillsNew u o tag value said w
  FillsNew-bound = record {
    own = fills;
    called = called_all;
    ends = subst (λ b. EndsWith (fill_events b o t.index tag value said) w.seen) took.same.number binds.ends;
    shape = inr (t.index, refl);
    ticket = elim binds.ticket [
      | inl ok ↦ own_after-fill u.number o t.index tag value said ∙ ap with_ticket (ap (ticket_said None t.index) ok.0
          ∙ sym (ticket_in-set u w (Some (record { index = t.index; tag = tag; value = value })) called_all.same mutator eight (pending_then _ ok.1)))
      | inr taken ↦ own_after-fill u.number o t.index tag value said ∙ ap with_ticket (ap (ticket_said None t.index) taken.1
          ∙ (sym none ∙ pends_stay u w called_all.same (taken.2 ∙ owes.rest.1)))
    ];
  }

held_after-fills : (b o tag value : ℕ) (said : Reply) (events : List Event) → IsTNew b None (field.Trusted o) tag value said events → (held : Held) → held_after held events ≡ held
held_after-fills b o tag value said events shape held = elim shape [
  | inl full ↦ ap (held_after held) full.1
  | inr taken ↦ ap (held_after held) taken.1
]

-- tnew
pub Made-tnew_empty : (u : View) (var tag value : ℕ) → var < 16 → held_in u var ≡ None → Made u (op.TNew var tag value) reply.Empty u
Made-tnew_empty u var tag value few none = made_still u (op.TNew var tag value) reply.Empty (λ cycle held own suits.
    with_none u var few none (λ o. IsTNew u.number own.ticket (field.Trusted o) tag value reply.Empty []) cycle held own suits)

pub Made-tnew_pending : (u : View) (var o tag value i : ℕ) → var < 16 → held_in u var ≡ Some o → ticket_in u ≡ Some i → Made u (op.TNew var tag value) reply.Pending u
Made-tnew_pending u var o tag value i few found has = made_still u (op.TNew var tag value) reply.Pending (λ cycle held ticket suits.
    with_some u var o few found reply.Pending [] (λ q. IsTNew u.number ticket.ticket (field.Trusted q) tag value reply.Pending [])
    (subst (λ x. IsTNew u.number x (field.Trusted o) tag value reply.Pending []) (sym (ap (λ x. x.ticket) suits.pends ∙ has)) (refl, refl)) cycle held ticket suits)

pub Made-tnew : (u w : View) (var o tag value : ℕ) (said : Reply) → var < 16 → held_in u var ≡ Some o → ticket_in u ≡ None → FillsNew u o tag value said w → LeavesAllButTicket u w
    → Made u (op.TNew var tag value) said w
Made-tnew u w var o tag value said few found none fills leaves =
    made_tickets u w (op.TNew var tag value) said fills.own fills.called fills.ends
    (λ cycle held ticket suits. with_some u var o few found said fills.own (λ q. IsTNew u.number ticket.ticket (field.Trusted q) tag value said fills.own)
    (subst (λ x. IsTNew u.number x (field.Trusted o) tag value said fills.own) (sym (ap (λ x. x.ticket) suits.pends ∙ none)) fills.shape) cycle held ticket suits)
    leaves.vars (held_after-fills u.number o tag value said fills.own fills.shape)
    (ap (λ x. own_after (with_ticket x) fills.own) none ∙ fills.ticket)
