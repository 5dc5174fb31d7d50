-- The mark of a trusted cell that is to be shared, by the phase, and the events of a share.
use Rattle.std.proofs.Common.{◌≡◌, ℕ, ◌<◌, ◌==◌, if◌then◌else◌, Bool, true, false, List, [], ◌∷◌, ◌++◌, Option, Some, None, refl, sym, ap, subst, ◌∙◌, inl, inr, arith}
use Rattle.std.proofs.lemmas.Bool.Decides.{nat_tests}
use Rattle.plain_table.specs.declared.events.Act.TheVariants as act
use Rattle.plain_table.specs.declared.events.Event.{Event}
use Rattle.plain_table.specs.declared.events.Field.TheVariants as field
use Rattle.plain_table.specs.declared.events.Space.TheVariants.{Trusted}
use Rattle.plain_table.specs.declared.scripts.Op.TheVariants as op
use Rattle.plain_table.specs.declared.reports.Reply.{Reply}
use Rattle.plain_table.specs.declared.reports.Reply.TheVariants as reply
use Rattle.plain_table.specs.Cycle.{Cycle}
use Rattle.plain_table.specs.Index.{index_of}
use Rattle.plain_table.specs.Shapes.{Held, IsShare, WithObject, event, held_after, mark_before, own_after, with_ticket}
use Rattle.plain_table.specs.Words.{phase_word}
use Rattle.entry_base.specs.declared.view.View.{View}
use Rattle.entry_base.specs.Callers.{event_of}
use Rattle.entry_base.specs.Numbers.{HasNumber}
use Rattle.entry_base.specs.Openings.{phase_of}
use Rattle.entry_base.specs.Sessions.{held_in, ticket_in}
use Rattle.object_rule.specs.Fields.{BoundShared, NamedTrusted, bind_reply}
use Rattle.call_base.specs.Called.{Called, LeavesOwn, Made}
use Rattle.call_base.proofs.CallsInOrder.{EndsWith-last, called_then, pends_stay}
use Rattle.call_base.proofs.OneEvent.{called_once, ends_once, made_still}
use Rattle.trusted_steps.specs.Shares.{IsShareIn, SharesEntry, mark_for}
use Rattle.trusted_steps.proofs.TrustedCalls.{made_tickets, with_none, with_some}

-- the mark by the phase
pub mark_for-cycle : (b phase word : ℕ) → phase ≡ 1 → mark_for b phase word ≡ event b (act.Mark Trusted (index_of word)) reply.Ok ∷ []
mark_for-cycle b phase word is = ap (λ n. mark_for b n word) is

pub mark_for-none : (b phase word : ℕ) → phase ≡ 0 → mark_for b phase word ≡ []
mark_for-none b phase word is = ap (λ n. mark_for b n word) is

pub phase_none : (phase : ℕ) (in_cycle : Bool) → phase ≡ (if in_cycle then 1 else 0) → false ≡ (phase == 1) → phase ≡ 0
phase_none phase true is test = absurd (let t : (phase == 1) ≡ true = grind (arith, nat_tests) in cc)
phase_none phase false is test = is

mark_for-before : (b word phase : ℕ) (cycle : Option Cycle) → phase_word cycle ≡ phase → mark_for b phase word ≡ mark_before b cycle word
mark_for-before b word phase None is = mark_for-none b phase word (sym is)
mark_for-before b word phase (Some c) is = mark_for-cycle b phase word (sym is)

-- a share whose word is 0
pub SharesEntry-null : (u v : View) (o q : ℕ) → HasNumber u u.number → NamedTrusted u o 0 v → SharesEntry u o q reply.Null v
SharesEntry-null u v o q own n = record {
  own = event_of u (act.Name (field.Trusted o)) (reply.Word 0) ∷ [];
  called = called_once u v _ _ own n.named.answered.same n.named.answered.extends;
  ends = ends_once u v _ n.named.answered.extends;
  shape = (0, inl (refl, refl, refl));
}

-- and one that binds
pub SharesEntry-bound : (u v w x : View) (o q word found : ℕ) (said : Reply) → (word ≡ 0 → ⊥) → HasNumber u u.number → HasNumber w w.number → NamedTrusted u o word v
    → Called v (mark_for v.number (phase_of v.opening) word) w → BoundShared w q word found x → bind_reply found ≡ said → SharesEntry u o q said x
SharesEntry-bound u v w x o q word found said some own own_there n marked bound is =
    let named = n.named.answered in
    let phase = subst (λ k. Called v (mark_for v.number (phase_of k) word) w) named.same.opening marked in
    let two = called_then u v w (event_of u (act.Name (field.Trusted o)) (reply.Word word) ∷ []) (λ b. mark_for b (phase_of u.opening) word) (called_once u v _ _ own named.same named.extends) phase in
    let all = called_then u w x _ (λ b. event b (act.Bind (field.Trusted q) word) (bind_reply found) ∷ []) two (called_once w x _ _ own_there bound.answered.same bound.answered.extends) in
    let last = bound.answered.extends.seen ∙ ap (λ b. (w.seen ++ bound.answered.extends.between) ++ event b (act.Bind (field.Trusted q) word) (bind_reply found) ∷ []) two.same.number in
    subst (λ r. SharesEntry u o q r x) is (record {
      own = (event_of u (act.Name (field.Trusted o)) (reply.Word word) ∷ mark_for u.number (phase_of u.opening) word) ++ event u.number (act.Bind (field.Trusted q) word) (bind_reply found) ∷ [];
      called = all;
      ends = EndsWith-last (event_of u (act.Name (field.Trusted o)) (reply.Word word) ∷ mark_for u.number (phase_of u.opening) word) (event u.number (act.Bind (field.Trusted q) word) (bind_reply found))
          (w.seen ++ bound.answered.extends.between) x.seen last;
      shape = (word, inr (some, refl));
    })

-- share
pub Made-share_from : (u : View) (from to : ℕ) → from < 16 → held_in u from ≡ None → Made u (op.Share from to) reply.Empty u
Made-share_from u from to few none = made_still u (op.Share from to) reply.Empty (λ cycle held own suits.
    with_none u from few none (λ a. WithObject held to reply.Empty [] (λ b. IsShare u.number cycle (field.Trusted a) (field.Trusted b) reply.Empty [])) cycle held own suits)

pub Made-share_to : (u : View) (from to o : ℕ) → from < 16 → to < 16 → held_in u from ≡ Some o → held_in u to ≡ None → Made u (op.Share from to) reply.Empty u
Made-share_to u from to o few few_to found none = made_still u (op.Share from to) reply.Empty (λ cycle held ticket suits.
    with_some u from o few found reply.Empty [] (λ a. WithObject held to reply.Empty [] (λ b. IsShare u.number cycle (field.Trusted a) (field.Trusted b) reply.Empty []))
    (with_none u to few_to none (λ b. IsShare u.number cycle (field.Trusted o) (field.Trusted b) reply.Empty []) cycle held ticket suits) cycle held ticket suits)

abbrev StaysBy : List Event → Type 0
StaysBy events = ((held : Held) → held_after held events ≡ held) × ((t : Option ℕ) → own_after (with_ticket t) events ≡ with_ticket t)

stays_marked : (b o q w : ℕ) (said : Reply) (idle : Bool)
    → StaysBy (event b (act.Name (field.Trusted o)) (reply.Word w) ∷ (if idle then [] else event b (act.Mark Trusted (index_of w)) reply.Ok ∷ []) ++ event b (act.Bind (field.Trusted q) w) said ∷ [])
stays_marked b o q w said true = (λ held. refl, λ t. refl)
stays_marked b o q w said false = (λ held. refl, λ t. refl)

share_stays : (b phase o q : ℕ) (said : Reply) (events : List Event) → IsShareIn b phase o q said events → StaysBy events
share_stays b phase o q said events shape = elim shape.1 [
  | inl null ↦ subst StaysBy (sym null.2) (λ held. refl, λ t. refl)
  | inr bound ↦ subst StaysBy (sym bound.1) (stays_marked b o q shape.0 said (phase == 0))
]

pub Made-share : (u w : View) (from to o q : ℕ) (said : Reply) → from < 16 → to < 16 → held_in u from ≡ Some o → held_in u to ≡ Some q → SharesEntry u o q said w → LeavesOwn u w
    → Made u (op.Share from to) said w
Made-share u w from to o q said few few_to found found_to shares leaves =
    let stays = share_stays u.number (phase_of u.opening) o q said shares.own shares.shape in
    made_tickets u w (op.Share from to) said shares.own shares.called shares.ends
    (λ cycle held ticket suits. with_some u from o few found said shares.own (λ a. WithObject held to said shares.own (λ b. IsShare u.number cycle (field.Trusted a) (field.Trusted b) said shares.own))
    (with_some u to q few_to found_to said shares.own (λ b. IsShare u.number cycle (field.Trusted o) (field.Trusted b) said shares.own) (
      shares.shape.0,
      elim shares.shape.1 [
        | inl null ↦ inl null
        | inr bound ↦ inr (
          bound.0,
          bound.1 ∙ ap (λ l. event u.number (act.Name (field.Trusted o)) (reply.Word shares.shape.0) ∷ l ++ event u.number (act.Bind (field.Trusted q) shares.shape.0) said ∷ [])
              (mark_for-before u.number shares.shape.0 (phase_of u.opening) cycle suits.phase),
        )
      ],
    ) cycle held ticket suits) cycle held ticket suits)
    leaves.own.vars stays.0 (stays.1 (ticket_in u) ∙ ap with_ticket (pends_stay u w shares.called.same leaves.own.pending))
