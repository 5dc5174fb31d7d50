-- The events of an init.
use Rattle.std.proofs.Common.{◌≡◌, ℕ, ◌<◌, ◌==◌, if◌then◌else◌, Bool, true, false, List, [], ◌∷◌, ◌++◌, Some, refl, sym, ap, subst, ◌∙◌, inl, inr, arith, append_assoc}
use Rattle.std.proofs.lemmas.Bool.Decides.{nat_tests}
use Rattle.plain_table.specs.declared.events.Act.TheVariants as act
use Rattle.plain_table.specs.declared.events.Event.{Event}
use Rattle.plain_table.specs.declared.events.Field.TheVariants as field
use Rattle.plain_table.specs.declared.events.Space.TheVariants.{External}
use Rattle.plain_table.specs.declared.scripts.Op.TheVariants as op
use Rattle.plain_table.specs.declared.reports.Reply.{Reply}
use Rattle.plain_table.specs.declared.reports.Reply.TheVariants as reply
use Rattle.plain_table.specs.Cycle.{is_from}
use Rattle.plain_table.specs.Index.{word_of}
use Rattle.plain_table.specs.Shapes.{IsInit, event}
use Rattle.entry_base.specs.declared.view.View.{View}
use Rattle.entry_base.specs.Callers.{event_of}
use Rattle.entry_base.specs.Numbers.{HasNumber}
use Rattle.entry_base.specs.Openings.{start_of}
use Rattle.object_rule.specs.Fields.{Bound, bind_reply}
use Rattle.call_base.specs.Called.{Called, LeavesOwn, Made}
use Rattle.call_base.proofs.CallsInOrder.{EndsWith-last, called_extends, called_then, suits_stay}
use Rattle.call_base.proofs.HeldVariables.{held_suits}
use Rattle.call_base.proofs.OneEvent.{made_stays}
use Rattle.access_steps.specs.Accesses.{field_number}
use Rattle.access_steps.specs.Inits.{BindsNew, abort_for, bind_events}
use Rattle.access_steps.proofs.FieldAccesses.{WithObject-field}
use Rattle.access_steps.proofs.Writes.{IsStill}

-- what a bind says, by the word that it found
pub bind_reply-free : (found : ℕ) → found ≡ 0 → bind_reply found ≡ reply.Ok
bind_reply-free found free =
    let test : (found == 0) ≡ true = grind (arith, nat_tests) in ap (λ (b : Bool). if b then reply.Ok else reply.Taken found) test

pub bind_reply-taken : (found : ℕ) → (found ≡ 0 → ⊥) → bind_reply found ≡ reply.Taken found
bind_reply-taken found taken =
    let test : (found == 0) ≡ false = grind (arith, nat_tests) in ap (λ (b : Bool). if b then reply.Ok else reply.Taken found) test

-- a take, an abort in the area, a put and a bind
module _ (u v w x y : View) (number tag value i word found : ℕ)
    (took : Called u (event_of u (act.Take External) (reply.Index i) ∷ []) v)
    (cleared : Called v (abort_for v.number (start_of v.opening) i) w)
    (filled : Called w (event_of w (act.Put External i tag value) reply.Ok ∷ []) x)
    (own : HasNumber x x.number) (bound : Bound x (field.External number) word found y) (at_index : word ≡ word_of i) where
  abbrev bind_event : ℕ → Event
  bind_event b = event b (act.Bind (field.External number) (word_of i)) (bind_reply found)

  abbrev before_bind : List Event
  before_bind = (event u.number (act.Take External) (reply.Index i) ∷ abort_for u.number (start_of u.opening) i) ++ event u.number (act.Put External i tag value) reply.Ok ∷ []

  last_called : Called x (bind_event x.number ∷ []) y
  last_called = subst (λ n. Called x (event x.number (act.Bind (field.External number) n) (bind_reply found) ∷ []) y) at_index
      (called_extends x y (event_of x (act.Bind (field.External number) word) (bind_reply found)) refl own bound.same bound.extends)

  called_before : Called u before_bind x
  called_before =
      let aborted = subst (λ o. Called v (abort_for v.number (start_of o) i) w) took.same.opening cleared in
      called_then u w x _ (λ b. event b (act.Put External i tag value) reply.Ok ∷ [])
      (called_then u v w _ (λ b. abort_for b (start_of u.opening) i) took aborted) filled

  ends_at : y.seen ≡ (x.seen ++ bound.extends.between) ++ bind_event u.number ∷ []
  ends_at = bound.extends.seen
      ∙ (ap (λ n. (x.seen ++ bound.extends.between) ++ event x.number (act.Bind (field.External number) n) (bind_reply found) ∷ []) at_index
      ∙ ap (λ b. (x.seen ++ bound.extends.between) ++ bind_event b ∷ []) called_before.same.number)

  pub BindsNew-taken : (said : Reply) → bind_reply found ≡ said → BindsNew u number tag value said y
  BindsNew-taken said is = record {
    own = before_bind ++ bind_event u.number ∷ [];
    called = called_then u x y before_bind (λ b. bind_event b ∷ []) called_before last_called;
    ends = EndsWith-last before_bind (bind_event u.number) (x.seen ++ bound.extends.between) y.seen ends_at;
    shape = inr (
      i,
      append_assoc (event u.number (act.Take External) (reply.Index i) ∷ abort_for u.number (start_of u.opening) i)
          (event u.number (act.Put External i tag value) reply.Ok ∷ []) (bind_event u.number ∷ [])
          ∙ ap (bind_events u.number (start_of u.opening) number tag value i) is,
    );
  }

-- none of these events changes variables or tickets
IsStill-binding : (b i number tag value : ℕ) (said : Reply) (test : Bool) → IsStill (event b (act.Take External) (reply.Index i)
    ∷ (if test then event b act.Abort reply.Ok ∷ [] else [])
    ++ event b (act.Put External i tag value) reply.Ok ∷ event b (act.Bind (field.External number) (word_of i)) said ∷ [])
IsStill-binding b i number tag value said true = (λ held. refl, λ ticket. refl)
IsStill-binding b i number tag value said false = (λ held. refl, λ ticket. refl)

pub Made-init : (u w : View) (var f number tag value : ℕ) (said : Reply) → var < 16 → field_number u var f ≡ Some number
    → BindsNew u number tag value said w → LeavesOwn u w → Made u (op.Init var f tag value) said w
Made-init u w var f number tag value said few found binds leaves =
    made_stays u w (op.Init var f tag value) said binds.own binds.called binds.ends
    (λ cycle held ticket suits. WithObject-field held u var f number said binds.own (λ n. IsInit u.number cycle (field.External n) tag value said binds.own)
    (held_suits u var few cycle held ticket suits) found (elim binds.shape [
      | inl full ↦ inl full
      | inr taken ↦ inr (taken.0, taken.1 ∙ ap (λ area. bind_events u.number area number tag value taken.0 said) (sym suits.start))
    ]))
    (suits_stay u w binds.called.same leaves.own.vars leaves.own.pending) still.0 still.1
  where
    still : IsStill binds.own
    still = elim binds.shape [
      | inl full ↦ subst IsStill (sym full.1) (λ held. refl, λ ticket. refl)
      | inr taken ↦ subst IsStill (sym taken.1) (IsStill-binding u.number taken.0 number tag value said (is_from (start_of u.opening) taken.0))
    ]
