-- Why calls by trusted fields answer what they do.
use Rattle.std.proofs.Common.{◌≡◌, ◌≢◌, ℕ, List, [], ◌∷◌, ◌++◌, refl, sym, ap, subst, ◌∙◌, inl, append_assoc}
use Rattle.plain_table.specs.declared.events.Act.TheVariants as act
use Rattle.plain_table.specs.declared.events.Event.{Event}
use Rattle.plain_table.specs.declared.events.Field.TheVariants as field
use Rattle.plain_table.specs.declared.events.Space.TheVariants.{Trusted}
use Rattle.plain_table.specs.declared.reports.Reply.TheVariants as reply
use Rattle.plain_table.specs.History.{IsLegalHistory, after}
use Rattle.plain_table.specs.Shapes.{event}
use Rattle.plain_table.specs.Table.{Table, least_free}
use Rattle.entry_base.specs.declared.view.View.{View}
use Rattle.entry_base.specs.Callers.{SameCaller, Extends, event_of}
use Rattle.entry_base.specs.Histories.{IsPhaseHistory}
use Rattle.entry_base.specs.Learned.{Answered}
use Rattle.entry_base.specs.Numbers.{HasNumber}
use Rattle.entry_base.specs.Openings.{IsBase}
use Rattle.object_rule.specs.Fields.{NamedTrusted, bind_reply}
use Rattle.call_base.specs.Called.{Called, EndsWith, HeldAtLast}
use Rattle.call_base.proofs.CallsInOrder.{called_trans}
use Rattle.call_base.proofs.OneEvent.{IsLegalHistory-last, called_once, held_at_last}
use Rattle.access_steps.proofs.EventAnswers.{HeldAtLast-ends, bind_reply-found, least_free-full}
use Rattle.trusted_steps.specs.Causes.{HeldWord, IsBoundAtEvent, IsFillAtEvent}

same_word : (word found : ℕ) → reply.Word word ≡ reply.Word found → found ≡ word
same_word word found is = cc

-- a word that was named was held at its naming, whatever the call does after it
pub HeldWord-named : (u v w : View) (o word : ℕ) (own : List Event) → NamedTrusted u o word v → Called v own w → HeldWord u o word w
HeldWord-named u v w o word own n called =
    let e = event_of u (act.Name (field.Trusted o)) (reply.Word word) in
    let named = n.named.answered in
    let x = named.extends in record {
      moment = u.seen ++ x.between;
      begins = (x.between, refl);
      goes_on = (e ∷ called.grown, called.seen ∙ (ap (λ l. l ++ called.grown) x.seen ∙ append_assoc (u.seen ++ x.between) (e ∷ []) called.grown));
      held = λ b is.
          let here = subst (λ key. IsBase key b) (called.same.opening ∙ named.same.opening) is in
          same_word word ((after b (u.seen ++ x.between)).words (field.Trusted o))
          (IsLegalHistory-last b (u.seen ++ x.between) e (subst (IsLegalHistory b) x.seen (x.lawful.legal b here))).1;
    }

-- so it was where a bind followed
pub HeldWord-bound : (u v w x : View) (o q word found : ℕ) (own : List Event) → NamedTrusted u o word v → Called v own w → HasNumber w w.number
    → Answered w (event_of w (act.Bind (field.Trusted q) word) (bind_reply found)) x → HeldWord u o word x
HeldWord-bound u v w x o q word found own n called own_there bound =
    HeldWord-named u v x o word _ n (called_trans v w x own _ called (called_once w x (act.Bind (field.Trusted q) word) (bind_reply found) own_there bound.same bound.extends))

-- a bind that finds the field free, or a word in it
module _ (x y : View) (o word found : ℕ) (same : SameCaller x y) (extends : Extends x (event_of x (act.Bind (field.Trusted o) word) (bind_reply found)) y) where
  found_here : (P : Table → Type 0) → ((t : Table) → t.words (field.Trusted o) ≡ found → P t) → HeldAtLast y.opening y.seen P
  found_here P holds = subst (λ key. HeldAtLast key y.seen P) (sym same.opening)
      (held_at_last x y (event_of x (act.Bind (field.Trusted o) word) (bind_reply found)) P extends
      (λ t sound sizes legal. holds t (bind_reply-found found (t.words (field.Trusted o)) legal.1)))

  pub IsBoundAtEvent-free : found ≡ 0 → IsBoundAtEvent y o reply.Ok
  IsBoundAtEvent-free free = found_here (λ t. t.words (field.Trusted o) ≡ 0) (λ t is. is ∙ free)

  pub IsBoundAtEvent-taken : found ≢ 0 → IsBoundAtEvent y o (reply.Taken found)
  IsBoundAtEvent-taken taken = found_here (λ t. (found ≢ 0) × (t.words (field.Trusted o) ≡ found)) (λ t is. (taken, is))

-- a take that finds the space full
pub IsFillAtEvent-full : (w : View) (b o : ℕ) → EndsWith (event b (act.Take Trusted) reply.Full ∷ []) w.seen → IsPhaseHistory w.opening w.seen → IsFillAtEvent w o reply.Full
IsFillAtEvent-full w b o ends lawful =
    inl (refl, HeldAtLast-ends w.opening w.seen (event b (act.Take Trusted) reply.Full) _ ends lawful (λ t legal. least_free-full (least_free t Trusted) legal.1))
