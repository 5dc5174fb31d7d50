-- The absorption of a chunk is a part of the work without an event of the caller's own.
use Rattle.std.proofs.Common.{◌≡◌, ℕ, ◌≤◌, ◌==◌, Bool, true, false, if◌then◌else◌, List, [], ◌∷◌, ◌++◌, sym, ap, ◌∙◌, inl, inr, arith, append-nil}
use Rattle.std.proofs.lemmas.Bool.{cases_lt}
use Rattle.std.proofs.lemmas.Bool.Decides.{nat_tests}
use Rattle.std.proofs.lemmas.List.{append_cancel_left}
use Rattle.plain_table.specs.declared.events.Event.{Event}
use Rattle.plain_table.specs.Belongs.{events_by}
use Rattle.entry_base.specs.declared.view.View.{View}
use Rattle.entry_base.specs.Joins.{Absorbed}
use Rattle.entry_base.specs.Lists.{Each, count_in}
use Rattle.entry_base.specs.Numbers.{HasNumber, IsQuiet}
use Rattle.entry_base.proofs.JoinedEvents.{events_append}
use Rattle.call_base.specs.Called.{Called}
use Rattle.call_base.proofs.CallsInOrder.{quiet_here}

-- what came after a history in which a number has the same events
events_since : (n : ℕ) (before later all : List Event) → all ≡ before ++ later → events_by n all ≡ events_by n before → events_by n later ≡ []
events_since n before later all is same =
    append_cancel_left (events_by n before) (events_by n later) [] (sym (events_append n before later) ∙ (sym (ap (events_by n) is) ∙ (same ∙ sym (append-nil (events_by n before)))))

tail_none : (t : Bool) (e : Event) (es : List Event) → (if t then e ∷ es else es) ≡ [] → es ≡ []
tail_none true e es none = absurd (cc)
tail_none false e es none = none

head_by : (e : Event) (es : List Event) → events_by e.by (e ∷ es) ≡ [] → ⊥
head_by e es none = let t : (e.by == e.by) ≡ true = grind (arith, nat_tests) in
    let is : e ∷ events_by e.by es ≡ [] = ap (λ (b : Bool). if b then e ∷ events_by e.by es else events_by e.by es) (sym t) ∙ none in
    absurd (cc)

-- a list in which none of some numbers has an event
none_by : (ns : List ℕ) (es : List Event) → ((n : ℕ) → 1 ≤ count_in n ns → events_by n es ≡ []) → Each (λ e. count_in e.by ns ≡ 0) es
none_by ns [] none = tt
none_by ns (e ∷ es) none = (
  elim (cases_lt 0 (count_in e.by ns)) [
    | inl has ↦ absurd (head_by e es (none e.by (omega (arith, has))))
    | inr few ↦ omega (arith, few)
  ],
  none_by ns es (λ n has. tail_none (e.by == n) e (events_by n es) (none n has)),
)

quiet_since : (v u w : View) → (a : Absorbed v u w) → IsQuiet v a.together.seen.0.0
quiet_since v u w a = none_by v.numbers a.together.seen.0.0 (λ n has. events_since n v.seen a.together.seen.0.0 w.seen a.together.seen.0.1 (a.together.mine n has))

pub called_absorbed : (v u w : View) → HasNumber v v.number → Absorbed v u w → Called v [] w
called_absorbed v u w own a = record {
  same = record { opening = a.together.opening; number = a.together.number; numbers = a.numbers; cut = a.cut; knows = λ f has. a.together.knows f (inl has) };
  grown = a.together.seen.0.0;
  seen = a.together.seen.0.1;
  mine = events_since v.number v.seen a.together.seen.0.0 w.seen a.together.seen.0.1 (a.together.mine v.number own);
  here = quiet_here v a.together.seen.0.0 (quiet_since v u w a);
}
