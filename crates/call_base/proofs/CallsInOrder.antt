-- One call after another, and rows of them.
use Rattle.std.proofs.Common.{◌≡◌, ℕ, ◌+◌, ◌*◌, ◌≤◌, ◌==◌, if◌then◌else◌, Bool, true, List, [], ◌∷◌, ◌++◌, slice_index, slice_index_or, Option, None, option_map, refl, sym, ap, subst, subst₂, ◌∙◌, inl, inr, arith, append_assoc, append-nil}
use Rattle.std.proofs.lemmas.Bool.Decides.{nat_tests}
use Rattle.plain_table.specs.declared.events.Event.{Event}
use Rattle.plain_table.specs.declared.scripts.Op.{Op}
use Rattle.plain_table.specs.declared.reports.Reply.{Reply}
use Rattle.plain_table.specs.Belongs.{events_by}
use Rattle.plain_table.specs.Cycle.{Cycle, start_in}
use Rattle.plain_table.specs.Words.{object_word, phase_word}
use Rattle.plain_table.specs.Shapes.{Held, OwnTicket, IsShape, held_after, own_after, with_ticket}
use Rattle.plain_table.proofs.CallsMade.{MakesCalls-push, held_after-append, own_after-append}
use Rattle.entry_word.specs.declared.image.Pending.{Pending}
use Rattle.entry_base.specs.declared.view.View.{View}
use Rattle.entry_base.specs.Callers.{SameCaller, Looks, Extends}
use Rattle.entry_base.specs.Lists.{Each, count_in}
use Rattle.entry_base.specs.Numbers.{HasNumber, IsQuiet}
use Rattle.entry_base.specs.Openings.{phase_of, start_of}
use Rattle.entry_base.specs.Sessions.{ticket_in}
use Rattle.entry_base.proofs.JoinedEvents.{events_append, events_none}
use Rattle.entry_base.proofs.OneByOne.{own_trans, same_trans}
use Rattle.entry_base.proofs.Sums.{each_append, each_map}
use Rattle.call_base.specs.Called.{Called, EndsWith, IsHere, LeavesOwn, Made, MadeAll, Suits}

events_quiet : (v : View) (es : List Event) → HasNumber v v.number → IsQuiet v es → events_by v.number es ≡ []
events_quiet v es own q = events_none v.number v.numbers es own q

events_one : (b : ℕ) (e : Event) → e.by ≡ b → events_by b (e ∷ []) ≡ e ∷ []
events_one b e is = let t : (e.by == b) ≡ true = grind (arith, nat_tests) in ap (λ (x : Bool). if x then e ∷ [] else []) t

pub quiet_here : (v : View) (es : List Event) → IsQuiet v es → Each (IsHere v) es
quiet_here v es q = each_map _ _ es (λ e none_there. inr none_there) q

-- a step without an event, and one with an event
pub called_looks : (v w : View) → HasNumber v v.number → SameCaller v w → Looks v w → Called v [] w
called_looks v w own s l = record {
  same = s;
  grown = l.between;
  seen = l.seen;
  mine = events_quiet v l.between own l.quiet;
  here = quiet_here v l.between l.quiet;
}

pub called_extends : (v w : View) (e : Event) → e.by ≡ v.number → HasNumber v v.number → SameCaller v w → Extends v e w → Called v (e ∷ []) w
called_extends v w e by own s x = record {
  same = s;
  grown = x.between ++ e ∷ [];
  seen = x.seen ∙ append_assoc v.seen x.between (e ∷ []);
  mine = events_append v.number x.between (e ∷ []) ∙ ap (λ l. l ++ events_by v.number (e ∷ [])) (events_quiet v x.between own x.quiet) ∙ events_one v.number e by;
  here = each_append _ x.between (e ∷ []) (quiet_here v x.between x.quiet) (inl by, tt);
}

-- a call that makes no step
pub called_none : (v : View) → Called v [] v
called_none v = record {
  same = record { opening = refl; number = refl; numbers = refl; cut = refl; knows = λ f has. has };
  grown = [];
  seen = sym (append-nil v.seen);
  mine = refl;
  here = tt;
}

pub here_back : (u v : View) (es : List Event) → SameCaller u v → Each (IsHere v) es → Each (IsHere u) es
here_back u v es s h = each_map _ _ es (λ e at. elim at [
  | inl own ↦ inl (own ∙ s.number)
  | inr none_there ↦ inr (ap (count_in e.by) (sym s.numbers) ∙ none_there)
]) h

pub called_trans : (u v w : View) (es fs : List Event) → Called u es v → Called v fs w → Called u (es ++ fs) w
called_trans u v w es fs a b = record {
  same = same_trans u v w a.same b.same;
  grown = a.grown ++ b.grown;
  seen = b.seen ∙ (ap (λ l. l ++ b.grown) a.seen ∙ append_assoc u.seen a.grown b.grown);
  mine = events_append u.number a.grown b.grown ∙ (ap (λ l. l ++ events_by u.number b.grown) a.mine
      ∙ ap (λ l. es ++ l) (ap (λ n. events_by n b.grown) (sym a.same.number) ∙ b.mine));
  here = each_append _ a.grown b.grown a.here (here_back u v b.grown a.same b.here);
}

-- a call after calls, its events said by the first number
pub called_then : (u v w : View) (es : List Event) (fs : ℕ → List Event) → Called u es v → Called v (fs v.number) w → Called u (es ++ fs u.number) w
called_then u v w es fs a b = called_trans u v w es (fs u.number) a (subst (λ n. Called v (fs n) w) a.same.number b)

-- the number of a caller stays one of its own
pub own_number : (u v : View) → SameCaller u v → HasNumber u u.number → HasNumber v v.number
own_number u v s own = subst (λ n. HasNumber v n) (sym s.number) (subst (λ l. 1 ≤ count_in u.number l) (sym s.numbers) own)

-- what two calls leave, they leave together
pub leaves_trans : (u v w : View) → LeavesOwn u v → LeavesOwn v w → LeavesOwn u w
leaves_trans u v w a b = record { own = own_trans u v w a.own b.own; hands = b.hands ∙ a.hands }

-- the history ends with an event that was added last
pub EndsWith-last : (es : List Event) (e : Event) (front seen : List Event) → seen ≡ front ++ e ∷ [] → EndsWith (es ++ e ∷ []) seen
EndsWith-last [] e front seen is = (front, is)
EndsWith-last (d ∷ []) e front seen is = (front, is)
EndsWith-last (d ∷ c ∷ es) e front seen is = EndsWith-last (c ∷ es) e front seen is

-- the ticket stays where the cells to publish do
pub pends_stay : (v w : View) → SameCaller v w → w.pending ≡ v.pending → ticket_in v ≡ ticket_in w
pends_stay v w s pending = subst (λ n. ticket_in v ≡ option_map (λ (p : Pending). p.index) (slice_index_or w.pending n None)) (sym s.number)
    (ap (λ (l : List (Option Pending)). option_map (λ (p : Pending). p.index) (slice_index_or l v.number None)) (sym pending))

-- what the model has goes through a call that leaves variables and tickets alone
pub suits_stay : (v w : View) → SameCaller v w → w.vars ≡ v.vars → w.pending ≡ v.pending → (cycle : Option Cycle) (held : Held) (own : OwnTicket) → Suits v cycle held own → Suits w cycle held own
suits_stay v w s vars pending cycle held own a = record {
  phase = subst (λ o. phase_word cycle ≡ phase_of o) (sym s.opening) a.phase;
  start = subst (λ o. start_in cycle ≡ start_of o) (sym s.opening) a.start;
  holds = λ i low. subst (λ n. slice_index w.vars (16 * n + i) ≡ object_word (held i)) (sym s.number) (subst (λ l. slice_index l (16 * v.number + i) ≡ object_word (held i)) (sym vars) (a.holds i low));
  pends = a.pends ∙ ap with_ticket (pends_stay v w s pending);
}

pub made_none : (v : View) → MadeAll v [] [] v
made_none v = record { own = []; called = called_none v; makes = λ cycle held own a. refl; suits = λ cycle held own a. a }

pub made_push : (u v w : View) (calls : List Op) (replies : List Reply) (call : Op) (said : Reply) → MadeAll u calls replies v → Made v call said w
    → MadeAll u (calls ++ call ∷ []) (replies ++ said ∷ []) w
made_push u v w calls replies call said a b = record {
  own = a.own ++ b.own;
  called = called_trans u v w a.own b.own a.called b.called;
  makes = λ cycle held own suits. MakesCalls-push u.number cycle held own calls replies a.own call said b.own (a.makes cycle held own suits)
      (subst (λ n. IsShape n cycle (held_after held a.own) (own_after own a.own).ticket call said b.own) a.called.same.number
      (b.shape cycle (held_after held a.own) (own_after own a.own) (a.suits cycle held own suits)));
  suits = λ cycle held own suits.
      subst₂ (λ h t. Suits w cycle h t) (sym (held_after-append held a.own b.own)) (sym (own_after-append own a.own b.own))
      (b.suits cycle (held_after held a.own) (own_after own a.own) (a.suits cycle held own suits));
}
