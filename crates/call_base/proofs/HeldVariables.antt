-- What variables hold: in the model as in the view, and after a call has set one of them.
use Rattle.std.proofs.Common.{◌≡◌, ◌≢◌, ℕ, zero, suc, ◌+◌, ◌*◌, ◌<◌, List, [], ◌∷◌, Option, Some, None, length, slice_index, slice_set, get_or-set_same, get_or-set_other, refl, sym, ap, subst, subst₂, ◌∙◌, inl, inr, arith}
use Rattle.std.specs.Prelude.{MatchOption}
use Rattle.plain_table.specs.declared.events.Act.{Act}
use Rattle.plain_table.specs.declared.events.Event.{Event}
use Rattle.plain_table.specs.declared.scripts.Op.{Op}
use Rattle.plain_table.specs.declared.reports.Reply.{Reply}
use Rattle.plain_table.specs.declared.reports.Reply.TheVariants as reply
use Rattle.plain_table.specs.Cycle.{Cycle, start_in}
use Rattle.plain_table.specs.Places.{put_at}
use Rattle.plain_table.specs.Shapes.{Held, OwnTicket, IsEmptyCall, WithObject, held_after, held_next, own_after, own_next, with_ticket}
use Rattle.plain_table.specs.Words.{object_word, phase_word}
use Rattle.plain_table.proofs.PlaceReads.{read_at}
use Rattle.entry_base.specs.declared.view.View.{View}
use Rattle.entry_base.specs.Callers.{SameCaller, Extends, event_of}
use Rattle.entry_base.specs.Numbers.{HasNumber}
use Rattle.entry_base.specs.Openings.{phase_of, start_of}
use Rattle.entry_base.specs.Owns.{HoldsIn}
use Rattle.entry_base.specs.Sessions.{held_in, object_at}
use Rattle.call_base.specs.Called.{Called, EndsWith, Made, Suits}
use Rattle.call_base.proofs.CallsInOrder.{pends_stay}
use Rattle.call_base.proofs.OneEvent.{HasShape, called_once, ends_once}

-- the object of a word, and the word of an object
pub object_at-word : (x : Option ℕ) → object_at (object_word x) ≡ x
object_at-word None = refl
object_at-word (Some q) = grind (arith)

pub object_word-at : (word : ℕ) → object_word (object_at word) ≡ word
object_word-at zero = refl
object_word-at (suc q) = grind (arith)

-- a variable of the model holds what the view tells
pub held_suits : (v : View) (var : ℕ) → var < 16 → (cycle : Option Cycle) (held : Held) (own : OwnTicket) → Suits v cycle held own → held var ≡ held_in v var
held_suits v var few cycle held own suits = sym (object_at-word (held var)) ∙ ap object_at (sym (suits.holds var few))

-- what `held_in` says of the variable's word
pub holds_in : (v : View) (var o : ℕ) → var < 16 → held_in v var ≡ Some o → HoldsIn v var o
holds_in v var o few is = (few, sym (object_word-at (slice_index v.vars (16 * v.number + var))) ∙ ap object_word is)

pub held_in-holds : (v : View) (var o : ℕ) → HoldsIn v var o → held_in v var ≡ Some o
held_in-holds v var o holds = ap object_at holds.1 ∙ object_at-word (Some o)

-- a call whose variable holds nothing, or an object
pub WithObject-none : (held : Held) (var : ℕ) (Shape : ℕ → Type 0) → held var ≡ None → WithObject held var reply.Empty [] Shape
WithObject-none held var Shape e = subst (λ x. MatchOption x (IsEmptyCall reply.Empty []) Shape) (sym e) (refl, refl)

pub WithObject-some : (held : Held) (var o : ℕ) (said : Reply) (events : List Event) (Shape : ℕ → Type 0) → held var ≡ Some o → Shape o → WithObject held var said events Shape
WithObject-some held var o said events Shape e shape = subst (λ x. MatchOption x (IsEmptyCall said events) Shape) (sym e) shape

-- a variable of the view's own number was set: the model's variables that suit then
module _ (v w : View) (var word : ℕ) (x : Option ℕ) (few : var < 16) (mutator : v.number < 8) (many : length v.vars ≡ 128) (is : object_word x ≡ word)
    (same : SameCaller v w) (vars : w.vars ≡ slice_set v.vars (16 * v.number + var) word) where
  here : slice_index w.vars (16 * v.number + var) ≡ word
  here = ap (λ l. slice_index l (16 * v.number + var)) vars ∙ get_or-set_same v.vars (16 * v.number + var) word 0 (omega (arith, few, mutator, many))

  there : (i : ℕ) → var ≢ i → slice_index w.vars (16 * v.number + i) ≡ slice_index v.vars (16 * v.number + i)
  there i ne = ap (λ l. slice_index l (16 * v.number + i)) vars ∙ get_or-set_other v.vars (16 * v.number + var) (16 * v.number + i) word 0 (λ e. ne (omega (arith, e)))

  -- what the view tells of it, and of the others
  pub held_in-set : held_in w var ≡ x
  held_in-set = ap (λ n. object_at (slice_index w.vars (16 * n + var))) same.number ∙ ap object_at (here ∙ sym is) ∙ object_at-word x

  pub held_in-other : (i : ℕ) → var ≢ i → held_in w i ≡ held_in v i
  held_in-other i ne = ap (λ n. object_at (slice_index w.vars (16 * n + i))) same.number ∙ ap object_at (there i ne)

  pub suits_set : w.pending ≡ v.pending → (cycle : Option Cycle) (held : Held) (own : OwnTicket) → Suits v cycle held own → Suits w cycle (put_at held var x) own
  suits_set pending cycle held own suits = record {
    phase = subst (λ o. phase_word cycle ≡ phase_of o) (sym same.opening) suits.phase;
    start = subst (λ o. start_in cycle ≡ start_of o) (sym same.opening) suits.start;
    holds = λ i low. ap (λ n. slice_index w.vars (16 * n + i)) same.number ∙ (elim (read_at x held var i) [
      | inl r ↦ ap (λ j. slice_index w.vars (16 * v.number + j)) (sym r.0) ∙ here ∙ sym is ∙ ap object_word (sym r.1)
      | inr r ↦ there i r.0 ∙ suits.holds i low ∙ ap object_word (sym r.1)
    ]);
    pends = suits.pends ∙ ap with_ticket (pends_stay v w same pending);
  }

  -- a call whose events set it, and one of one event
  pub made_sets_by : (call : Op) (said : Reply) (events : List Event) → w.pending ≡ v.pending → Called v events w → EndsWith events w.seen → HasShape v call said events
      → ((held : Held) → held_after held events ≡ put_at held var x) → ((own : OwnTicket) → own_after own events ≡ own) → Made v call said w
  made_sets_by call said events pending called ends shape sets own_still = record {
    own = events;
    called = called;
    ends = ends;
    shape = shape;
    suits = λ cycle held ticket suits. subst₂ (λ h t. Suits w cycle h t) (sym (sets held)) (sym (own_still ticket)) (suits_set pending cycle held ticket suits);
  }

  pub made_sets : (call : Op) (act : Act) (said : Reply) → w.pending ≡ v.pending → HasNumber v v.number → Extends v (event_of v act said) w
      → HasShape v call said (event_of v act said ∷ [])
      → ((held : Held) → held_next held act said ≡ put_at held var x) → ((own : OwnTicket) → own_next own act said ≡ own) → Made v call said w
  made_sets call act said pending own extends shape sets own_still =
      made_sets_by call said (event_of v act said ∷ []) pending (called_once v w act said own same extends) (ends_once v w (event_of v act said) extends) shape sets own_still
