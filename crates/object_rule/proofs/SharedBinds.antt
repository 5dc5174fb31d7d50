-- Binding a trusted cell that nobody is about to bind to one more field keeps the rule: no fresh claim and no ticket changes.
use Rattle.std.proofs.Common.{◌≡◌, ◌≢◌, ℕ, ◌^◌, ◌<◌, ◌==◌, if◌then◌else◌, Bool, true, false, List, slice_index_or, Option, Some, None, IsTrue, IsSomeAnd, IfSome, refl, sym, ap, subst, ◌∙◌, inl, inr}
use prog.Atomic.{either}
use Rattle.atomic_table.specs.Table.{Me}
use Rattle.plain_table.specs.declared.events.Event.{Event}
use Rattle.plain_table.specs.declared.events.Field.TheVariants as field
use Rattle.plain_table.specs.declared.events.Space.TheVariants.{Trusted}
use Rattle.plain_table.specs.Cycle.{Cycle}
use Rattle.plain_table.specs.Index.{index_of}
use Rattle.plain_table.specs.Places.{put_at, put_claim}
use Rattle.plain_table.specs.Rows.{IsSharedBind, with_bound, with_unbound}
use Rattle.plain_table.specs.Shows.{IsPending}
use Rattle.plain_table.specs.Table.{Table}
use Rattle.plain_table.specs.Words.{field_place, phase_word}
use Rattle.plain_table.proofs.PlaceReads.{read_claim}
use Rattle.entry_base.specs.declared.view.Fact.TheVariants as fact
use Rattle.entry_base.specs.declared.view.Opening.{Opening}
use Rattle.entry_base.specs.declared.view.View.{View}
use Rattle.entry_base.specs.Callers.{IsCaller}
use Rattle.entry_base.specs.Lists.{Each, Has}
use Rattle.entry_base.specs.Numbers.{HasNumber}
use Rattle.entry_base.specs.Openings.{pending_cell, phase_of}
use Rattle.entry_base.specs.Owns.{IsHeld, Owns}
use Rattle.entry_base.proofs.Steps.{Given, Keeps}
use Rattle.entry_base.proofs.Sums.{each_has, each_map}
use Rattle.object_rule.specs.Fields.{BoundShared, IsMarkedInCycle}
use Rattle.object_rule.proofs.BindSteps.{BindFits, binds_field, bound_view}

module _ (key : Opening) (log : List Event) (shown words : List ℕ) (v : View) (s : Table) (g : Given key log shown words v s) (caller : IsCaller key v) (o word : ℕ)
    (settled : Has v.facts (fact.Settled (index_of word))) (marked : IsMarkedInCycle v word) where
  in_cycle : (cycle : Option Cycle) → phase_word cycle ≡ phase_of v.opening → (phase_of v.opening ≢ 0 → IsSomeAnd cycle (λ c. IsTrue (c.marks Trusted (index_of word)))) → IfSome cycle (λ c. IsTrue (c.marks Trusted (index_of word)))
  in_cycle None phase known = tt
  in_cycle (Some c) phase known = known (λ none_there. absurd (let wrong : 1 ≡ 0 = phase ∙ none_there in cc))

  shared : IsSharedBind s (field.Trusted o) word
  shared = let known = (each_has _ v.facts (fact.Settled (index_of word)) g.known settled).0 in record {
    trusted = refl;
    cell = known.0;
    settled = known.1;
    marked = in_cycle s.cycle (g.phase ∙ ap phase_of (sym caller.opened)) (λ cycling. (each_has _ v.facts (fact.Marked Trusted (index_of word)) g.known (marked cycling)).0);
  }

  -- the claim that a bind gives up is none of the view's
  claims_stay : Each (λ t. HasNumber v t.number × IsTrue (put_claim s.fresh v.number Trusted (index_of word) false t.number t.space t.index)) v.fresh
  claims_stay = each_map _ _ v.fresh (λ t was. (
    was.0,
    elim (read_claim s.fresh v.number Trusted (index_of word) false t.number t.space t.index) [
      | inl here ↦ absurd (let none = shared.settled v.number in let number = here.0.0 in let space = here.0.1 in let index = here.1 in let is = was.1 in cc)
      | inr apart ↦ apart.1 ∙ was.1
    ],
  )) g.owns.fresh

  owns_either : (empty : Bool) (es : List Event) → Owns (if empty then with_bound s v.number (field.Trusted o) word else with_unbound s v.number (field.Trusted o) word) (bound_view v v.pending v.fresh es)
  owns_either true es = record {
    variables = g.owns.variables;
    pending = λ b d has few. subst (λ (m : ℕ → Option ℕ). IsPending s (m b) (pending_cell (slice_index_or v.pending b d)))
        (sym (ap (λ (x : Bool). if x then put_at s.ticket v.number (Some (index_of word)) else s.ticket) (shared.settled v.number))) (g.owns.pending b d has few);
    owed = g.owns.owed;
    fresh = claims_stay;
  }
  owns_either false es = record { variables = g.owns.variables; pending = g.owns.pending; owed = g.owns.owed; fresh = claims_stay }

  shared_fits : BindFits v (field.Trusted o) word (λ n. v.pending) v.fresh s
  shared_fits = record { may = inr shared; owns = λ n es is. owns_either (s.words (field.Trusted o) == 0) es }

pub binds_shared : (key : Opening) (slots id : ℕ) (me : Me (Unit {0}) View) (o word : ℕ) → IsCaller key me.0 → me.0.number < 8 → IsHeld me.0 o → Has me.0.facts (fact.Settled (index_of word)) → IsMarkedInCycle me.0 word → word < 2 ^ 32 → Keeps key slots id me (field_place (field.Trusted o)) (λ n. either (n == 0) word n) (λ found w. BoundShared me.0 o word found w)
binds_shared key slots id me o word caller mutator held settled marked fits =
    binds_field key me.0 (field.Trusted o) word (λ n. me.0.pending) me.0.fresh caller mutator held fits
    (λ log shown words s g. shared_fits key log shown words me.0 s g caller o word settled marked)
    slots id me.1 (λ found w. BoundShared me.0 o word found w) (λ n es small extends. record {
      answered = record {
        same = record { opening = refl; number = refl; numbers = refl; cut = refl; knows = λ x has. has };
        own = record { vars = refl; pending = refl; owed = refl; fresh = refl };
        hands = refl;
        extends = extends;
      };
      small = small;
    })
