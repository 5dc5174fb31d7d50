-- Calls that set a variable: drop, fetch and new. Their events are their shapes.
use Rattle.std.proofs.Common.{◌≡◌, ℕ, zero, suc, ◌<◌, [], ◌∷◌, Some, None, length, refl, sym, subst, ◌∙◌, arith}
use Rattle.plain_table.specs.declared.scripts.Op.{Op}
use Rattle.plain_table.specs.declared.scripts.Op.TheVariants as op
use Rattle.plain_table.specs.declared.events.Act.TheVariants as act
use Rattle.plain_table.specs.declared.events.Spot.{Spot}
use Rattle.plain_table.specs.declared.events.Spot.TheVariants.{Ref}
use Rattle.plain_table.specs.declared.reports.Reply.TheVariants as reply
use Rattle.std.specs.Option.{option_map_or}
use Rattle.plain_table.specs.Rows.{at_spot}
use Rattle.entry_base.specs.declared.view.View.{View}
use Rattle.entry_base.specs.Callers.{event_of}
use Rattle.entry_base.specs.Numbers.{HasNumber}
use Rattle.entry_base.specs.Sessions.{held_in}
use Rattle.object_rule.specs.Objects.{Dropped, Got, got_reply}
use Rattle.call_base.specs.Called.{HeldAtLast, Made}
use Rattle.call_base.proofs.HeldVariables.{WithObject-none, WithObject-some, held_suits, made_sets}
use Rattle.call_base.proofs.OneEvent.{HasShape, held_at_last, made_still}
use Rattle.graph_steps.specs.Graph.{IsAtSpot}

module _ (v w : View) (var : ℕ) (few : var < 16) (mutator : v.number < 8) (many : length v.vars ≡ 128) (own : HasNumber v v.number) where
  pub made_drop : Dropped v var w → Made v (op.Drop var) reply.Ok w
  made_drop d = made_sets v w var 0 None few mutator many refl d.variable.same d.variable.vars (op.Drop var) (act.Drop var) reply.Ok d.variable.rest.0 own d.extends
      (λ cycle held ticket suits. refl) (λ held. refl) (λ ticket. refl)

  -- a call whose one event gets what a place holds
  pub made_get : (call : Op) (spot : Spot) (found : ℕ) → HasShape v call (got_reply found) (event_of v (act.Get var spot) (got_reply found) ∷ [])
      → Got v var spot found w → Made v call (got_reply found) w
  made_get call spot zero shape g = made_sets v w var 0 None few mutator many refl g.variable.same g.variable.vars call (act.Get var spot) reply.Nothing g.variable.rest.0 own g.extends
      shape (λ held. refl) (λ ticket. refl)
  made_get call spot (suc q) shape g = made_sets v w var (suc q) (Some q) few mutator many (omega arith) g.variable.same g.variable.vars call (act.Get var spot) (reply.Obj q) g.variable.rest.0 own g.extends
      shape (λ held. refl) (λ ticket. refl)

-- what it got stood there
pub got_at_spot : (v w : View) (into : ℕ) (spot : Spot) (found : ℕ) → Got v into spot found w → IsAtSpot w spot (got_reply found)
got_at_spot v w into spot found g = subst (λ o. HeldAtLast o w.seen (λ t. got_reply found ≡ option_map_or reply.Obj (at_spot t spot) reply.Nothing)) (sym g.variable.same.opening)
    (held_at_last v w (event_of v (act.Get into spot) (got_reply found)) _ g.extends (λ t sound sizes legal. legal.1))

pub made_fetch : (v w : View) (into var k o found : ℕ) → into < 16 → var < 16 → v.number < 8 → length v.vars ≡ 128 → HasNumber v v.number → held_in v var ≡ Some o
    → Got v into (Ref o k) found w → Made v (op.Fetch into var k) (got_reply found) w
made_fetch v w into var k o found few low mutator many own holds g =
    made_get v w into few mutator many own (op.Fetch into var k) (Ref o k) found
    (λ cycle held ticket suits. WithObject-some held var o _ _ _ (held_suits v var low cycle held ticket suits ∙ holds) refl) g

pub made_fetch_empty : (v : View) (into var k : ℕ) → var < 16 → held_in v var ≡ None → Made v (op.Fetch into var k) reply.Empty v
made_fetch_empty v into var k low none_held = made_still v (op.Fetch into var k) reply.Empty
    (λ cycle held ticket suits. WithObject-none held var _ (held_suits v var low cycle held ticket suits ∙ none_held))
