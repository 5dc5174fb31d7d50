-- Links of references and globals: their events are their shapes.
use Rattle.std.proofs.Common.{◌≡◌, ℕ, ◌<◌, List, [], ◌∷◌, Option, Some, None, IfSome, refl, ◌∙◌}
use Rattle.plain_table.specs.declared.scripts.Op.{Op}
use Rattle.plain_table.specs.declared.scripts.Op.TheVariants as op
use Rattle.plain_table.specs.declared.events.Act.TheVariants as act
use Rattle.plain_table.specs.declared.events.Event.{Event}
use Rattle.plain_table.specs.declared.events.Spot.{Spot}
use Rattle.plain_table.specs.declared.events.Spot.TheVariants.{Global, Ref}
use Rattle.plain_table.specs.declared.reports.Reply.{Reply}
use Rattle.plain_table.specs.declared.reports.Reply.TheVariants as reply
use Rattle.plain_table.specs.Cycle.{Cycle}
use Rattle.plain_table.specs.Shapes.{Held, OwnTicket, WithTarget}
use Rattle.entry_base.specs.declared.view.View.{View}
use Rattle.entry_base.specs.Callers.{SameOwn, event_of}
use Rattle.entry_base.specs.Numbers.{HasNumber}
use Rattle.entry_base.specs.Sessions.{held_in}
use Rattle.object_rule.specs.Objects.{IsTarget, LinkedTo}
use Rattle.call_base.specs.Called.{Called, Made, Suits}
use Rattle.call_base.proofs.CallsInOrder.{called_none}
use Rattle.call_base.proofs.HeldVariables.{WithObject-none, WithObject-some, held_in-holds, held_suits}
use Rattle.call_base.proofs.OneEvent.{HasShape, made_after, made_still}
use Rattle.graph_steps.specs.Graph.{IsUnheld}

module _ (v : View) (cycle : Option Cycle) (held : Held) (ticket : OwnTicket) (suits : Suits v cycle held ticket) where
  WithTarget-held : (target : Option ℕ) (word : ℕ) (said : Reply) (events : List Event) (Shape : Type 0) → IsTarget v target word → Shape → WithTarget held target said events Shape
  WithTarget-held None word said events Shape aims shape = shape
  WithTarget-held (Some var) word said events Shape aims shape =
      WithObject-some held var aims.0 said events _ (held_suits v var aims.1.0 cycle held ticket suits ∙ held_in-holds v var aims.0 aims.1) shape

  WithTarget-unheld : (target : Option ℕ) (Shape : Type 0) → IfSome target (λ var. var < 16) → IsUnheld v target → WithTarget held target reply.Empty [] Shape
  WithTarget-unheld None Shape few is = absurd is
  WithTarget-unheld (Some var) Shape few is = WithObject-none held var _ (held_suits v var few cycle held ticket suits ∙ is)

-- a call whose one event is a link, after a shading or none
made_linked : (u v w : View) (call : Op) (spot : Spot) (target : Option ℕ) → HasNumber v v.number → Called u [] v → SameOwn u w → LinkedTo v spot target w
    → HasShape u call reply.Ok (event_of u (act.Link spot target) reply.Ok ∷ []) → Made u call reply.Ok w
made_linked u v w call spot target own before leaves linked shape =
    made_after u v w call (act.Link spot target) reply.Ok own before linked.same leaves.vars leaves.pending linked.extends shape (λ held. refl) (λ ticket. refl)

-- a reference
module _ (v : View) (var k : ℕ) (few : var < 16) (target : Option ℕ) where
  pub made_link_unheld : held_in v var ≡ None → Made v (op.Link var k target) reply.Empty v
  made_link_unheld none_held = made_still v (op.Link var k target) reply.Empty
      (λ cycle held ticket suits. WithObject-none held var _ (held_suits v var few cycle held ticket suits ∙ none_held))

  pub made_link_none : (o : ℕ) → held_in v var ≡ Some o → IfSome target (λ t. t < 16) → IsUnheld v target → Made v (op.Link var k target) reply.Empty v
  made_link_none o holds low none_held = made_still v (op.Link var k target) reply.Empty
      (λ cycle held ticket suits. WithObject-some held var o _ _ _ (held_suits v var few cycle held ticket suits ∙ holds) (WithTarget-unheld v cycle held ticket suits target _ low none_held))

  pub made_link : (u w : View) (o word : ℕ) → held_in v var ≡ Some o → IsTarget v target word → HasNumber u u.number → Called v [] u → SameOwn v w → LinkedTo u (Ref o k) target w
      → Made v (op.Link var k target) reply.Ok w
  made_link u w o word holds aims own before leaves linked = made_linked v u w (op.Link var k target) (Ref o k) target own before leaves linked
      (λ cycle held ticket suits. WithObject-some held var o _ _ _ (held_suits v var few cycle held ticket suits ∙ holds) (WithTarget-held v cycle held ticket suits target word _ _ _ aims refl))

-- a global
module _ (v : View) (g : ℕ) (target : Option ℕ) where
  pub made_link_global_none : IfSome target (λ t. t < 16) → IsUnheld v target → Made v (op.SetG g target) reply.Empty v
  made_link_global_none low none_held = made_still v (op.SetG g target) reply.Empty (λ cycle held ticket suits. WithTarget-unheld v cycle held ticket suits target _ low none_held)

  pub made_link_global : (w : View) (word : ℕ) → IsTarget v target word → HasNumber v v.number → LinkedTo v (Global g) target w → Made v (op.SetG g target) reply.Ok w
  made_link_global w word aims own linked = made_linked v v w (op.SetG g target) (Global g) target own (called_none v) linked.own linked
      (λ cycle held ticket suits. WithTarget-held v cycle held ticket suits target word _ _ _ aims refl)
