-- What a take leaves to its caller.
use Rattle.std.specs.Prelude.{◌≡◌, ◌≢◌, ◌<◌, ◌∷◌}
use Rattle.plain_table.specs.declared.events.Space.{Space}
use Rattle.plain_table.specs.Table.{limit_in}
use Rattle.entry_base.specs.declared.view.Claim.{Claim}
use Rattle.entry_base.specs.declared.view.Fact.TheVariants as fact
use Rattle.entry_base.specs.declared.view.View.{View}
use Rattle.entry_base.specs.Lists.{Has}
use Rattle.entry_base.specs.Openings.{sizes_in}
use Rattle.entry_base.specs.Owns.{claim_of, without_claim}
use Rattle.call_base.specs.Called.{LeavesOwn}
use Rattle.space_steps.specs.declared.tickets.Taken.{Taken}
use Rattle.space_steps.specs.declared.tickets.Taken.TheVariants as taken
use Rattle.space_steps.specs.declared.tickets.Ticket.{Ticket}

-- the claim that a ticket names
abbrev pub claim_named : Ticket → Claim
claim_named t = record { number = t.number; space = t.space; index = t.index }

-- it stands among the indexes that the view's numbers took and did not fill
abbrev pub IsTicketOf : View → Ticket → Type 0
IsTicketOf v t = Has v.owed (claim_named t)

-- an index of the space was taken: the caller's number owes it, and did not before. Nothing else that it owns has changed
pub record OwesIndex (v : View) (p : Space) (t : Ticket) (w : View) : Type 0 where
  pub number : t.number ≡ v.number
  pub space : t.space ≡ p
  pub inside : (t.index ≢ 0) × (t.index < limit_in (sizes_in v.opening) p)
  pub owed : w.owed ≡ claim_of v p t.index ∷ v.owed
  pub fresh_claim : without_claim v.number p t.index v.owed ≡ v.owed
  pub rest : (w.vars ≡ v.vars) × (w.pending ≡ v.pending) × (w.fresh ≡ v.fresh) × (w.hands ≡ v.hands)
  -- no index below it is free
  pub knows : Has w.facts (fact.Used p t.index)

-- a take leaves an index that the caller owes, or what it owns as before
abbrev pub TakenTo : View → Space → Taken → View → Type 0
TakenTo v p (taken.At t) w = OwesIndex v p t w
TakenTo v p taken.Full w = LeavesOwn v w
TakenTo v p taken.NoRoom w = LeavesOwn v w
