-- What the steps that fill an entry tell their seat (a put, an evacuation entry), the abort of a compaction, and the load of
-- the area word.
use Rattle.std.specs.Prelude.{◌≡◌, ◌≢◌, ◌⊎◌, ℕ, ◌/◌, ◌^◌, ◌<◌, ◌==◌, if◌then◌else◌, List, [], ◌∷◌, IfSome, true, false}
use Rattle.plain_table.specs.declared.events.Act.TheVariants as act
use Rattle.plain_table.specs.declared.events.Cell.{Cell}
use Rattle.plain_table.specs.declared.events.Event.{Event}
use Rattle.plain_table.specs.declared.events.Space.{Space}
use Rattle.plain_table.specs.declared.events.Space.TheVariants.{External, Trusted}
use Rattle.plain_table.specs.declared.events.Field.TheVariants as field
use Rattle.plain_table.specs.declared.reports.Reply.TheVariants as reply
use Rattle.plain_table.specs.History.{after}
use Rattle.plain_table.specs.Places.{same_space}
use Rattle.plain_table.specs.Table.{Table}
use Rattle.plain_table.specs.Words.{cell_word}
use Rattle.entry_base.specs.declared.view.Fact.{Fact}
use Rattle.entry_base.specs.declared.view.Fact.TheVariants as fact
use Rattle.entry_base.specs.declared.view.Opening.{Opening}
use Rattle.entry_base.specs.declared.view.View.{View}
use Rattle.entry_base.specs.Callers.{SameCaller, SameOwn, Extends, event_of}
use Rattle.entry_base.specs.Learned.{Loaded}
use Rattle.entry_base.specs.Lists.{Has}
use Rattle.entry_base.specs.Openings.{IsBase, start_of}
use Rattle.entry_base.specs.Owns.{claim_of, without_claim}

-- an index that may be filled: a trusted one, any where there is no area, one below the area, or any after an abort
abbrev pub MayPut : View → Space → ℕ → Type 0
MayPut v External i = IfSome (start_of v.opening) (λ start. (i < start) ⊎ Has v.facts fact.Aborted)
MayPut v Trusted i = Unit {0}

-- the word of a new cell: marked, and hidden in the trusted space
abbrev pub new_cell : Space → ℕ → ℕ → Cell
new_cell p tag value = record { id = 0; tag = tag; value = value; shown = same_space p External }

abbrev pub new_word : Space → ℕ → ℕ → ℕ
new_word p tag value = cell_word (new_cell p tag value) true

-- the claim on the index was one of an index taken, and is one of an index filled
pub record Put (v : View) (p : Space) (i tag value : ℕ) (w : View) : Type 0 where
  pub same : SameCaller v w
  pub rest : (w.vars ≡ v.vars) × (w.pending ≡ v.pending) × (w.hands ≡ v.hands)
  pub owed : w.owed ≡ without_claim v.number p i v.owed
  pub fresh : w.fresh ≡ claim_of v p i ∷ v.fresh
  pub fresh_claim : without_claim v.number p i v.fresh ≡ v.fresh
  pub extends : Extends v (event_of v (act.Put p i tag value) reply.Ok) w
  pub knows : Has w.facts (fact.Cell p i tag)

-- the trusted cell that was put stays as it is
pub record PutTrusted (v : View) (i tag value : ℕ) (w : View) : Type 0 where
  pub put : Put v Trusted i tag value w
  pub stays : Has w.facts (fact.Trusted i tag value)

-- an index below the area got the evacuation entry of a field: the field's cell does not move without it
pub record Evacuated (v : View) (i number word : ℕ) (w : View) : Type 0 where
  pub same : SameCaller v w
  pub rest : (w.vars ≡ v.vars) × (w.pending ≡ v.pending) × (w.fresh ≡ v.fresh) × (w.hands ≡ v.hands)
  pub owed : w.owed ≡ without_claim v.number External i v.owed
  pub extends : Extends v (event_of v (act.Evac i number) reply.Ok) w
  pub knows : Has w.facts (fact.Placed (field.External number) word)

-- the compaction is aborted
pub record Aborts (v w : View) : Type 0 where
  pub same : SameCaller v w
  pub own : SameOwn v w
  pub hands : w.hands ≡ v.hands
  pub extends : Extends v (event_of v act.Abort reply.Ok) w
  pub knows : Has w.facts fact.Aborted

-- the area word says in bit 32 that the compaction is aborted
abbrev pub area_facts : ℕ → List Fact
area_facts found = if found / 2 ^ 32 == 1 then fact.Aborted ∷ [] else []

-- at a moment the compaction is not aborted, whichever table the phase began in
abbrev pub IsUnaborted : Opening → List Event → Type 0
IsUnaborted key h = (b : Table) → IsBase key b → IfSome (after b h).cycle (λ c. c.aborted ≡ false)

pub record AreaLoaded (v : View) (found : ℕ) (w : View) : Type 0 where
  pub loaded : Loaded v (area_facts found) w
  pub clear : found / 2 ^ 32 ≢ 1 → IsUnaborted v.opening w.seen
