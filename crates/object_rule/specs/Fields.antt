-- What the steps on fields tell their seat.
use Rattle.std.specs.Prelude.{◌≡◌, ◌≢◌, ℕ, zero, suc, ◌^◌, ◌<◌, ◌==◌, if◌then◌else◌, List, [], ◌∷◌, ◌++◌, slice_set, Some}
use Rattle.plain_table.specs.declared.events.Act.TheVariants as act
use Rattle.plain_table.specs.declared.events.Field.{Field}
use Rattle.plain_table.specs.declared.events.Field.TheVariants as field
use Rattle.plain_table.specs.declared.events.Space.TheVariants.{Trusted}
use Rattle.plain_table.specs.declared.reports.Reply.{Reply}
use Rattle.plain_table.specs.declared.reports.Reply.TheVariants as reply
use Rattle.plain_table.specs.Index.{index_of}
use Rattle.plain_table.specs.Places.{space_of}
use Rattle.entry_base.specs.declared.view.Fact.{Fact}
use Rattle.entry_base.specs.declared.view.Fact.TheVariants as fact
use Rattle.entry_base.specs.declared.view.Opening.{Opening}
use Rattle.entry_base.specs.declared.view.View.{View}
use Rattle.entry_base.specs.Callers.{SameCaller, Extends, event_of}
use Rattle.entry_base.specs.Learned.{Answered}
use Rattle.entry_base.specs.Lists.{Has}
use Rattle.entry_base.specs.Openings.{phase_of}
use Rattle.entry_base.specs.Owns.{without_claim}

-- a field was named: words of external fields have 32 bits
pub record Named (v : View) (f : Field) (found : ℕ) (w : View) : Type 0 where
  pub answered : Answered v (event_of v (act.Name f) (reply.Word found)) w
  pub small : found < 2 ^ 32

-- the word of a trusted field, where it is not 0: a trusted cell that nobody is about to bind stands at its index, and in a
-- cycle the word stood in the field
abbrev pub named_facts : Opening → ℕ → ℕ → List Fact
named_facts key o zero = []
named_facts key o (suc n) =
    fact.Settled (index_of (suc n)) ∷ (if phase_of key == 0 then [] else fact.Touched (field.Trusted o) (suc n) ∷ [])

pub record NamedTrusted (v : View) (o found : ℕ) (w : View) : Type 0 where
  pub named : Named v (field.Trusted o) found w
  pub facts : w.facts ≡ named_facts v.opening o found ++ v.facts

-- a fresh cell was bound to a field, or the field's word was found; either way it is no fresh one any more
abbrev pub bind_reply : ℕ → Reply
bind_reply found = if found == 0 then reply.Ok else reply.Taken found

pub record Bound (v : View) (f : Field) (word found : ℕ) (w : View) : Type 0 where
  pub same : SameCaller v w
  pub rest : (w.vars ≡ v.vars) × (w.pending ≡ v.pending) × (w.owed ≡ v.owed) × (w.hands ≡ v.hands)
  pub fresh : w.fresh ≡ without_claim v.number (space_of f) (index_of word) v.fresh
  pub extends : Extends v (event_of v (act.Bind f word) (bind_reply found)) w
  pub small : found < 2 ^ 32

-- a fresh trusted cell that was bound is the caller's to publish
pub record BoundTrusted (v : View) (o word tag value found : ℕ) (w : View) : Type 0 where
  pub same : SameCaller v w
  pub rest : (w.vars ≡ v.vars) × (w.owed ≡ v.owed) × (w.hands ≡ v.hands)
  pub pending : w.pending ≡ (if found == 0 then slice_set v.pending v.number (Some (record { index = index_of word; tag = tag; value = value })) else v.pending)
  pub fresh : w.fresh ≡ without_claim v.number Trusted (index_of word) v.fresh
  pub extends : Extends v (event_of v (act.Bind (field.Trusted o) word) (bind_reply found)) w
  pub small : found < 2 ^ 32

-- a trusted cell that nobody is about to bind was bound to one more field, or the field's word was found
pub record BoundShared (v : View) (o word found : ℕ) (w : View) : Type 0 where
  pub answered : Answered v (event_of v (act.Bind (field.Trusted o) word) (bind_reply found)) w
  pub small : found < 2 ^ 32

-- in a cycle the cell is known as marked
abbrev pub IsMarkedInCycle : View → ℕ → Type 0
IsMarkedInCycle v word = phase_of v.opening ≢ 0 → Has v.facts (fact.Marked Trusted (index_of word))

abbrev pub Forged : View → ℕ → ℕ → View → Type 0
Forged v number word w = Answered v (event_of v (act.Forge number word) reply.Ok) w
