-- Why calls by trusted fields answer what they do: by a word that a field held meanwhile, and by the table right before the last event.
use Rattle.std.specs.Prelude.{◌≡◌, ◌≢◌, ◌⊎◌, ℕ, List, None, Some}
use Rattle.plain_table.specs.declared.events.Event.{Event}
use Rattle.plain_table.specs.declared.events.Field.TheVariants as field
use Rattle.plain_table.specs.declared.events.Space.TheVariants.{Trusted}
use Rattle.plain_table.specs.declared.reports.Reply.{Reply}
use Rattle.plain_table.specs.declared.reports.Reply.TheVariants as reply
use Rattle.plain_table.specs.History.{after}
use Rattle.plain_table.specs.Index.{index_of}
use Rattle.plain_table.specs.Table.{Table, least_free}
use Rattle.entry_base.specs.declared.view.View.{View}
use Rattle.entry_base.specs.Lists.{StartsWith}
use Rattle.entry_base.specs.Openings.{IsBase}
use Rattle.entry_base.specs.Sessions.{ticket_in}
use Rattle.call_base.specs.Called.{HeldAtLast}

-- at a moment of a call the trusted field of an object held this word: after what was seen before the call, and before its end
pub record HeldWord (v : View) (o word : ℕ) (w : View) : Type 0 where
  pub moment : List Event
  pub begins : StartsWith moment v.seen
  pub goes_on : StartsWith w.seen moment
  pub held : (b : Table) → IsBase w.opening b → (after b moment).words (field.Trusted o) ≡ word

-- a bind answers Ok where the field held 0 at its event, and else the word that it held
abbrev pub IsBoundAtEvent : View → ℕ → Reply → Type 0
IsBoundAtEvent w o reply.Ok = HeldAtLast w.opening w.seen (λ t. t.words (field.Trusted o) ≡ 0)
IsBoundAtEvent w o (reply.Taken found) = HeldAtLast w.opening w.seen (λ t. (found ≢ 0) × (t.words (field.Trusted o) ≡ found))
IsBoundAtEvent w o said = ⊥

-- a fill answers Full where no trusted index was free at its event, and else what its bind answers
abbrev pub IsFillAtEvent : View → ℕ → Reply → Type 0
IsFillAtEvent w o said =
    ((said ≡ reply.Full) × HeldAtLast w.opening w.seen (λ t. least_free t Trusted ≡ None)) ⊎ IsBoundAtEvent w o said

-- a share of a word answers Null where the word is 0, and else what its bind answers
abbrev pub IsShareAtEvent : View → ℕ → ℕ → Reply → Type 0
IsShareAtEvent w target word said = ((word ≡ 0) × (said ≡ reply.Null)) ⊎ ((word ≢ 0) × IsBoundAtEvent w target said)

-- a publishing by a word answers Ok where its index is that of the ticket, and NotYours where it isn't
abbrev pub IsPublishReply : View → ℕ → Reply → Type 0
IsPublishReply v word said =
    ((ticket_in v ≡ Some (index_of word)) × (said ≡ reply.Ok)) ⊎ ((ticket_in v ≢ Some (index_of word)) × (said ≡ reply.NotYours))
