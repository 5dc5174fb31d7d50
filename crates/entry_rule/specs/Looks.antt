-- What the steps that look at a cell tell their seat, and those that store into one, exchange its value or publish it.
use Rattle.std.specs.Prelude.{◌≡◌, ◌≢◌, ℕ, ◌==◌, if◌then◌else◌, Option, Some, None, slice_index_or, slice_set, true}
use Rattle.plain_table.specs.declared.events.Act.TheVariants as act
use Rattle.plain_table.specs.declared.events.Space.{Space}
use Rattle.plain_table.specs.declared.reports.Reply.{Reply}
use Rattle.plain_table.specs.declared.reports.Reply.TheVariants as reply
use Rattle.plain_table.specs.Index.{index_of}
use Rattle.plain_table.specs.Words.{cell_word}
use Rattle.word_laws.specs.ReadLaws.{seen_by, tag_bits, value_bits}
use Rattle.entry_word.specs.declared.image.Pending.{Pending}
use Rattle.entry_base.specs.declared.view.Fact.TheVariants as fact
use Rattle.entry_base.specs.declared.view.View.{View}
use Rattle.entry_base.specs.Callers.{SameCaller, Extends, event_of}
use Rattle.entry_base.specs.Learned.{Answered}
use Rattle.entry_base.specs.Lists.{Has}

-- what a look answers by the word of the entry that a word names, below the limit
abbrev pub look_reply : ℕ → ℕ → ℕ → ℕ → Reply
look_reply word first last found = if index_of word == 0 then reply.Null else seen_by found first last

-- an entry was looked at: where a cell stands there, its tag is known
pub record LookedAt (v : View) (p : Space) (word first last found : ℕ) (w : View) : Type 0 where
  pub answered : Answered v (event_of v (act.Look p word first last) (look_reply word first last found)) w
  pub knows : tag_bits found ≢ 0 → Has w.facts (fact.Cell p (index_of word) (tag_bits found))

-- an index beyond the limit was looked at
abbrev pub LookedBeyond : View → Space → ℕ → ℕ → ℕ → View → Type 0
LookedBeyond v p word first last w = Answered v (event_of v (act.Look p word first last) reply.Fault) w

-- the word of an external cell after a store: marked
abbrev pub stored_word : ℕ → ℕ → ℕ
stored_word tag value = cell_word (record { id = 0; tag = tag; value = value; shown = true }) true

abbrev pub Stored : View → ℕ → ℕ → ℕ → ℕ → View → Type 0
Stored v word first last value w = Answered v (event_of v (act.Set word first last value) reply.Ok) w

-- an exchange answers the value that it found
abbrev pub Exchanged : View → ℕ → ℕ → ℕ → ℕ → ℕ → View → Type 0
Exchanged v word first last value found w = Answered v (event_of v (act.Swap word first last value) (reply.Value (value_bits found))) w

-- the view's own number may publish this cell
abbrev pub HasTicket : View → ℕ → ℕ → ℕ → Type 0
HasTicket v i tag value = (d : Option Pending) → slice_index_or v.pending v.number d ≡ Some (record { index = i; tag = tag; value = value })

-- it was published, and the ticket is given up
pub record Published (v : View) (i : ℕ) (w : View) : Type 0 where
  pub same : SameCaller v w
  pub rest : (w.vars ≡ v.vars) × (w.owed ≡ v.owed) × (w.fresh ≡ v.fresh) × (w.hands ≡ v.hands)
  pub pending : w.pending ≡ slice_set v.pending v.number None
  pub extends : Extends v (event_of v (act.Publish i) reply.Ok) w
