-- Meets: a cycle starts only outside one and is finished only in one; and what happens at a meet, for each table that the
-- mutator's image showed.
use Rattle.std.specs.Prelude.{◌≡◌, ℕ, Bool, List, [], ◌∷◌}
use Rattle.std.specs.List.{count_by}
use Rattle.plain_table.specs.declared.scripts.Meet.{Meet}
use Rattle.plain_table.specs.declared.scripts.Meet.TheVariants.{Start, Finish}
use Rattle.plain_table.specs.declared.scripts.Phase.{Phase}
use Rattle.plain_table.specs.declared.scripts.Policy.{Policy}
use Rattle.plain_table.specs.declared.events.Event.{Event}
use Rattle.plain_table.specs.declared.reports.MeetReport.{MeetReport}
use Rattle.plain_table.specs.Table.{Table}
use Rattle.plain_table.specs.Finish.{started}
use Rattle.plain_table.specs.History.{IsLegalHistory, after}
use Rattle.plain_table.specs.Sweeps.{MeetBelongs, linked_after}
use Rattle.plain_table.specs.Belongs.{is_external_put, is_start}
use Rattle.entry_word.specs.Image.{image_of}
use Rattle.mutator_calls.specs.declared.heap.Mutator.{Mutator}
use Rattle.mutator_calls.specs.Calls.{HandsOver, Sees}

-- a meet that may come at this phase word: a start only at 0 and a finish only at 1
abbrev pub IsMeetAt : ℕ → Meet → Type 0
IsMeetAt word (Start policy) = word ≡ 0
IsMeetAt word Finish = word ≡ 1
IsMeetAt word _ = Unit {0}

-- the phase word after a meet, and after the meets of some phases
abbrev pub word_after : ℕ → Meet → ℕ
word_after word (Start policy) = 1
word_after word Finish = 0
word_after word _ = word

abbrev pub words_after : ℕ → List Phase → ℕ
words_after word [] = word
words_after word (phase ∷ phases) = words_after (word_after word phase.meet) phases

-- the last of some phases started a cycle
abbrev pub begins_after : Bool → List Phase → Bool
begins_after begins [] = begins
begins_after begins (phase ∷ phases) = begins_after (is_start phase.meet) phases

-- a table right after the start of a cycle
abbrev pub IsStarted : Table → Type 0
IsStarted s = (before : Table) × (policy : Policy) × (s ≡ started before policy)

-- how many external cells the events put
abbrev pub puts_in : List Event → ℕ
puts_in events = count_by (λ (e : Event). is_external_put e.act) events

-- a meet at the table s, where these objects were linked in its cycle
pub record HasMet (old new : Mutator) (meet : Meet) (report : MeetReport) (s : Table) (linked : List ℕ) : Type 0 where
  pub events : List Event
  pub legal : IsLegalHistory s events
  pub belongs : MeetBelongs linked s meet events report
  pub quiet : puts_in events ≡ 0
  pub sees : Sees (image_of new.image) (after s events)
  pub handed : HandsOver new (linked_after s linked events) (after s events)

abbrev pub MeetsEach : Mutator → Mutator → Meet → MeetReport → Type 0
MeetsEach old new meet report =
    (s : Table) (linked : List ℕ) → Sees (image_of old.image) s → HandsOver old linked s → HasMet old new meet report s linked
