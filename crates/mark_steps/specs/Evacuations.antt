-- What an evacuation answers, and its events.
use Rattle.std.specs.Prelude.{◌≡◌, ◌⊎◌, ℕ, ◌<◌, ◌≤◌, List, [], ◌∷◌, Some, IfSome, IsTrue}
use Rattle.plain_table.specs.declared.events.Act.{Act}
use Rattle.plain_table.specs.declared.events.Act.TheVariants as act
use Rattle.plain_table.specs.declared.events.Event.{Event}
use Rattle.plain_table.specs.declared.events.Space.TheVariants.{External}
use Rattle.plain_table.specs.declared.events.Field.TheVariants as field
use Rattle.plain_table.specs.declared.reports.Reply.{Reply}
use Rattle.plain_table.specs.declared.reports.Reply.TheVariants as reply
use Rattle.plain_table.specs.History.{after}
use Rattle.plain_table.specs.Rows.{InCycle}
use Rattle.plain_table.specs.Table.{Table, limit_in}
use Rattle.entry_base.specs.declared.view.Fact.TheVariants as fact
use Rattle.entry_base.specs.declared.view.Opening.{Opening}
use Rattle.entry_base.specs.declared.view.View.{View}
use Rattle.entry_base.specs.Callers.{event_of}
use Rattle.entry_base.specs.Histories.{IsPhaseHistory}
use Rattle.entry_base.specs.Lists.{Has, StartsWith}
use Rattle.entry_base.specs.Openings.{IsBase, sizes_in, start_of}
use Rattle.entry_rule.specs.Entries.{IsUnaborted}
use Rattle.mark_rule.specs.Marking.{NoneThere}
use Rattle.call_base.specs.Called.{Called, EndsWith}
use Rattle.mark_steps.specs.declared.answers.Evacuated.{Evacuated}
use Rattle.mark_steps.specs.declared.answers.Evacuated.TheVariants as evacuated
use Rattle.mark_steps.specs.Marks.{FoundCell}

-- nothing has to move: there is no area, or the index is below it or past the limit, or no cell stands there
abbrev pub StaysThere : View → ℕ → View → Type 0
StaysThere v i w =
    IfSome (start_of v.opening) (λ start. i < start) ⊎ (limit_in (sizes_in v.opening) External ≤ i) ⊎ NoneThere v.opening w.seen External i

-- the area begins at the start, and the call found a cell in it at the index
pub record HasToMove (v : View) (start i : ℕ) (w : View) : Type 0 where
  pub area : start_of v.opening ≡ Some start
  pub inside : start ≤ i
  pub found : FoundCell v External i w

-- the compaction is aborted after the history
abbrev pub IsAborted : Opening → List Event → Type 0
IsAborted key h = (b : Table) → IsBase key b → InCycle (after b h) (λ c. IsTrue c.aborted)

-- at a moment between two views it was not aborted: where the call loaded the area word
abbrev pub WasUnaborted : View → View → Type 0
WasUnaborted v w = (load : List Event) × StartsWith load v.seen × StartsWith w.seen load × IsUnaborted v.opening load

-- these are the own events, and the history ends with the last one
abbrev pub Adds : View → List Event → View → Type 0
Adds v own w = Called v own w × EndsWith own w.seen

-- the events of taking an index below the area, and of the evacuation entry there; and those of an abort where none was free
abbrev pub placing : View → (start number i : ℕ) → List Event
placing v start number i = event_of v (act.Below start) (reply.Index i) ∷ event_of v (act.Evac i number) reply.Ok ∷ []

abbrev pub aborting : View → ℕ → List Event
aborting v start = event_of v (act.Below start) reply.NoRoom ∷ event_of v act.Abort reply.Ok ∷ []

-- one event and then another, with a view between them
pub record OneThenOne (v : View) (first : Act) (got : Reply) (second : Act) (said : Reply) (w : View) : Type 0 where
  pub mid : View
  pub before : Called v (event_of v first got ∷ []) mid
  pub then_one : Called mid (event_of mid second said ∷ []) w
  pub lawful : IsPhaseHistory v.opening mid.seen
  pub ends : EndsWith (event_of mid second said ∷ []) w.seen

-- an index below the area was taken and has the evacuation entry, or none was free and the compaction is aborted
abbrev pub IsPlacedBy : View → (start number word : ℕ) → Evacuated → View → Type 0
IsPlacedBy v start number word evacuated.NotNeeded w = ⊥
IsPlacedBy v start number word evacuated.Aborted w =
    OneThenOne v (act.Below start) reply.NoRoom act.Abort reply.Ok w × Has w.facts fact.Aborted
IsPlacedBy v start number word (evacuated.Placed index) w =
    OneThenOne v (act.Below start) (reply.Index index) (act.Evac index number) reply.Ok w × (index < start)
    × Has w.facts (fact.Placed (field.External number) word)

-- the events and the cause of each answer, for the field with a number and a word that names the index i
abbrev pub IsEvacuatedBy : View → (number i : ℕ) → Evacuated → View → Type 0
IsEvacuatedBy v number i evacuated.NotNeeded w = Called v [] w × StaysThere v i w
IsEvacuatedBy v number i evacuated.Aborted w =
    (start : ℕ) × HasToMove v start i w × IsAborted v.opening w.seen × (Called v [] w ⊎ (WasUnaborted v w × Adds v (aborting v start) w))
IsEvacuatedBy v number i (evacuated.Placed index) w =
    (start : ℕ) × HasToMove v start i w × WasUnaborted v w × (index < start) × Adds v (placing v start number index) w
