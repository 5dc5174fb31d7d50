-- The laws of the model, each a statement over the definitions alone: which tables are sound, what events keep, which
-- cells fields read, what a take finds, where cells go at a finish, and that a finish can't be refused. Each is the
-- contract of a function in `src/laws.rt`.
use Rattle.std.specs.Prelude.{◌≡◌, ◌⊎◌, ◌↔◌, ℕ, ◌<◌, ◌≤◌, false, List, Some, None, IsTrue, IsSome, IsSomeAnd}
use Rattle.plain_table.specs.declared.scripts.Limits.{Limits}
use Rattle.plain_table.specs.declared.scripts.Policy.{Policy}
use Rattle.plain_table.specs.declared.scripts.Script.{Script}
use Rattle.plain_table.specs.declared.reports.Outcome.{Outcome}
use Rattle.plain_table.specs.declared.events.Act.TheVariants.{New, Take, Below, Look, Forge}
use Rattle.plain_table.specs.declared.events.Cell.{Cell}
use Rattle.plain_table.specs.declared.events.Event.{Event}
use Rattle.plain_table.specs.declared.events.Space.{Space}
use Rattle.plain_table.specs.declared.events.Space.TheVariants.{External}
use Rattle.plain_table.specs.declared.events.Field.{Field}
use Rattle.plain_table.specs.declared.events.Field.TheVariants as field
use Rattle.plain_table.specs.declared.reports.Reply.TheVariants as reply
use Rattle.plain_table.specs.Ranges.{IsInRange}
use Rattle.plain_table.specs.Index.{index_of}
use Rattle.plain_table.specs.Places.{space_of, object_of}
use Rattle.plain_table.specs.Cycle.{Cycle, moves_from}
use Rattle.plain_table.specs.Table.{Table, opening, limit_of, least_free}
use Rattle.plain_table.specs.Finish.{IsReachable, CanFinish, id_at, started, finished, place, target}
use Rattle.plain_table.specs.Rows.{is_asked}
use Rattle.plain_table.specs.Belongs.{Belongs, Part}
use Rattle.plain_table.specs.Holders.{IsLiveHolder}
use Rattle.plain_table.specs.History.{IsLegal, IsLegalHistory, next, after}
use Rattle.plain_table.specs.Sound.{IsSound}
use Rattle.table_laws.specs.Steady.{IsDuringPhase, IsSteady}
use Rattle.table_laws.specs.Stored.{stored_after, nothing_stored}
use Rattle.table_laws.specs.Causes.{AreDuringPhase, HasCause}

-- soundness is kept: each legal event of any sound table leaves a sound table
abbrev pub EventsKeepSoundness : Type 0
EventsKeepSoundness = (s : Table) (e : Event) → IsSound s → IsLegal s e → IsSound (next s e)

-- so each table after a legal history is sound
abbrev pub HistoriesAreSound : Type 0
HistoriesAreSound =
    (limits : Limits) (es : List Event) → IsInRange limits → IsLegalHistory (opening limits) es → IsSound (after (opening limits) es)

-- steadiness: an event concurrent with others leaves theirs alone
abbrev pub EventsAreSteady : Type 0
EventsAreSteady = (s : Table) (e : Event) → IsSound s → IsLegal s e → IsDuringPhase e.act → IsSteady s e (next s e)

-- own resource: the cell at a live holder's word is its own, with the tag of its put and the value last stored in it
abbrev pub HoldersReadTheirOwn : Type 0
HoldersReadTheirOwn =
    (limits : Limits) (es : List Event) (f : Field) (id : ℕ) → IsInRange limits → IsLegalHistory (opening limits) es →
    IsLiveHolder (after (opening limits) es) f id →
    IsSomeAnd ((after (opening limits) es).cells (space_of f) (index_of ((after (opening limits) es).words f))) (λ c.
    (c.id ≡ id) × IsTrue c.shown × (stored_after (opening limits) es nothing_stored id ≡ Some (c.tag, c.value)))

-- a live holder stays one, until its object can't be reached any more or its field is forged
abbrev pub HoldersStayLive : Type 0
HoldersStayLive =
    (s : Table) (e : Event) (f : Field) (id : ℕ) → IsSound s → IsLegal s e → IsLiveHolder s f id → IsReachable (next s e) (object_of f) →
    IsLiveHolder (next s e) f id ⊎ ((number : ℕ) × (w : ℕ) × (f ≡ field.External number) × (e.act ≡ Forge number w))

-- no second use: the index of a live holder is used, and so no take answers it
abbrev pub HoldersKeepTheirIndex : Type 0
HoldersKeepTheirIndex =
    (s : Table) (f : Field) (id : ℕ) → IsSound s → IsLiveHolder s f id →
    IsTrue (s.used (space_of f) (index_of (s.words f)))
    × ((e : Event) → IsLegal s e →
    ((e.act ≡ Take (space_of f)) ⊎ ((start : ℕ) × (space_of f ≡ External) × (e.act ≡ Below start))) →
    e.said ≡ reply.Index (index_of (s.words f)) → ⊥)

-- precision: each cell that a finish keeps has a cause in its cycle
abbrev pub FinishesArePrecise : Type 0
FinishesArePrecise =
    (s : Table) (policy : Policy) (es : List Event) (p : Space) (i : ℕ) →
    IsLegalHistory (started s policy) es → AreDuringPhase es →
    (c : Cycle) → (after (started s policy) es).cycle ≡ Some c →
    IsSome (place c (after (started s policy) es).words p i) → HasCause (started s policy) es p i

-- takes: what a take finds is the least of the free indexes, from 1 on below the limit, and it finds none just where there
-- is none
abbrev pub IsFree : Table → Space → ℕ → Type 0
IsFree s p i = (1 ≤ i) × (i < limit_of s p) × (s.used p i ≡ false)

abbrev pub TakesFindTheLeast : Type 0
TakesFindTheLeast =
    (s : Table) (p : Space) →
    ((i : ℕ) → (least_free s p ≡ Some i) ↔ (IsFree s p i × ((j : ℕ) → IsFree s p j → i ≤ j)))
    × ((least_free s p ≡ None) ↔ ((i : ℕ) → IsFree s p i → ⊥))

-- targets: where a marked cell of the area moves is the greatest of the evacuation entries of fields whose word names it
pub record IsEntryFor (c : Cycle) (words : Field → ℕ) (i e : ℕ) : Type 0 where
  pub area : (start : ℕ) × (moves_from c ≡ Some start) × (start ≤ i) × (e < start)
  pub marked : IsTrue (c.marks External i)
  pub entry : (number : ℕ) × (c.evac e ≡ Some number) × (index_of (words (field.External number)) ≡ i)

abbrev pub TargetsAreTheGreatest : Type 0
TargetsAreTheGreatest =
    (c : Cycle) (words : Field → ℕ) (i e : ℕ) →
    (target c words i ≡ Some e) ↔ (IsEntryFor c words i e × ((d : ℕ) → IsEntryFor c words i d → d ≤ e))

-- moves: after a finish with an area and no abort each external cell stands below the start, and the cell of each index
-- with a target stands there, with its id, tag and value
abbrev pub CellsMoveToTheirTarget : Type 0
CellsMoveToTheirTarget =
    (s : Table) (c : Cycle) (start : ℕ) → IsSound s → s.cycle ≡ Some c → CanFinish s c → moves_from c ≡ Some start →
    ((e : ℕ) → IsSome ((finished s c).cells External e) → e < start)
    × ((i e : ℕ) → target c s.words i ≡ Some e → (finished s c).cells External e ≡ s.cells External i)

-- places: after a finish an index holds just the cell whose place it is, and no two cells have one place
abbrev pub CellsStandAtTheirPlace : Type 0
CellsStandAtTheirPlace =
    (s : Table) (c : Cycle) (p : Space) → IsSound s → s.cycle ≡ Some c →
    ((e : ℕ) (cell : Cell) →
    ((finished s c).cells p e ≡ Some cell) ↔ ((i : ℕ) × (place c s.words p i ≡ Some e) × (s.cells p i ≡ Some cell)))
    × ((i j e : ℕ) → place c s.words p i ≡ Some e → place c s.words p j ≡ Some e → i ≡ j)

-- reach: an object that can be reached after an event could be reached before it, or was made by it
abbrev pub ReachOnlyGrowsByNew : Type 0
ReachOnlyGrowsByNew =
    (s : Table) (e : Event) (o : ℕ) → IsSound s → IsLegal s e → IsReachable (next s e) o →
    IsReachable s o ⊎ ((var : ℕ) × (e.act ≡ New var) × (e.said ≡ reply.Obj o))

-- stored values: a look that answers a value found it in the cell that stands at the word's index, whose put had a tag
-- of the asked range, and the value is the one last stored in that cell
abbrev pub ValuesWereStored : Type 0
ValuesWereStored =
    (limits : Limits) (es : List Event) (p : Space) (w first last value b : ℕ) → IsInRange limits → IsLegalHistory (opening limits) es →
    IsLegal (after (opening limits) es) (record { by = b; act = Look p w first last; said = reply.Value value }) →
    (id : ℕ) × (tag : ℕ) × (id_at (after (opening limits) es) p (index_of w) ≡ Some id)
    × (stored_after (opening limits) es nothing_stored id ≡ Some (tag, value)) × IsTrue (is_asked first last tag)

-- versions agree: whether an outcome belongs to a script does not depend on the script's version
abbrev pub VersionsAgree : Type 0
VersionsAgree =
    (script : Script) (parts : List Part) (outcome : Outcome) →
    Belongs script parts outcome ↔ Belongs (record script { version = 2 }) parts outcome

-- a finish can't be refused once each reachable object was scanned or is born in the cycle
abbrev pub FinishesCannotBeRefused : Type 0
FinishesCannotBeRefused =
    (s : Table) (c : Cycle) → IsSound s → s.cycle ≡ Some c →
    ((o : ℕ) → IsReachable s o → IsTrue (c.scans o) ⊎ IsTrue (c.born o)) → CanFinish s c
