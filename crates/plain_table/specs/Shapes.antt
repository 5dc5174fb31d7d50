-- The shape of a call: the events that a call of a mutator makes, in order, by its reply. The object of a variable and
-- the mutator's ticket are those that its own events left, and whether a cycle is under way does not change in a phase.
-- A mutator's events are the shapes of its calls, each once.
use Rattle.std.specs.Prelude.{◌≡◌, ◌≢◌, ◌⊎◌, ℕ, ◌+◌, ◌*◌, if◌then◌else◌, List, [], ◌∷◌, ◌++◌, Option, Some, None, MatchOption}
use Rattle.plain_table.specs.declared.scripts.Op.{Op}
use Rattle.plain_table.specs.declared.scripts.Op.TheVariants as op
use Rattle.plain_table.specs.declared.events.Act.{Act}
use Rattle.plain_table.specs.declared.events.Act.TheVariants.{New, Drop, Get, Link, Take, Abort, Put, Bind, Name, Look, Set, Swap, Forge, Publish, Mark}
use Rattle.plain_table.specs.declared.events.Event.{Event}
use Rattle.plain_table.specs.declared.events.Space.{Space}
use Rattle.plain_table.specs.declared.events.Space.TheVariants.{External, Trusted}
use Rattle.plain_table.specs.declared.events.Field.{Field}
use Rattle.plain_table.specs.declared.events.Field.TheVariants as field
use Rattle.plain_table.specs.declared.events.Spot.{Spot}
use Rattle.plain_table.specs.declared.events.Spot.TheVariants.{Global, Ref}
use Rattle.plain_table.specs.declared.reports.Reply.{Reply}
use Rattle.plain_table.specs.declared.reports.Reply.TheVariants as reply
use Rattle.plain_table.specs.Index.{index_of, word_of}
use Rattle.plain_table.specs.Places.{put_at}
use Rattle.plain_table.specs.Cycle.{Cycle, is_in_area}
use Rattle.plain_table.specs.Finish.{is_at}

-- the objects that the 16 variables of one mutator hold
abbrev pub Held : Type 0
Held = ℕ → Option ℕ

abbrev pub event : ℕ → Act → Reply → Event
event b act said = record { by = b; act = act; said = said }

-- external field f of an object
abbrev pub external_field : ℕ → ℕ → Field
external_field object f = field.External (2 * object + f)

-- a call whose variable holds nothing answers empty, and makes no event
abbrev pub IsEmptyCall : Reply → List Event → Type 0
IsEmptyCall said events = (said ≡ reply.Empty) × (events ≡ [])

-- a call that uses the object of a variable, and one that uses that of a variable or of none
abbrev pub WithObject : Held → ℕ → Reply → List Event → (ℕ → Type 0) → Type 0
WithObject held var said events Shape = MatchOption (held var) (IsEmptyCall said events) Shape

abbrev pub WithTarget : Held → Option ℕ → Reply → List Event → Type 0 → Type 0
WithTarget held None said events Shape = Shape
WithTarget held (Some var) said events Shape = WithObject held var said events (λ o. Shape)

-- link: one event, of a global or of a reference
abbrev pub IsLink : ℕ → Spot → Option ℕ → Reply → List Event → Type 0
IsLink b spot target said events = events ≡ event b (Link spot target) said ∷ []

-- in a cycle a put into the evacuation area comes after an abort
abbrev pub abort_before : ℕ → Option Cycle → ℕ → List Event
abort_before b cycle i = if is_in_area cycle i then event b Abort reply.Ok ∷ [] else []

-- init: take, put and bind, or one take that finds the space full
abbrev pub IsInit : ℕ → Option Cycle → Field → ℕ → ℕ → Reply → List Event → Type 0
IsInit b cycle f tag value said events =
    ((said ≡ reply.Full) × (events ≡ event b (Take External) reply.Full ∷ []))
    ⊎ ((i : ℕ) × (events ≡ event b (Take External) (reply.Index i)
    ∷ abort_before b cycle i
    ++ event b (Put External i tag value) reply.Ok
    ∷ event b (Bind f (word_of i)) said ∷ []))

-- load: the name of the field, and a look at the word that it answers
abbrev pub IsLoad : ℕ → Space → Field → ℕ → ℕ → Reply → List Event → Type 0
IsLoad b p f first last said events =
    (w : ℕ) × (events ≡ event b (Name f) (reply.Word w) ∷ event b (Look p w first last) said ∷ [])

-- a call that finds no cell of an asked tag answers null or a fault
abbrev pub IsMiss : Reply → Type 0
IsMiss said = (said ≡ reply.Null) ⊎ (said ≡ reply.Fault)

-- store and swap by a field: its name, a look at the word that it answers, and where a value stands there, the write
abbrev pub IsStore : ℕ → Field → ℕ → ℕ → ℕ → Reply → List Event → Type 0
IsStore b f first last value said events =
    (w : ℕ) × ((IsMiss said × (events ≡ event b (Name f) (reply.Word w) ∷ event b (Look External w first last) said ∷ []))
    ⊎ ((old : ℕ) × (events ≡ event b (Name f) (reply.Word w)
    ∷ event b (Look External w first last) (reply.Value old)
    ∷ event b (Set w first last value) said ∷ [])))

abbrev pub IsSwap : ℕ → Field → ℕ → ℕ → ℕ → Reply → List Event → Type 0
IsSwap b f first last value said events =
    (w : ℕ) × ((IsMiss said × (events ≡ event b (Name f) (reply.Word w) ∷ event b (Look External w first last) said ∷ []))
    ⊎ ((old : ℕ) × (events ≡ event b (Name f) (reply.Word w)
    ∷ event b (Look External w first last) (reply.Value old)
    ∷ event b (Swap w first last value) said ∷ [])))

-- a store by a word: a look at it, and where a value stands there, the write
abbrev pub IsRawSet : ℕ → ℕ → ℕ → ℕ → ℕ → Reply → List Event → Type 0
IsRawSet b w first last value said events =
    (IsMiss said × (events ≡ event b (Look External w first last) said ∷ []))
    ⊎ ((old : ℕ) × (events ≡ event b (Look External w first last) (reply.Value old) ∷ event b (Set w first last value) said ∷ []))

-- tnew: pending where the mutator has a ticket already, and else take, put and bind, or one take that finds it full
abbrev pub IsTNew : ℕ → Option ℕ → Field → ℕ → ℕ → Reply → List Event → Type 0
IsTNew b (Some ticket) f tag value said events = (said ≡ reply.Pending) × (events ≡ [])
IsTNew b None f tag value said events =
    ((said ≡ reply.Full) × (events ≡ event b (Take Trusted) reply.Full ∷ []))
    ⊎ ((i : ℕ) × (events ≡ event b (Take Trusted) (reply.Index i)
    ∷ event b (Put Trusted i tag value) reply.Ok
    ∷ event b (Bind f (word_of i)) said ∷ []))

-- tpub: the name of the field, and where its word's index is the mutator's ticket, the publishing
abbrev pub IsTPub : ℕ → Option ℕ → Field → Reply → List Event → Type 0
IsTPub b ticket f said events =
    (w : ℕ) × (((ticket ≢ Some (index_of w)) × (said ≡ reply.NotYours) × (events ≡ event b (Name f) (reply.Word w) ∷ []))
    ⊎ ((ticket ≡ Some (index_of w)) × (events ≡ event b (Name f) (reply.Word w) ∷ event b (Publish (index_of w)) said ∷ [])))

-- in a cycle the trusted cell that is to be shared is marked first
abbrev pub mark_before : ℕ → Option Cycle → ℕ → List Event
mark_before b None w = []
mark_before b (Some c) w = event b (Mark Trusted (index_of w)) reply.Ok ∷ []

-- share: the name of the one field, and where its word is not 0, the bind of the other
abbrev pub IsShare : ℕ → Option Cycle → Field → Field → Reply → List Event → Type 0
IsShare b cycle from to said events =
    (w : ℕ) × (((w ≡ 0) × (said ≡ reply.Null) × (events ≡ event b (Name from) (reply.Word w) ∷ []))
    ⊎ ((w ≢ 0) × (events ≡ event b (Name from) (reply.Word w) ∷ mark_before b cycle w ++ event b (Bind to w) said ∷ [])))

-- one row a call
abbrev pub IsShape : ℕ → Option Cycle → Held → Option ℕ → Op → Reply → List Event → Type 0
IsShape b cycle held ticket (op.New var) said events = events ≡ event b (New var) said ∷ []
IsShape b cycle held ticket (op.Drop var) said events = events ≡ event b (Drop var) said ∷ []
IsShape b cycle held ticket (op.Link var k target) said events =
    WithObject held var said events (λ o. WithTarget held target said events (IsLink b (Ref o k) target said events))
IsShape b cycle held ticket (op.Fetch into var k) said events =
    WithObject held var said events (λ o. events ≡ event b (Get into (Ref o k)) said ∷ [])
IsShape b cycle held ticket (op.SetG g target) said events =
    WithTarget held target said events (IsLink b (Global g) target said events)
IsShape b cycle held ticket (op.GetG into g) said events = events ≡ event b (Get into (Global g)) said ∷ []
IsShape b cycle held ticket (op.Init var f tag value) said events =
    WithObject held var said events (λ o. IsInit b cycle (external_field o f) tag value said events)
IsShape b cycle held ticket (op.Load var f first last) said events =
    WithObject held var said events (λ o. IsLoad b External (external_field o f) first last said events)
IsShape b cycle held ticket (op.Store var f first last value) said events =
    WithObject held var said events (λ o. IsStore b (external_field o f) first last value said events)
IsShape b cycle held ticket (op.Swap var f first last value) said events =
    WithObject held var said events (λ o. IsSwap b (external_field o f) first last value said events)
IsShape b cycle held ticket (op.Name var f) said events =
    WithObject held var said events (λ o. events ≡ event b (Name (external_field o f)) said ∷ [])
IsShape b cycle held ticket (op.Forge var f word) said events =
    WithObject held var said events (λ o. events ≡ event b (Forge (2 * o + f) word) said ∷ [])
IsShape b cycle held ticket (op.Raw word first last) said events = events ≡ event b (Look External word first last) said ∷ []
IsShape b cycle held ticket (op.RawSet word first last value) said events = IsRawSet b word first last value said events
IsShape b cycle held ticket (op.TNew var tag value) said events =
    WithObject held var said events (λ o. IsTNew b ticket (field.Trusted o) tag value said events)
IsShape b cycle held ticket (op.TPub var) said events =
    WithObject held var said events (λ o. IsTPub b ticket (field.Trusted o) said events)
IsShape b cycle held ticket (op.TLoad var first last) said events =
    WithObject held var said events (λ o. IsLoad b Trusted (field.Trusted o) first last said events)
IsShape b cycle held ticket (op.TRaw word first last) said events = events ≡ event b (Look Trusted word first last) said ∷ []
IsShape b cycle held ticket (op.Share from to) said events =
    WithObject held from said events (λ o. WithObject held to said events (λ q.
    IsShare b cycle (field.Trusted o) (field.Trusted q) said events))

-- the variables after an event of their mutator, and after several
abbrev pub held_next : Held → Act → Reply → Held
held_next held (New var) (reply.Obj o) = put_at held var (Some o)
held_next held (Drop var) _ = put_at held var None
held_next held (Get var spot) (reply.Obj o) = put_at held var (Some o)
held_next held (Get var spot) reply.Nothing = put_at held var None
held_next held _ _ = held

abbrev pub held_after : Held → List Event → Held
held_after held [] = held
held_after held (e ∷ es) = held_after (held_next held e.act e.said) es

-- what a mutator has of a new trusted entry, by its own events: the index that it filled and has not bound yet, and the
-- ticket that it may publish
pub record OwnTicket : Type 0 where
  pub filled : Option ℕ
  pub ticket : Option ℕ

-- between its calls a mutator has filled no index that it has not bound
abbrev pub with_ticket : Option ℕ → OwnTicket
with_ticket ticket = record { filled = None; ticket = ticket }

-- the bind of an index: the filled one is bound then, and becomes the ticket where the bind says ok
abbrev pub ticket_said : Option ℕ → ℕ → Reply → Option ℕ
ticket_said ticket i reply.Ok = Some i
ticket_said ticket i _ = ticket

abbrev pub own_bound : OwnTicket → ℕ → Reply → OwnTicket
own_bound own i said =
    if is_at own.filled i then (record { filled = None; ticket = ticket_said own.ticket i said }) else own

-- the ticket after an event of its mutator, and after several
abbrev pub own_next : OwnTicket → Act → Reply → OwnTicket
own_next own (Put Trusted i tag value) said = record own { filled = Some i }
own_next own (Bind (field.Trusted number) word) said = own_bound own (index_of word) said
own_next own (Publish i) said = record own { ticket = None }
own_next own _ said = own

abbrev pub own_after : OwnTicket → List Event → OwnTicket
own_after own [] = own
own_after own (e ∷ es) = own_after (own_next own e.act e.said) es

-- the events of a mutator are the shapes of its calls, in order, each once, with these replies
abbrev pub MakesCalls : ℕ → Option Cycle → Held → OwnTicket → List Op → List Reply → List Event → Type 0
MakesCalls b cycle held own [] [] events = events ≡ []
MakesCalls b cycle held own (call ∷ calls) (said ∷ replies) events =
    (first : List Event) × (later : List Event) × (events ≡ first ++ later)
    × IsShape b cycle held own.ticket call said first
    × MakesCalls b cycle (held_after held first) (own_after own first) calls replies later
MakesCalls b cycle held own _ _ events = ⊥
