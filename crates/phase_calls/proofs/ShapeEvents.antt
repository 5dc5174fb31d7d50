-- What the events of a call's shape are: the acts that a call makes, what it links to references, and how many external cells it
-- puts where each bind says ok or taken.
use Rattle.std.proofs.Common.{◌≡◌, ℕ, ◌+◌, Bool, true, false, List, [], ◌∷◌, ◌++◌, Option, Some, None, refl, sym, ap, subst, subst₂, ◌∙◌, inl, inr}
use Rattle.std.specs.Prelude.{◌≢◌, ◌⊎◌, if◌then◌else◌, MatchOption}
use Rattle.std.specs.List.{count_by}
use Rattle.std.specs.Option.{option_to_list}
use Rattle.std.proofs.lemmas.List.Sums.{sum_by-cons}
use Rattle.plain_table.specs.declared.scripts.Op.{Op}
use Rattle.plain_table.specs.declared.scripts.Op.TheVariants as op
use Rattle.plain_table.specs.declared.events.Act.{Act}
use Rattle.plain_table.specs.declared.events.Act.TheVariants.{Link, Take, Below, Abort, Put, Bind, Evac, Scan, Start, Finish}
use Rattle.plain_table.specs.declared.events.Event.{Event}
use Rattle.plain_table.specs.declared.events.Field.{Field}
use Rattle.plain_table.specs.declared.events.Field.TheVariants as field
use Rattle.plain_table.specs.declared.events.Space.TheVariants.{External, Trusted}
use Rattle.plain_table.specs.declared.events.Spot.TheVariants.{Ref}
use Rattle.plain_table.specs.declared.reports.Reply.{Reply}
use Rattle.plain_table.specs.declared.reports.Reply.TheVariants as reply
use Rattle.plain_table.specs.Belongs.{is_external_put}
use Rattle.plain_table.specs.Index.{word_of}
use Rattle.plain_table.specs.Cycle.{Cycle, is_in_area}
use Rattle.plain_table.specs.Shapes.{Held, IsEmptyCall, IsInit, IsLink, IsLoad, IsShape, IsShare, IsStore, IsSwap, IsTNew, IsTPub, WithObject, event, external_field, held_next}
use Rattle.table_laws.specs.Steady.{IsDuringPhase}
use Rattle.entry_base.specs.Lists.{Each}
use Rattle.phase_calls.specs.Calls.{linked_at, linked_by, puts_by}

-- an act that a call of a mutator may make
abbrev pub IsCallAct : Act → Type 0
IsCallAct (Below start) = ⊥
IsCallAct (Evac i number) = ⊥
IsCallAct (Scan o) = ⊥
IsCallAct (Start policy) = ⊥
IsCallAct Finish = ⊥
IsCallAct _ = Unit {0}

pub IsDuringPhase-call : (a : Act) → IsCallAct a → IsDuringPhase a
IsDuringPhase-call (Start policy) of_call = absurd of_call
IsDuringPhase-call Finish of_call = absurd of_call
IsDuringPhase-call _ of_call = tt

pub IsCallAct-scan : (a : Act) → IsCallAct a → (o : ℕ) → a ≢ Scan o
IsCallAct-scan a of_call o is = subst IsCallAct is of_call

-- one that links nothing to a reference either, and puts no external cell
abbrev IsPlainAct : Act → Type 0
IsPlainAct (Link (Ref o k) var) = ⊥
IsPlainAct (Put External i tag value) = ⊥
IsPlainAct a = IsCallAct a

abbrev ArePlain : List Event → Type 0
ArePlain es = Each (λ (e : Event). IsPlainAct e.act) es

abbrev pub AreOfCalls : List Event → Type 0
AreOfCalls es = Each (λ (e : Event). IsCallAct e.act) es

-- a call that neither links a reference nor puts an external cell
abbrev IsPlainCall : Op → Type 0
IsPlainCall (op.Link var k target) = ⊥
IsPlainCall (op.Init var f tag value) = ⊥
IsPlainCall _ = Unit {0}

by_object : (held : Held) (var : ℕ) (said : Reply) (es : List Event) (Shape : ℕ → Type 0) → ((o : ℕ) → Shape o → ArePlain es) →
    WithObject held var said es Shape → ArePlain es
by_object held var said es Shape each shape = by (held var) shape
  where
    by : (found : Option ℕ) → MatchOption found (IsEmptyCall said es) Shape → ArePlain es
    by None empty = subst ArePlain (sym empty.1) tt
    by (Some o) there = each o there

load_plain : (b : ℕ) (p : _) (f : Field) (first last : ℕ) (said : Reply) (es : List Event) → IsLoad b p f first last said es → ArePlain es
load_plain b p f first last said es shape = subst ArePlain (sym shape.1) (tt, (tt, tt))

store_plain : (b : ℕ) (f : Field) (first last value : ℕ) (said : Reply) (es : List Event) → IsStore b f first last value said es → ArePlain es
store_plain b f first last value said es shape =
    elim shape.1 [
      | inl miss ↦ subst ArePlain (sym miss.1) (tt, (tt, tt))
      | inr wrote ↦ subst ArePlain (sym wrote.1) (tt, (tt, (tt, tt)))
    ]

swap_plain : (b : ℕ) (f : Field) (first last value : ℕ) (said : Reply) (es : List Event) → IsSwap b f first last value said es → ArePlain es
swap_plain b f first last value said es shape =
    elim shape.1 [
      | inl miss ↦ subst ArePlain (sym miss.1) (tt, (tt, tt))
      | inr wrote ↦ subst ArePlain (sym wrote.1) (tt, (tt, (tt, tt)))
    ]

tnew_plain : (b : ℕ) (ticket : Option ℕ) (f : Field) (tag value : ℕ) (said : Reply) (es : List Event) → IsTNew b ticket f tag value said es → ArePlain es
tnew_plain b (Some i) f tag value said es shape = subst ArePlain (sym shape.1) tt
tnew_plain b None f tag value said es (inl full) = subst ArePlain (sym full.1) (tt, tt)
tnew_plain b None f tag value said es (inr made) = subst ArePlain (sym made.1) (tt, (tt, (tt, tt)))

tpub_plain : (b : ℕ) (ticket : Option ℕ) (f : Field) (said : Reply) (es : List Event) → IsTPub b ticket f said es → ArePlain es
tpub_plain b ticket f said es shape =
    elim shape.1 [
      | inl other ↦ subst ArePlain (sym other.2) (tt, tt)
      | inr own ↦ subst ArePlain (sym own.1) (tt, (tt, tt))
    ]

share_plain : (b : ℕ) (cycle : Option Cycle) (from to : Field) (said : Reply) (es : List Event) → IsShare b cycle from to said es → ArePlain es
share_plain b None from to said es (w, inl null) = subst ArePlain (sym null.2) (tt, tt)
share_plain b None from to said es (w, inr bound) = subst ArePlain (sym bound.1) (tt, (tt, tt))
share_plain b (Some c) from to said es (w, inl null) = subst ArePlain (sym null.2) (tt, tt)
share_plain b (Some c) from to said es (w, inr bound) = subst ArePlain (sym bound.1) (tt, (tt, (tt, tt)))

one : (es : List Event) (e : Event) → IsPlainAct e.act → es ≡ e ∷ [] → ArePlain es
one es e plain is = subst ArePlain (sym is) (plain, tt)

link_global_plain : (b : ℕ) (held : Held) (target : Option ℕ) (g : ℕ) (said : Reply) (es : List Event) →
    IsShape b None held None (op.SetG g target) said es → ArePlain es
link_global_plain b held None g said es shape = one es _ tt shape
link_global_plain b held (Some var) g said es shape = by_object held var said es _ (λ o. one es _ tt) shape

-- one row a call
IsShape-plain : (b : ℕ) (cycle : Option Cycle) (held : Held) (ticket : Option ℕ) (call : Op) (said : Reply) (es : List Event) →
    IsPlainCall call → IsShape b cycle held ticket call said es → ArePlain es
IsShape-plain b cycle held ticket (op.New var) said es plain shape = one es _ tt shape
IsShape-plain b cycle held ticket (op.Drop var) said es plain shape = one es _ tt shape
IsShape-plain b cycle held ticket (op.Link var k target) said es plain shape = absurd plain
IsShape-plain b cycle held ticket (op.Fetch into var k) said es plain shape = by_object held var said es _ (λ o. one es _ tt) shape
IsShape-plain b cycle held ticket (op.SetG g target) said es plain shape = link_global_plain b held target g said es shape
IsShape-plain b cycle held ticket (op.GetG into g) said es plain shape = one es _ tt shape
IsShape-plain b cycle held ticket (op.Init var f tag value) said es plain shape = absurd plain
IsShape-plain b cycle held ticket (op.Load var f first last) said es plain shape =
    by_object held var said es _ (λ o. load_plain b External (external_field o f) first last said es) shape
IsShape-plain b cycle held ticket (op.Store var f first last value) said es plain shape =
    by_object held var said es _ (λ o. store_plain b (external_field o f) first last value said es) shape
IsShape-plain b cycle held ticket (op.Swap var f first last value) said es plain shape =
    by_object held var said es _ (λ o. swap_plain b (external_field o f) first last value said es) shape
IsShape-plain b cycle held ticket (op.Name var f) said es plain shape = by_object held var said es _ (λ o. one es _ tt) shape
IsShape-plain b cycle held ticket (op.Forge var f word) said es plain shape = by_object held var said es _ (λ o. one es _ tt) shape
IsShape-plain b cycle held ticket (op.Raw word first last) said es plain shape = one es _ tt shape
IsShape-plain b cycle held ticket (op.RawSet word first last value) said es plain (inl miss) = one es _ tt miss.1
IsShape-plain b cycle held ticket (op.RawSet word first last value) said es plain (inr wrote) = subst ArePlain (sym wrote.1) (tt, (tt, tt))
IsShape-plain b cycle held ticket (op.TNew var tag value) said es plain shape =
    by_object held var said es _ (λ o. tnew_plain b ticket (field.Trusted o) tag value said es) shape
IsShape-plain b cycle held ticket (op.TPub var) said es plain shape =
    by_object held var said es _ (λ o. tpub_plain b ticket (field.Trusted o) said es) shape
IsShape-plain b cycle held ticket (op.TLoad var first last) said es plain shape =
    by_object held var said es _ (λ o. load_plain b Trusted (field.Trusted o) first last said es) shape
IsShape-plain b cycle held ticket (op.TRaw word first last) said es plain shape = one es _ tt shape
IsShape-plain b cycle held ticket (op.Share from to) said es plain shape =
    by_object held from said es _ (λ o. by_object held to said es _ (λ q. share_plain b cycle (field.Trusted o) (field.Trusted q) said es)) shape

-- what holds of a plain call, of a link and of an init holds of any call
by_call : (P : Op → Type 0) → ((call : Op) → IsPlainCall call → P call) → ((var k : ℕ) (target : Option ℕ) → P (op.Link var k target)) →
    ((var f tag value : ℕ) → P (op.Init var f tag value)) → (call : Op) → P call
by_call P plain link init (op.Link var k target) = link var k target
by_call P plain link init (op.Init var f tag value) = init var f tag value
by_call P plain link init call = plain call tt

-- what holds of no event and of one link holds of the events of a link
link_case : (P : List Event → Type 0) (b : ℕ) (held : Held) (var k : ℕ) (target : Option ℕ) (said : Reply) (es : List Event) → P [] →
    ((o : ℕ) → P (event b (Link (Ref o k) target) said ∷ [])) → IsShape b None held None (op.Link var k target) said es → P es
link_case P b held var k None said es none one shape = by (held var) shape
  where
    by : (found : Option ℕ) → MatchOption found (IsEmptyCall said es) (λ o. IsLink b (Ref o k) None said es) → P es
    by None empty = subst P (sym empty.1) none
    by (Some o) is = subst P (sym is) (one o)
link_case P b held var k (Some t) said es none one shape = by (held var) (held t) shape
  where
    by : (found there : Option ℕ) →
        MatchOption found (IsEmptyCall said es) (λ o. MatchOption there (IsEmptyCall said es) (λ q. IsLink b (Ref o k) (Some t) said es)) → P es
    by None there empty = subst P (sym empty.1) none
    by (Some o) None empty = subst P (sym empty.1) none
    by (Some o) (Some q) is = subst P (sym is) (one o)

-- the events of an init that found an index, after its take
abbrev put_and_bind : ℕ → Field → ℕ → ℕ → ℕ → Reply → List Event
put_and_bind b place i tag value said = event b (Put External i tag value) reply.Ok ∷ event b (Bind place (word_of i)) said ∷ []

-- what holds of no event, of a take that finds the space full, and of a take, a put and a bind, with an abort between or none, holds of
-- the events of an init
init_case : (P : Reply → List Event → Type 0) (b : ℕ) (cycle : Option Cycle) (held : Held) (var f tag value : ℕ) (said : Reply) (es : List Event) →
    P reply.Empty [] → P reply.Full (event b (Take External) reply.Full ∷ []) →
    ((place : Field) (i : ℕ) → P said (event b (Take External) (reply.Index i) ∷ put_and_bind b place i tag value said)) →
    ((place : Field) (i : ℕ) → P said (event b (Take External) (reply.Index i) ∷ event b Abort reply.Ok ∷ put_and_bind b place i tag value said)) →
    IsShape b cycle held None (op.Init var f tag value) said es → P said es
init_case P b cycle held var f tag value said es none full put aborted shape = by (held var) shape
  where
    taken : (place : Field) (i : ℕ) (inside : Bool) →
        es ≡ (event b (Take External) (reply.Index i) ∷ (if inside then event b Abort reply.Ok ∷ [] else []) ++ put_and_bind b place i tag value said) →
        P said es
    taken place i true is = subst (P said) (sym is) (aborted place i)
    taken place i false is = subst (P said) (sym is) (put place i)

    init : (place : Field) → IsInit b cycle place tag value said es → P said es
    init place (inl nothing) = subst₂ P (sym nothing.0) (sym nothing.1) full
    init place (inr (i, is)) = taken place i (is_in_area cycle i) is

    by : (found : Option ℕ) → MatchOption found (IsEmptyCall said es) (λ o. IsInit b cycle (external_field o f) tag value said es) → P said es
    by None empty = subst₂ P (sym empty.0) (sym empty.1) none
    by (Some o) there = init (external_field o f) there

-- the acts

IsCallAct-plain : (a : Act) → IsPlainAct a → IsCallAct a
IsCallAct-plain (Link (Ref o k) var) plain = absurd plain
IsCallAct-plain (Put External i tag value) plain = absurd plain
IsCallAct-plain a plain = plain

AreOfCalls-plain : (es : List Event) → ArePlain es → AreOfCalls es
AreOfCalls-plain [] plain = tt
AreOfCalls-plain (e ∷ es) plain = (IsCallAct-plain e.act plain.0, AreOfCalls-plain es plain.1)

pub IsShape-acts : (b : ℕ) (cycle : Option Cycle) (held : Held) (ticket : Option ℕ) (call : Op) (said : Reply) (es : List Event) →
    IsShape b cycle held ticket call said es → AreOfCalls es
IsShape-acts b cycle held ticket call said es =
    by_call (λ call. IsShape b cycle held ticket call said es → AreOfCalls es)
    (λ call plain shape. AreOfCalls-plain es (IsShape-plain b cycle held ticket call said es plain shape))
    (λ var k target. link_case AreOfCalls b held var k target said es tt (λ o. (tt, tt)))
    (λ var f tag value. init_case (λ said es. AreOfCalls es) b cycle held var f tag value said es tt (tt, tt)
    (λ place i. (tt, (tt, (tt, tt)))) (λ place i. (tt, (tt, (tt, (tt, tt))))))
    call

-- a test that no act of a call passes counts none of their events
pub count_by-calls : (p : Act → Bool) → ((a : Act) → IsCallAct a → p a ≡ false) → (es : List Event) → AreOfCalls es →
    count_by (λ (e : Event). p e.act) es ≡ 0
count_by-calls p fails [] acts = refl
count_by-calls p fails (e ∷ es) acts =
    sum_by-cons (λ (e : Event). if p e.act then 1 else 0) e es
    ∙ ap (λ (n : ℕ). (if p e.act then 1 else 0) + n) (count_by-calls p fails es acts.1)
    ∙ ap (λ (t : Bool). (if t then 1 else 0) + 0) (fails e.act acts.0)

-- what is linked

-- the object that a call links, by what its variables hold before it
abbrev pub linked_between : Option ℕ → Option ℕ → List ℕ
linked_between None q = []
linked_between (Some o) q = option_to_list q

abbrev pub linked_of : Held → Op → List ℕ
linked_of held (op.Link var k (Some target)) = linked_between (held var) (held target)
linked_of held _ = []

linked_at-plain : (held : Held) (a : Act) → IsPlainAct a → linked_at held a ≡ []
linked_at-plain held (Link (Ref o k) var) plain = absurd plain
linked_at-plain held _ plain = refl

linked_by-plain : (held : Held) (es : List Event) → ArePlain es → linked_by held es ≡ []
linked_by-plain held [] plain = refl
linked_by-plain held (e ∷ es) plain =
    ap (λ (xs : List ℕ). xs ++ linked_by (held_next held e.act e.said) es) (linked_at-plain held e.act plain.0)
    ∙ linked_by-plain (held_next held e.act e.said) es plain.1

linked_of-plain : (held : Held) (call : Op) → IsPlainCall call → [] ≡ linked_of held call
linked_of-plain held (op.Link var k target) plain = absurd plain
linked_of-plain held _ plain = refl

link_links : (b : ℕ) (held : Held) (var k : ℕ) (target : Option ℕ) (said : Reply) (es : List Event) →
    IsShape b None held None (op.Link var k target) said es → linked_by held es ≡ linked_of held (op.Link var k target)
link_links b held var k None said es shape = by (held var) shape
  where
    by : (found : Option ℕ) → MatchOption found (IsEmptyCall said es) (λ o. IsLink b (Ref o k) None said es) → linked_by held es ≡ []
    by None empty = ap (linked_by held) empty.1
    by (Some o) is = ap (linked_by held) is
link_links b held var k (Some t) said es shape = by (held var) (held t) refl shape
  where
    by : (found there : Option ℕ) → there ≡ held t →
        MatchOption found (IsEmptyCall said es) (λ o. MatchOption there (IsEmptyCall said es) (λ q. IsLink b (Ref o k) (Some t) said es)) →
        linked_by held es ≡ linked_between found there
    by None there holds empty = ap (linked_by held) empty.1
    by (Some o) None holds empty = ap (linked_by held) empty.1
    by (Some o) (Some q) holds is = ap (linked_by held) is ∙ ap (λ (x : Option ℕ). option_to_list x ++ []) (sym holds)

-- the events of a shape link what the call does
pub linked_by-shape : (b : ℕ) (cycle : Option Cycle) (held : Held) (ticket : Option ℕ) (call : Op) (said : Reply) (es : List Event) →
    IsShape b cycle held ticket call said es → linked_by held es ≡ linked_of held call
linked_by-shape b cycle held ticket call said es =
    by_call (λ call. IsShape b cycle held ticket call said es → linked_by held es ≡ linked_of held call)
    (λ call plain shape. linked_by-plain held es (IsShape-plain b cycle held ticket call said es plain shape) ∙ linked_of-plain held call plain)
    (λ var k target shape. link_links b held var k target said es shape)
    (λ var f tag value. init_case (λ said es. linked_by held es ≡ []) b cycle held var f tag value said es refl refl (λ place i. refl) (λ place i. refl))
    call

-- what is put

-- a bind says ok or taken
abbrev pub SaysBind : Act → Reply → Type 0
SaysBind (Bind f word) said = (said ≡ reply.Ok) ⊎ ((found : ℕ) × (said ≡ reply.Taken found))
SaysBind _ said = Unit {0}

abbrev pub BindsSay : Event → Type 0
BindsSay e = SaysBind e.act e.said

-- how many events put an external cell
abbrev pub puts_in : List Event → ℕ
puts_in es = count_by (λ (e : Event). is_external_put e.act) es

is_external_put-plain : (a : Act) → IsPlainAct a → is_external_put a ≡ false
is_external_put-plain (Link (Ref o k) var) plain = absurd plain
is_external_put-plain (Put External i tag value) plain = absurd plain
is_external_put-plain _ plain = refl

puts_in-plain : (es : List Event) → ArePlain es → puts_in es ≡ 0
puts_in-plain [] plain = refl
puts_in-plain (e ∷ es) plain =
    sum_by-cons (λ (e : Event). if is_external_put e.act then 1 else 0) e es
    ∙ ap (λ (n : ℕ). (if is_external_put e.act then 1 else 0) + n) (puts_in-plain es plain.1)
    ∙ ap (λ (t : Bool). (if t then 1 else 0) + 0) (is_external_put-plain e.act plain.0)

puts_by-plain : (call : Op) (said : Reply) → IsPlainCall call → 0 ≡ puts_by call said
puts_by-plain (op.Init var f tag value) said plain = absurd plain
puts_by-plain _ said plain = refl

-- an init that found an index ends with a bind, which says ok or taken
bind_puts : (var f tag value : ℕ) (said : Reply) → (said ≡ reply.Ok) ⊎ ((found : ℕ) × (said ≡ reply.Taken found)) →
    1 ≡ puts_by (op.Init var f tag value) said
bind_puts var f tag value said (inl ok) = ap (puts_by (op.Init var f tag value)) (sym ok)
bind_puts var f tag value said (inr (found, taken)) = ap (puts_by (op.Init var f tag value)) (sym taken)

-- the events of a shape put what the call does, by its reply
pub puts_in-shape : (b : ℕ) (cycle : Option Cycle) (held : Held) (ticket : Option ℕ) (call : Op) (said : Reply) (es : List Event) →
    Each BindsSay es → IsShape b cycle held ticket call said es → puts_in es ≡ puts_by call said
puts_in-shape b cycle held ticket call said es says =
    by_call (λ call. IsShape b cycle held ticket call said es → puts_in es ≡ puts_by call said)
    (λ call plain shape. puts_in-plain es (IsShape-plain b cycle held ticket call said es plain shape) ∙ puts_by-plain call said plain)
    (λ var k target. link_case (λ es. puts_in es ≡ 0) b held var k target said es refl (λ o. refl))
    (λ var f tag value shape. init_case (λ said es. Each BindsSay es → puts_in es ≡ puts_by (op.Init var f tag value) said) b cycle held var f tag value said es
    (λ says. refl) (λ says. refl) (λ place i says. bind_puts var f tag value said says.1.1.0) (λ place i says. bind_puts var f tag value said says.1.1.1.0) shape says)
    call
