-- The variables of a mutator after a legal history are those that its own events leave; so what a history links to references is
-- what the events of each mutator link.
use Rattle.std.proofs.Common.{◌≡◌, ◌≢◌, ℕ, zero, suc, ◌==◌, Bool, true, false, nat_lt, List, [], ◌∷◌, ◌++◌, Option, Some, None, refl, sym, ap, subst, ◌∙◌, inl, inr, arith}
use Rattle.std.specs.Prelude.{◌⊎◌, ◌&&◌, if◌then◌else◌}
use Rattle.std.specs.List.{Contains}
use Rattle.std.specs.Option.{option_map_or, option_to_list}
use Rattle.std.proofs.lemmas.Bool.Decides.{eqb_tells}
use Rattle.std.proofs.lemmas.List.Elements.{All-head, All-tail}
use Rattle.plain_table.specs.declared.events.Act.{Act}
use Rattle.plain_table.specs.declared.events.Act.TheVariants.{New, Drop, Get, Link, Take, Below, Bind, Start, Finish}
use Rattle.plain_table.specs.declared.events.Event.{Event}
use Rattle.plain_table.specs.declared.events.Field.{Field}
use Rattle.plain_table.specs.declared.events.Space.TheVariants.{External}
use Rattle.plain_table.specs.declared.events.Spot.TheVariants.{Global, Ref}
use Rattle.plain_table.specs.declared.reports.Reply.{Reply}
use Rattle.plain_table.specs.declared.reports.Reply.TheVariants as reply
use Rattle.plain_table.specs.Belongs.{LinkNoReference, events_by}
use Rattle.plain_table.specs.Places.{put_at, put_pair}
use Rattle.plain_table.specs.Table.{Table, least_free}
use Rattle.plain_table.specs.Rows.{at_spot, free_below, object_in, row, with_bound, with_object, with_taken, with_unbound}
use Rattle.plain_table.specs.History.{IsLegal, IsLegalHistory, next}
use Rattle.plain_table.specs.Scans.{Scanner, Scans, Makes as Scanning, Ends, Others, Turn, Make, Marks, Takes, Fills, Fails, Aborts, Says}
use Rattle.plain_table.specs.Shapes.{Held, held_next}
use Rattle.plain_table.specs.Sound.{IsSound}
use Rattle.plain_table.specs.Sweeps.{linked_after, linked_next}
use Rattle.table_laws.specs.Steady.{IsDuringPhase}
use Rattle.table_laws.proofs.Soundness.{events-sound}
use Rattle.table_laws.proofs.Steadiness.{events-steady}
use Rattle.entry_base.specs.Lists.{Each, Has}
use Rattle.entry_base.proofs.Sums.{has_append}
use Rattle.phase_calls.specs.Calls.{linked_at, linked_by}

put_pair-own : (vars : ℕ → Held) (b var : ℕ) (x : Option ℕ) → put_at (vars b) var x ≡ put_pair vars b var x b
put_pair-own vars b var x = elim (eqb_tells b b) [
  | inl t ↦ ap (λ (own : Bool). λ (i : ℕ). if own && (var == i) then x else vars b i) (sym t.0)
  | inr t ↦ absurd (t.1 refl)
]

-- a mutator's variables after its own event
held_next-row : (s : Table) (b : ℕ) (a : Act) (said : Reply) → IsLegal s (record { by = b; act = a; said = said }) → IsDuringPhase a →
    held_next (s.vars b) a said ≡ (row s b a).next.vars b
held_next-row s b (New var) said legal during = ap (held_next (s.vars b) (New var)) legal.1 ∙ by (nat_lt s.count s.sizes.objects)
  where
    by : (room : Bool) → held_next (s.vars b) (New var) (if room then reply.Obj s.count else reply.HeapFull) ≡ (if room then with_object s b var else s).vars b
    by true = put_pair-own s.vars b var (Some s.count)
    by false = refl
held_next-row s b (Drop var) said legal during = put_pair-own s.vars b var None
held_next-row s b (Get var spot) said legal during = ap (held_next (s.vars b) (Get var spot)) legal.1 ∙ by (at_spot s spot)
  where
    by : (x : Option ℕ) → held_next (s.vars b) (Get var spot) (option_map_or reply.Obj x reply.Nothing) ≡ put_pair s.vars b var x b
    by None = put_pair-own s.vars b var None
    by (Some o) = put_pair-own s.vars b var (Some o)
held_next-row s b (Link (Global g) var) said legal during = refl
held_next-row s b (Link (Ref o k) var) said legal during = refl
held_next-row s b (Take p) said legal during = by (least_free s p)
  where
    by : (found : Option ℕ) → s.vars b ≡ (with_taken s b p found).vars b
    by None = refl
    by (Some i) = refl
held_next-row s b (Below start) said legal during = by (free_below s start)
  where
    by : (found : Option ℕ) → s.vars b ≡ (with_taken s b External found).vars b
    by None = refl
    by (Some i) = refl
held_next-row s b (Bind f word) said legal during = by (s.words f == 0)
  where
    by : (none : Bool) → s.vars b ≡ (if none then with_bound s b f word else with_unbound s b f word).vars b
    by true = refl
    by false = refl
held_next-row s b (Start policy) said legal during = absurd during
held_next-row s b Finish said legal during = absurd during
held_next-row s b _ said legal during = refl

-- and after another number's
others_held : (s : Table) (e : Event) (b : ℕ) → IsSound s → IsLegal s e → IsDuringPhase e.act → e.by ≢ b → (next s e).vars b ≡ s.vars b
others_held s e b sound legal during other = λ i v. (events-steady s e sound legal during).others.variables b v (λ same. other (sym same)) i

-- an element of a list, by its place and by its beginning
pub Has-contains : {A : Type 0} (xs : List A) (x : A) → Contains xs x → Has xs x
Has-contains [] x (k, low, is) = absurd (omega (arith, low))
Has-contains (y ∷ ys) x (zero, low, is) = inl is
Has-contains (y ∷ ys) x (suc k, low, is) = inr (Has-contains ys x (k, omega (arith, low), is))

pub Contains-has : {A : Type 0} (xs : List A) (x : A) → Has xs x → Contains xs x
Contains-has (y ∷ ys) x (inl is) = (0, omega arith, is)
Contains-has (y ∷ ys) x (inr there) = let rest = Contains-has ys x there in let low = rest.1 in (suc rest.0, omega (arith, low), rest.2)
Contains-has [] x there = absurd there

-- of two lists, the one that has it
pub Has-append_cases : (xs ys : List ℕ) (x : ℕ) → Has (xs ++ ys) x → Has xs x ⊎ Has ys x
Has-append_cases [] ys x there = inr there
Has-append_cases (y ∷ xs) ys x (inl is) = inl (inl is)
Has-append_cases (y ∷ xs) ys x (inr there) = elim (Has-append_cases xs ys x there) [
  | inl first ↦ inl (inr first)
  | inr second ↦ inr second
]

pub Has-append_left : (xs ys : List ℕ) (x : ℕ) → Has xs x → Has (xs ++ ys) x
Has-append_left (y ∷ xs) ys x (inl is) = inl is
Has-append_left (y ∷ xs) ys x (inr there) = inr (Has-append_left xs ys x there)
Has-append_left [] ys x there = absurd there

-- what an event links was linked before or is what its mutator links
linked_next-row : (s : Table) (b : ℕ) (a : Act) (linked : List ℕ) (o : ℕ) → Has (linked_next s b a linked) o → IsDuringPhase a →
    Has linked o ⊎ Has (linked_at (s.vars b) a) o
linked_next-row s b (Link (Global g) var) linked o there during = inl there
linked_next-row s b (Link (Ref object k) None) linked o there during = inl there
linked_next-row s b (Link (Ref object k) (Some var)) linked o there during =
    elim (Has-append_cases (option_to_list (s.vars b var)) linked o there) [
      | inl new ↦ inr new
      | inr old ↦ inl old
    ]
linked_next-row s b (Start policy) linked o there during = absurd during
linked_next-row s b _ linked o there during = inl there

-- what an event's mutator linked, among the events of each number
first_links : (s : Table) (e : Event) (es : List Event) (o : ℕ) → Has (linked_at (s.vars e.by) e.act) o → Has (linked_by (s.vars e.by) (events_by e.by (e ∷ es))) o
first_links s e es o there = elim (eqb_tells e.by e.by) [
  | inl t ↦ subst (λ (own : Bool). Has (linked_by (s.vars e.by) (if own then e ∷ events_by e.by es else events_by e.by es)) o) (sym t.0)
      (Has-append_left (linked_at (s.vars e.by) e.act) _ o there)
  | inr t ↦ absurd (t.1 refl)
]

-- what was linked later by a number, from the variables that the event leaves it
later_links : (s : Table) (e : Event) (es : List Event) (b o : ℕ) → IsSound s → IsLegal s e → IsDuringPhase e.act →
    Has (linked_by ((next s e).vars b) (events_by b es)) o → Has (linked_by (s.vars b) (events_by b (e ∷ es))) o
later_links s e es b o sound legal during there = elim (eqb_tells e.by b) [
  | inl t ↦
      subst (λ (own : Bool). Has (linked_by (s.vars b) (if own then e ∷ events_by b es else events_by b es)) o) (sym t.0)
      (has_append (linked_at (s.vars b) e.act) _ o
      (subst (λ (held : Held). Has (linked_by held (events_by b es)) o)
      (sym (subst (λ (n : ℕ). held_next (s.vars n) e.act e.said ≡ (next s e).vars n) t.1 (held_next-row s e.by e.act e.said legal during))) there))
  | inr t ↦
      subst (λ (own : Bool). Has (linked_by (s.vars b) (if own then e ∷ events_by b es else events_by b es)) o) (sym t.0)
      (subst (λ (held : Held). Has (linked_by held (events_by b es)) o)
      (others_held s e b sound legal during t.1) there)
]

-- what is linked after a history was linked before, or is linked by the events of some number
pub linked_after-members : (s : Table) (linked : List ℕ) (es : List Event) (o : ℕ) → IsSound s → IsLegalHistory s es →
    Each (λ (e : Event). IsDuringPhase e.act) es → Has (linked_after s linked es) o →
    Has linked o ⊎ ((b : ℕ) × Has (linked_by (s.vars b) (events_by b es)) o)
linked_after-members s linked [] o sound legal during there = inl there
linked_after-members s linked (e ∷ es) o sound legal during there =
    elim (linked_after-members (next s e) (linked_next s e.by e.act linked) es o (events-sound s e sound legal.0) legal.1 during.1 there) [
      | inl before ↦ elim (linked_next-row s e.by e.act linked o before during.0) [
        | inl old ↦ inl old
        | inr new ↦ inr (e.by, first_links s e es o new)
      ]
      | inr later ↦ inr (later.0, later_links s e es later.0 o sound legal.0 during.0 later.1)
    ]

linked_next-none : (s : Table) (b : ℕ) (a : Act) → ((o k : ℕ) (var : Option ℕ) → a ≢ Link (Ref o k) var) → linked_next s b a [] ≡ []
linked_next-none s b (Link (Ref o k) var) none = absurd (none o k var refl)
linked_next-none s b _ none = refl

-- an event that links no reference
abbrev pub IsLinkless : Event → Type 0
IsLinkless e = (o k : ℕ) (var : Option ℕ) → e.act ≢ Link (Ref o k) var

-- where no event links a reference nothing is linked
pub linked_after-none : (s : Table) (es : List Event) → LinkNoReference es → linked_after s [] es ≡ []
linked_after-none s [] none = refl
linked_after-none s (e ∷ es) none =
    ap (λ (linked : List ℕ). linked_after (next s e) linked es) (linked_next-none s e.by e.act (All-head IsLinkless e es none))
    ∙ linked_after-none (next s e) es (All-tail IsLinkless e es none)

-- what was linked stays linked in a phase
linked_next-keeps : (s : Table) (b : ℕ) (a : Act) (linked : List ℕ) (o : ℕ) → IsDuringPhase a → Has linked o → Has (linked_next s b a linked) o
linked_next-keeps s b (Link (Ref object k) target) linked o during there = has_append (option_to_list (object_in s b target)) linked o there
linked_next-keeps s b (Start policy) linked o during there = absurd during
linked_next-keeps s b _ linked o during there = there

linked_after-keeps : (s : Table) (linked : List ℕ) (es : List Event) (o : ℕ) → Each (λ (e : Event). IsDuringPhase e.act) es → Has linked o →
    Has (linked_after s linked es) o
linked_after-keeps s linked [] o during there = there
linked_after-keeps s linked (e ∷ es) o during there =
    linked_after-keeps (next s e) (linked_next s e.by e.act linked) es o during.1 (linked_next-keeps s e.by e.act linked o during.0 there)

linked_next-has : (s : Table) (b : ℕ) (a : Act) (linked : List ℕ) (o : ℕ) → Has (linked_at (s.vars b) a) o → Has (linked_next s b a linked) o
linked_next-has s b (Link (Ref object k) (Some var)) linked o there = Has-append_left (option_to_list (s.vars b var)) linked o there
linked_next-has s b (Link (Ref object k) None) linked o there = absurd there
linked_next-has s b _ linked o there = absurd there

-- a number's events begin with an event, or it is another's
events_by-split : (s : Table) (e : Event) (es : List Event) (b o : ℕ) → IsSound s → IsLegal s e → IsDuringPhase e.act →
    Has (linked_by (s.vars b) (events_by b (e ∷ es))) o →
    Has (linked_at (s.vars e.by) e.act) o ⊎ Has (linked_by ((next s e).vars b) (events_by b es)) o
events_by-split s e es b o sound legal during there = elim (eqb_tells e.by b) [
  | inl t ↦
      let both = subst (λ (own : Bool). Has (linked_by (s.vars b) (if own then e ∷ events_by b es else events_by b es)) o) t.0 there in
      elim (Has-append_cases (linked_at (s.vars b) e.act) (linked_by (held_next (s.vars b) e.act e.said) (events_by b es)) o both) [
        | inl now ↦ inl (subst (λ (n : ℕ). Has (linked_at (s.vars n) e.act) o) (sym t.1) now)
        | inr later ↦ inr (subst (λ (held : Held). Has (linked_by held (events_by b es)) o)
            (subst (λ (n : ℕ). held_next (s.vars n) e.act e.said ≡ (next s e).vars n) t.1 (held_next-row s e.by e.act e.said legal during)) later)
      ]
  | inr t ↦
      let rest = subst (λ (own : Bool). Has (linked_by (s.vars b) (if own then e ∷ events_by b es else events_by b es)) o) t.0 there in
      inr (subst (λ (held : Held). Has (linked_by held (events_by b es)) o)
      (sym (others_held s e b sound legal during t.1)) rest)
]

-- what the events of a number link is linked after the history
pub linked_after-has : (s : Table) (linked : List ℕ) (es : List Event) (b o : ℕ) → IsSound s → IsLegalHistory s es →
    Each (λ (e : Event). IsDuringPhase e.act) es → Has (linked_by (s.vars b) (events_by b es)) o → Has (linked_after s linked es) o
linked_after-has s linked [] b o sound legal during there = absurd there
linked_after-has s linked (e ∷ es) b o sound legal during there =
    elim (events_by-split s e es b o sound legal.0 during.0 there) [
      | inl now ↦ linked_after-keeps (next s e) (linked_next s e.by e.act linked) es o during.1 (linked_next-has s e.by e.act linked o now)
      | inr later ↦ linked_after-has (next s e) (linked_next s e.by e.act linked) es b o (events-sound s e sound legal.0) legal.1 during.1 later
    ]

linked_at-none : (held : Held) (a : Act) → ((o k : ℕ) (var : Option ℕ) → a ≢ Link (Ref o k) var) → linked_at held a ≡ []
linked_at-none held (Link (Ref o k) var) none = absurd (none o k var refl)
linked_at-none held _ none = refl

-- events that link no reference link nothing
pub linked_by-none : (held : Held) (es : List Event) → Each IsLinkless es → linked_by held es ≡ []
linked_by-none held [] none = refl
linked_by-none held (e ∷ es) none =
    ap (λ (xs : List ℕ). xs ++ linked_by (held_next held e.act e.said) es) (linked_at-none held e.act none.0)
    ∙ linked_by-none (held_next held e.act e.said) es none.1

-- and so do those of a number that scans
Each-events_by-cons : (b : ℕ) (e : Event) (es : List Event) → IsLinkless e → Each IsLinkless (events_by b es) → Each IsLinkless (events_by b (e ∷ es))
Each-events_by-cons b e es none rest = by (e.by == b)
  where
    by : (own : Bool) → Each IsLinkless (if own then e ∷ events_by b es else events_by b es)
    by true = (none, rest)
    by false = rest

IsLinkless-scans : (read : Table → Field → ℕ → Type 0) (b : ℕ) (s : Table) (e : Event) (at to : Scanner) → Scanning read b s e at to → IsLinkless e
IsLinkless-scans read b s _ _ _ (Marks o f w fields is) = λ o k var e. absurd (cc)
IsLinkless-scans read b s _ _ _ (Takes o number w start i fields is) = λ o k var e. absurd (cc)
IsLinkless-scans read b s _ _ _ (Fills o number i fields) = λ o k var e. absurd (cc)
IsLinkless-scans read b s _ _ _ (Fails o number w start fields is) = λ o k var e. absurd (cc)
IsLinkless-scans read b s _ _ _ (Aborts o fields) = λ o k var e. absurd (cc)
IsLinkless-scans read b s _ _ _ (Says o) = λ o k var e. absurd (cc)

pub IsLinkless-by_scans : (may : Table → ℕ → Type 0) (read : Table → Field → ℕ → Type 0) (b : ℕ) (at : Scanner) (s : Table) (es : List Event) (to : Scanner) →
    Scans may read b at s es to → Each IsLinkless (events_by b es)
IsLinkless-by_scans may read b _ _ _ _ (Ends at s) = tt
IsLinkless-by_scans may read b _ _ _ _ (Others at s e es to other scans) = elim (eqb_tells e.by b) [
  | inl t ↦ absurd (other t.1)
  | inr t ↦ subst (λ (own : Bool). Each IsLinkless (if own then e ∷ events_by b es else events_by b es)) (sym t.0) (IsLinkless-by_scans may read b at (next s e) es to scans)
]
IsLinkless-by_scans may read b _ _ _ _ (Turn at mid s es to turn scans) = IsLinkless-by_scans may read b mid s es to scans
IsLinkless-by_scans may read b _ _ _ _ (Make at mid s e es to own makes scans) =
    Each-events_by-cons b e es (IsLinkless-scans read b s e at mid makes) (IsLinkless-by_scans may read b mid (next s e) es to scans)
