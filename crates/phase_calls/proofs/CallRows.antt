-- What the events of calls one after another are: the acts of calls, and the external cells that they put, by their replies.
use Rattle.std.proofs.Common.{◌≡◌, ℕ, suc, ◌+◌, List, [], ◌∷◌, ◌++◌, length, Option, refl, sym, ap, subst, ◌∙◌, ◌⊎◌, inl, inr, arith}
use Rattle.std.specs.Prelude.{if◌then◌else◌}
use Rattle.std.proofs.lemmas.List.Sums.{sum_by-append}
use Rattle.plain_table.specs.declared.scripts.Op.{Op}
use Rattle.plain_table.specs.declared.events.Event.{Event}
use Rattle.plain_table.specs.declared.reports.Reply.{Reply}
use Rattle.plain_table.specs.Belongs.{is_external_put}
use Rattle.plain_table.specs.Cycle.{Cycle}
use Rattle.plain_table.specs.Shapes.{Held, MakesCalls, OwnTicket, held_after, own_after}
use Rattle.entry_base.specs.Lists.{Each}
use Rattle.entry_base.proofs.Sums.{each_append, each_last}
use Rattle.phase_calls.specs.Calls.{puts_by, puts_of}
use Rattle.phase_calls.proofs.ShapeEvents.{AreOfCalls, BindsSay, IsCallAct, IsShape-acts, puts_in, puts_in-shape}

each_first : (P : Event → Type 0) (es fs : List Event) → Each P (es ++ fs) → Each P es
each_first P [] fs each = tt
each_first P (e ∷ es) fs each = (each.0, each_first P es fs each.1)

pub puts_in-append : (es fs : List Event) → puts_in (es ++ fs) ≡ puts_in es + puts_in fs
puts_in-append es fs = sum_by-append (λ (e : Event). if is_external_put e.act then 1 else 0) es fs

-- each event is of an act of calls: none is a scan, and none starts or finishes a cycle
pub MakesCalls-acts : (b : ℕ) (cycle : Option Cycle) (held : Held) (own : OwnTicket) (calls : List Op) (replies : List Reply) (es : List Event) →
    MakesCalls b cycle held own calls replies es → AreOfCalls es
MakesCalls-acts b cycle held own [] [] es made = subst AreOfCalls (sym made) tt
MakesCalls-acts b cycle held own [] (said ∷ replies) es made = absurd made
MakesCalls-acts b cycle held own (call ∷ calls) [] es made = absurd made
MakesCalls-acts b cycle held own (call ∷ calls) (said ∷ replies) es made =
    subst AreOfCalls (sym made.2)
    (each_append (λ (e : Event). IsCallAct e.act) made.0 made.1 (IsShape-acts b cycle held own.ticket call said made.0 made.3)
    (MakesCalls-acts b cycle (held_after held made.0) (own_after own made.0) calls replies made.1 made.4))

-- the external cells that were put are those of the replies
pub MakesCalls-puts : (b : ℕ) (cycle : Option Cycle) (held : Held) (own : OwnTicket) (calls : List Op) (replies : List Reply) (es : List Event) →
    Each BindsSay es → MakesCalls b cycle held own calls replies es → puts_in es ≡ puts_of calls replies
MakesCalls-puts b cycle held own [] [] es says made = ap puts_in made
MakesCalls-puts b cycle held own [] (said ∷ replies) es says made = absurd made
MakesCalls-puts b cycle held own (call ∷ calls) [] es says made = absurd made
MakesCalls-puts b cycle held own (call ∷ calls) (said ∷ replies) es says made =
    let each = subst (Each BindsSay) made.2 says in
    ap puts_in made.2 ∙ puts_in-append made.0 made.1
    ∙ ap (λ (n : ℕ). n + puts_in made.1) (puts_in-shape b cycle held own.ticket call said made.0 (each_first BindsSay made.0 made.1 each) made.3)
    ∙ ap (λ (n : ℕ). puts_by call said + n)
    (MakesCalls-puts b cycle (held_after held made.0) (own_after own made.0) calls replies made.1 (each_last BindsSay made.0 made.1 each) made.4)

-- each call has its reply
pub MakesCalls-length : (b : ℕ) (cycle : Option Cycle) (held : Held) (own : OwnTicket) (calls : List Op) (replies : List Reply) (es : List Event) →
    MakesCalls b cycle held own calls replies es → length replies ≡ length calls
MakesCalls-length b cycle held own [] [] es made = refl
MakesCalls-length b cycle held own [] (said ∷ replies) es made = absurd made
MakesCalls-length b cycle held own (call ∷ calls) [] es made = absurd made
MakesCalls-length b cycle held own (call ∷ calls) (said ∷ replies) es made =
    ap suc (MakesCalls-length b cycle (held_after held made.0) (own_after own made.0) calls replies made.1 made.4)

-- the puts of two lists that begin with a call and its reply, and of two of which one is empty
pub puts_of-cons : (calls later : List Op) (replies rest : List Reply) (call : Op) (said : Reply) → calls ≡ call ∷ later → replies ≡ said ∷ rest →
    puts_of calls replies ≡ puts_by call said + puts_of later rest
puts_of-cons calls later replies rest call said begins answers =
    ap (λ (cs : List Op). puts_of cs replies) begins ∙ ap (λ (rs : List Reply). puts_of (call ∷ later) rs) answers

pub puts_of-end : (calls : List Op) (replies : List Reply) → (length calls ≡ 0) ⊎ (length replies ≡ 0) → puts_of calls replies ≡ 0
puts_of-end [] replies none = refl
puts_of-end (call ∷ calls) [] none = refl
puts_of-end (call ∷ calls) (said ∷ replies) (inl none) = absurd (omega (arith, none))
puts_of-end (call ∷ calls) (said ∷ replies) (inr none) = absurd (omega (arith, none))
