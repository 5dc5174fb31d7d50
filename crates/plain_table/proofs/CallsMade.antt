-- Histories, variables, tickets and calls that go on: one list of events after another.
use Rattle.std.proofs.Common.{◌≡◌, ℕ, List, [], ◌∷◌, ◌++◌, Option, refl, sym, ◌∙◌, ap, subst, append_assoc}
use Rattle.plain_table.specs.declared.scripts.Op.{Op}
use Rattle.plain_table.specs.declared.reports.Reply.{Reply}
use Rattle.plain_table.specs.declared.events.Event.{Event}
use Rattle.plain_table.specs.Cycle.{Cycle}
use Rattle.plain_table.specs.Table.{Table}
use Rattle.plain_table.specs.History.{IsLegalHistory, after, next}
use Rattle.plain_table.specs.Shapes.{Held, IsShape, MakesCalls, OwnTicket, held_after, held_next, own_after, own_next}

-- a history after another one
pub after-append : (s : Table) (es fs : List Event) → after s (es ++ fs) ≡ after (after s es) fs
after-append s [] fs = refl
after-append s (e ∷ es) fs = after-append (next s e) es fs

pub IsLegalHistory-append : (s : Table) (es fs : List Event) → IsLegalHistory s es → IsLegalHistory (after s es) fs → IsLegalHistory s (es ++ fs)
IsLegalHistory-append s [] fs first second = second
IsLegalHistory-append s (e ∷ es) fs first second = (first.0, IsLegalHistory-append (next s e) es fs first.1 second)

pub held_after-append : (held : Held) (es fs : List Event) → held_after held (es ++ fs) ≡ held_after (held_after held es) fs
held_after-append held [] fs = refl
held_after-append held (e ∷ es) fs = held_after-append (held_next held e.act e.said) es fs

pub own_after-append : (own : OwnTicket) (es fs : List Event) → own_after own (es ++ fs) ≡ own_after (own_after own es) fs
own_after-append own [] fs = refl
own_after-append own (e ∷ es) fs = own_after-append (own_next own e.act e.said) es fs

append_nothing : (es : List Event) → es ≡ es ++ []
append_nothing [] = refl
append_nothing (e ∷ es) = ap (λ (more : List Event). e ∷ more) (append_nothing es)

-- calls and then calls, from the variables and the ticket that the first ones left
pub MakesCalls-append : (b : ℕ) (cycle : Option Cycle) (held : Held) (own : OwnTicket) (calls more : List Op) (replies others : List Reply)
    (es fs : List Event) → MakesCalls b cycle held own calls replies es →
    MakesCalls b cycle (held_after held es) (own_after own es) more others fs →
    MakesCalls b cycle held own (calls ++ more) (replies ++ others) (es ++ fs)
MakesCalls-append b cycle held own [] more [] others es fs made then_made =
    subst (λ (before : List Event). MakesCalls b cycle held own more others (before ++ fs)) (sym made)
    (subst (λ (before : List Event). MakesCalls b cycle (held_after held before) (own_after own before) more others fs) made then_made)
MakesCalls-append b cycle held own [] more (r ∷ replies) others es fs made then_made = absurd made
MakesCalls-append b cycle held own (c ∷ calls) more [] others es fs made then_made = absurd made
MakesCalls-append b cycle held own (c ∷ calls) more (r ∷ replies) others es fs made then_made =
    let first = made.0 in
    let later = made.1 in (
      first,
      later ++ fs,
      ap (λ (before : List Event). before ++ fs) made.2 ∙ append_assoc first later fs,
      made.3,
      MakesCalls-append b cycle (held_after held first) (own_after own first) calls more replies others later fs made.4
          (subst (λ (h : Held). MakesCalls b cycle h (own_after (own_after own first) later) more others fs)
          (ap (held_after held) made.2 ∙ held_after-append held first later)
          (subst (λ (t : OwnTicket). MakesCalls b cycle (held_after held es) t more others fs)
          (ap (own_after own) made.2 ∙ own_after-append own first later) then_made)),
    )

-- one call more
pub MakesCalls-push : (b : ℕ) (cycle : Option Cycle) (held : Held) (own : OwnTicket) (calls : List Op) (replies : List Reply)
    (es : List Event) (call : Op) (said : Reply) (fs : List Event) → MakesCalls b cycle held own calls replies es →
    IsShape b cycle (held_after held es) (own_after own es).ticket call said fs →
    MakesCalls b cycle held own (calls ++ call ∷ []) (replies ++ said ∷ []) (es ++ fs)
MakesCalls-push b cycle held own calls replies es call said fs made shape =
    MakesCalls-append b cycle held own calls (call ∷ []) replies (said ∷ []) es fs made (fs, [], append_nothing fs, shape, refl)
