-- What the code of a cycle's events found and set makes the event's step.
use Rattle.std.proofs.Common.{◌≡◌, ℕ, Bool, true, false, Option, Some, None, subst, ◌∙◌, ap, IsTrue}
use Rattle.std.specs.Prelude.{◌↔◌, IsSomeAnd}
use Rattle.plain_table.specs.declared.events.Act.TheVariants.{Abort, Mark, Evac, Scan}
use Rattle.plain_table.specs.declared.events.Space.{Space}
use Rattle.plain_table.specs.declared.events.Space.TheVariants.{External}
use Rattle.plain_table.specs.declared.reports.Reply.{Reply}
use Rattle.plain_table.specs.declared.reports.Reply.TheVariants as reply
use Rattle.plain_table.specs.Places.{put_claim}
use Rattle.plain_table.specs.Cycle.{start_in, marked_in, scanned_in, evacuated_in, aborted_in}
use Rattle.plain_table.specs.Table.{Table}
use Rattle.plain_table.specs.Rows.{row, free_below}
use Rattle.plain_table.specs.declared.events.Event.{Event}
use Rattle.plain_table.specs.History.{IsLegal}
use Rattle.plain_table.specs.Shapes.{event}
use Rattle.plain_program.specs.Kept.{Kept, shown}
use Rattle.plain_program.specs.Steps.{Steps}

pub makes_abort : (old new : Kept) (b start : ℕ) (said : Reply) → Some start ≡ start_in (shown old).cycle → free_below (shown old) start ≡ None → said ≡ reply.Ok →
    shown new ≡ record (shown old) { cycle = aborted_in (shown old).cycle } → new.spent ≡ old.spent → Steps true old new (event b Abort said)
makes_abort old new b start said area none is e s =
    ((subst (λ (found : Option ℕ). IsSomeAnd found (λ first. free_below (shown old) first ≡ None)) area none, is), e, s)

pub makes_mark : (old new : Kept) (b : ℕ) (p : Space) (i : ℕ) (said : Reply) → (row (shown old) b (Mark p i)).allowed → said ≡ reply.Ok →
    shown new ≡ record (shown old) { cycle = marked_in (shown old).cycle p i } → new.spent ≡ old.spent → Steps true old new (event b (Mark p i) said)
makes_mark old new b p i said allowed is e s = ((allowed, is), e, s)

pub makes_evac : (old mid new : Kept) (b i number : ℕ) (said : Reply) → (row (shown old) b (Evac i number)).allowed → said ≡ reply.Ok →
    shown mid ≡ record (shown old) { owed = put_claim (shown old).owed b External i false } →
    shown new ≡ record (shown mid) { cycle = evacuated_in (shown mid).cycle i number } →
    mid.spent ≡ old.spent → new.spent ≡ mid.spent → Steps true old new (event b (Evac i number) said)
makes_evac old mid new b i number said allowed is e1 e2 s1 s2 =
    ((allowed, is), e2 ∙ ap (λ (t : Table). record t { cycle = evacuated_in t.cycle i number }) e1, s2 ∙ s1)

pub makes_scan : (old new : Kept) (b o : ℕ) (said : Reply) → (row (shown old) b (Scan o)).allowed → said ≡ reply.Ok →
    shown new ≡ record (shown old) { cycle = scanned_in (shown old).cycle o } → new.spent ≡ old.spent → Steps true old new (event b (Scan o) said)
makes_scan old new b o said allowed is e s = ((allowed, is), e, s)

-- an event that the code's test does not allow
pub IsLegal-refuted : (s : Table) (e : Event) (test : Bool) → IsTrue test ↔ (row s e.by e.act).allowed → test ≡ false → IsLegal s e → ⊥
IsLegal-refuted s e test says fails legal = let may : test ≡ true = says.1 legal.0 in absurd (cc)
