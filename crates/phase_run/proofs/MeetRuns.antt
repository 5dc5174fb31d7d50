-- The start of a cycle at a meet, and the pause and the finish of one.
use Rattle.std.proofs.Common.{◌≡◌, ℕ, ◌+◌, Bool, true, false, List, [], ◌∷◌, ◌++◌, Option, Some, None, refl, sym, ◌∙◌, ap, subst, arith, slice_index, eq-eqb, ne_eqb}
use Rattle.std.specs.Prelude.{if◌then◌else◌, IfSome, IsSomeAnd, IsTrue}
use Rattle.std.specs.List.{AllByRecursion}
use Rattle.std.proofs.lemmas.List.Elements.{recursion_from_All}
use Rattle.std.proofs.lemmas.List.Sums.{sum_by-cons}
use Rattle.plain_table.specs.declared.scripts.Meet.{Meet}
use Rattle.plain_table.specs.declared.scripts.Meet.TheVariants as kind
use Rattle.plain_table.specs.declared.scripts.Policy.{Policy}
use Rattle.plain_table.specs.declared.events.Act.TheVariants.{Start, Finish}
use Rattle.plain_table.specs.declared.events.Event.{Event}
use Rattle.plain_table.specs.declared.events.Field.{Field}
use Rattle.plain_table.specs.declared.reports.MeetReport.{MeetReport}
use Rattle.plain_table.specs.declared.reports.MeetReport.TheVariants as report
use Rattle.plain_table.specs.declared.reports.SweepReport.{SweepReport}
use Rattle.plain_table.specs.declared.reports.Reply.TheVariants.{Ok}
use Rattle.plain_table.specs.Cycle.{Cycle}
use Rattle.plain_table.specs.Finish.{finished}
use Rattle.plain_table.specs.Rows.{finished_in}
use Rattle.plain_table.specs.Table.{Table}
use Rattle.plain_table.specs.Words.{phase_place}
use Rattle.plain_table.specs.History.{after, next}
use Rattle.plain_table.specs.Scans.{Scanner, Makes, Scans, Ends, Others, Turn, Make, Marks, Takes, Fills, Fails, Aborts, Says}
use Rattle.plain_table.specs.Shapes.{event}
use Rattle.plain_table.specs.Sweeps.{IsSweep, MeetBelongs, meeting, linked_after}
use Rattle.plain_table.specs.Belongs.{events_by, is_external_put, is_start}
use Rattle.plain_table.proofs.CallsMade.{after-append}
use Rattle.word_laws.proofs.PhaseReads.{cycle-none, cycle-some}
use Rattle.mutator_calls.specs.declared.heap.Mutator.{Mutator}
use Rattle.mutator_calls.specs.Calls.{AreHanded, HandsOver, owed_of}
use Rattle.mutator_calls.specs.Cycles.{FinishesEach, StartsEach}
use Rattle.phase_calls.proofs.CallRows.{puts_in-append}
use Rattle.phase_run.specs.Meets.{IsMeetAt, IsStarted, MeetsEach, puts_in}

pub meets_to_start : (old new : Mutator) (meet : Meet) (policy : Policy) (area : Option ℕ) → meet ≡ kind.Start policy →
    IsMeetAt (slice_index old.image.words.items phase_place) meet → StartsEach old new policy area → MeetsEach old new meet (report.Started area)
meets_to_start old new meet policy area is fits starts s linked sees handed =
    let outside : slice_index old.image.words.items phase_place ≡ 0 = subst (IsMeetAt (slice_index old.image.words.items phase_place)) is fits in
    let none = cycle-none old.image.words.items s sees.shows.words outside in
    let at = starts s sees none in
    record {
      events = event meeting (Start policy) Ok ∷ [];
      legal = (((refl, none), refl), tt);
      belongs = subst (λ (m : Meet). MeetBelongs linked s m (event meeting (Start policy) Ok ∷ []) (report.Started area)) (sym is) (refl, at.area_is);
      quiet = refl;
      sees = at.sees;
      handed = at.handed;
    }

-- a pause puts no cell
makes_quiet : (IsRead : Table → Field → ℕ → Type 0) (b : ℕ) (s : Table) (e : Event) (at to : Scanner) → Makes IsRead b s e at to → is_external_put e.act ≡ false
makes_quiet IsRead b s _ _ _ (Marks o f w fields read) = refl
makes_quiet IsRead b s _ _ _ (Takes o number w start i fields inside) = refl
makes_quiet IsRead b s _ _ _ (Fills o number i fields) = refl
makes_quiet IsRead b s _ _ _ (Fails o number w start fields inside) = refl
makes_quiet IsRead b s _ _ _ (Aborts o fields) = refl
makes_quiet IsRead b s _ _ _ (Says o) = refl

puts_none : (e : Event) (es : List Event) → is_external_put e.act ≡ false → puts_in es ≡ 0 → puts_in (e ∷ es) ≡ 0
puts_none e es none rest = by (is_external_put e.act) none (sum_by-cons (λ (one : Event). if is_external_put one.act then 1 else 0) e es)
  where
    by : (put : Bool) → put ≡ false → puts_in (e ∷ es) ≡ (if put then 1 else 0) + puts_in es → puts_in (e ∷ es) ≡ 0
    by true is step = absurd (cc)
    by false is step = omega (arith, step, rest)

abbrev own_first : Bool → Event → List Event → List Event
own_first own e es = if own then e ∷ es else es

-- the events of a number that scans, among those of others
pub scans_quiet : (MayScan : Table → ℕ → Type 0) (IsRead : Table → Field → ℕ → Type 0) (b : ℕ) (at to : Scanner) (s : Table) (es : List Event) →
    Scans MayScan IsRead b at s es to → puts_in (events_by b es) ≡ 0
scans_quiet MayScan IsRead b _ _ _ _ (Ends at s) = refl
scans_quiet MayScan IsRead b _ _ _ _ (Others at s e es to apart rest) =
    ap (λ (own : Bool). puts_in (own_first own e (events_by b es))) (ne_eqb e.by b apart) ∙ scans_quiet MayScan IsRead b at to (next s e) es rest
scans_quiet MayScan IsRead b _ _ _ _ (Turn at mid s es to turns rest) = scans_quiet MayScan IsRead b mid to s es rest
scans_quiet MayScan IsRead b _ _ _ _ (Make at mid s e es to by makes rest) =
    ap (λ (own : Bool). puts_in (own_first own e (events_by b es))) (eq-eqb e.by b by)
    ∙ puts_none e (events_by b es) (makes_quiet IsRead b s e at mid makes) (scans_quiet MayScan IsRead b mid to (next s e) es rest)

events_by-own : (b : ℕ) (es : List Event) → AllByRecursion (λ (e : Event). e.by ≡ b) es → events_by b es ≡ es
events_by-own b [] own = refl
events_by-own b (e ∷ es) own =
    ap (λ (own : Bool). own_first own e (events_by b es)) (eq-eqb e.by b own.0) ∙ ap (λ (more : List Event). e ∷ more) (events_by-own b es own.1)

-- after a finish no cycle is under way
finish_ends : (t : Table) (P : Cycle → Type 0) (cycle : Option Cycle) → IsSomeAnd cycle P → (finished_in t cycle).cycle ≡ None
finish_ends t P None none = absurd none
finish_ends t P (Some c) some = refl

HandsOver-none : (m : Mutator) (linked : List ℕ) (s : Table) → s.cycle ≡ None → HandsOver m linked s
HandsOver-none m linked s none = subst (λ (cycle : Option Cycle). IfSome cycle (AreHanded m.image.words.items (owed_of m) linked s.count)) (sym none) tt

pub meets_to_finish : (old new : Mutator) (meet : Meet) (sweep : SweepReport) → meet ≡ kind.Finish →
    IsMeetAt (slice_index old.image.words.items phase_place) meet → FinishesEach old new sweep → MeetsEach old new meet (report.Swept sweep)
meets_to_finish old new meet sweep is fits finishes s linked sees handed =
    let cycle : slice_index old.image.words.items phase_place ≡ 1 = subst (IsMeetAt (slice_index old.image.words.items phase_place)) is fits in
    let c = cycle-some old.image.words.items s sees.shows.words cycle in
    let at = finishes s c.0 linked sees c.1 handed in
    let events : List Event = at.scans ++ event meeting Finish Ok ∷ [] in
    let own = events_by-own meeting at.scans (recursion_from_All (λ (e : Event). e.by ≡ meeting) at.scans at.pause.own) in
    let quiet : puts_in at.scans ≡ 0 = ap puts_in (sym own) ∙ scans_quiet _ _ meeting _ _ s at.scans at.pause.scans in
    let none : (after s events).cycle ≡ None =
    ap (λ (t : Table). t.cycle) (after-append s at.scans (event meeting Finish Ok ∷ []))
    ∙ finish_ends (after s at.scans) (λ d. IsSweep (after s at.scans) d (finished (after s at.scans) d) sweep) (after s at.scans).cycle at.reported in
    record {
      events = events;
      legal = at.legal;
      belongs = subst (λ (m : Meet). MeetBelongs linked s m events (report.Swept sweep)) (sym is) (at.scans, refl, at.pause, at.reported);
      quiet = puts_in-append at.scans (event meeting Finish Ok ∷ []) ∙ ap (λ n. n + 0) quiet;
      sees = at.sees;
      handed = HandsOver-none new (linked_after s linked events) (after s events) none;
    }

-- a meet that starts a cycle leaves a table right after its start
pub IsStarted-met : (linked : List ℕ) (s : Table) (meet : Meet) (events : List Event) (said : MeetReport) → MeetBelongs linked s meet events said → IsTrue (is_start meet) →
    IsStarted (after s events)
IsStarted-met linked s (kind.Start policy) events (report.Started area) belongs starts = (s, policy, ap (after s) belongs.0)
IsStarted-met linked s (kind.Start policy) events report.Plain belongs starts = absurd belongs
IsStarted-met linked s (kind.Start policy) events (report.Swept sweep) belongs starts = absurd belongs
IsStarted-met linked s (kind.Start policy) events report.Ended belongs starts = absurd belongs
IsStarted-met linked s kind.Plain events said belongs starts = absurd (cc)
IsStarted-met linked s kind.Finish events said belongs starts = absurd (cc)
IsStarted-met linked s kind.End events said belongs starts = absurd (cc)
