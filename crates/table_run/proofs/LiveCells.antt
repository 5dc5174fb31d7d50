-- At the end of a run no more external cells are left than were put: only a put makes one. A finish keeps no more than there were, by
-- its report. And the sum of values that an outcome says has 48 bits.
use Rattle.std.proofs.Common.{◌≡◌, ◌≢◌, ◌⊎◌, ℕ, zero, suc, ◌+◌, ◌^◌, ◌<◌, ◌≤◌, Bool, true, false, List, [], ◌∷◌, ◌++◌, Option, Some, None, IsTrue, is_some, if◌then◌else◌, refl, sym, ap, subst, ◌∙◌, inl, inr, arith}
use Rattle.std.specs.Prelude.{IsSomeAnd}
use Rattle.std.specs.List.{AllByRecursion}
use Rattle.std.proofs.lemmas.Bool.Decides.{eqb_tells}
use Rattle.std.proofs.lemmas.List.Elements.{recursion_from_All}
use Rattle.std.proofs.lemmas.List.Sums.{sum_by-cons}
use Rattle.plain_table.specs.declared.events.Act.{Act}
use Rattle.plain_table.specs.declared.events.Act.TheVariants.{Put, Finish}
use Rattle.plain_table.specs.declared.events.Event.{Event}
use Rattle.plain_table.specs.declared.events.Field.{Field}
use Rattle.plain_table.specs.declared.events.Space.TheVariants.{External}
use Rattle.plain_table.specs.declared.reports.MeetReport.{MeetReport}
use Rattle.plain_table.specs.declared.reports.MeetReport.TheVariants as report
use Rattle.plain_table.specs.declared.reports.Outcome.{Outcome}
use Rattle.plain_table.specs.declared.reports.PhaseReport.{PhaseReport}
use Rattle.plain_table.specs.declared.reports.Reply.TheVariants.{Ok}
use Rattle.plain_table.specs.declared.reports.SweepReport.{SweepReport}
use Rattle.plain_table.specs.declared.scripts.Limits.{Limits}
use Rattle.plain_table.specs.declared.scripts.Meet.{Meet}
use Rattle.plain_table.specs.declared.scripts.Meet.TheVariants as kind
use Rattle.plain_table.specs.declared.scripts.Phase.{Phase}
use Rattle.plain_table.specs.declared.scripts.Script.{Script}
use Rattle.plain_table.specs.Area.{count_below}
use Rattle.plain_table.specs.Belongs.{Belongs, IsMarker, Part, PhaseBelongs, PhasesBelong, events_by, events_of, is_external_put, is_start, whole}
use Rattle.plain_table.specs.Cycle.{Cycle}
use Rattle.plain_table.specs.Finish.{finished}
use Rattle.plain_table.specs.History.{IsLegal, IsLegalHistory, after, next}
use Rattle.plain_table.specs.Ranges.{IsInRange}
use Rattle.plain_table.specs.Rows.{finished_in}
use Rattle.plain_table.specs.Scans.{Ends, IsReadAtMeet, IsReadConcurrently, Make, Makes, Others, Rest, Scanner, Scans, Turn, Marks, Takes, Fills, Fails, Aborts, Says}
use Rattle.plain_table.specs.Shapes.{event, with_ticket}
use Rattle.plain_table.specs.Sound.{IsSound}
use Rattle.plain_table.specs.Sweeps.{IsPause, IsSweep, MayScanAtMeet, MeetBelongs, cells_in, linked_after, meeting}
use Rattle.plain_table.specs.Table.{Sizes, Table, limit_in, limit_of, opening}
use Rattle.plain_table.proofs.CallsMade.{after-append}
use Rattle.plain_table.proofs.FreeLists.{count_below-none}
use Rattle.plain_table.proofs.OpeningSound.{IsSound-opening}
use Rattle.table_laws.specs.Steady.{IsDuringPhase}
use Rattle.table_laws.proofs.Soundness.{events-sound}
use Rattle.table_laws.proofs.Steadiness.{events-steady}
use Rattle.call_base.specs.ScanParts.{any_object}
use Rattle.call_base.proofs.HistoriesStay.{legal_front, legal_rest}
use Rattle.mutator_calls.proofs.Kept.{AreDuringPhase, sound-after}
use Rattle.phase_calls.proofs.CallRows.{MakesCalls-acts, puts_in-append}
use Rattle.phase_calls.proofs.ShapeEvents.{AreOfCalls, IsDuringPhase-call, puts_in}

-- the numbers of a set below n, where each was in another one
one-up : (before now : Bool) → (IsTrue now → IsTrue before) → (if now then 1 else 0) ≤ (if before then 1 else 0)
one-up true true up = omega arith
one-up true false up = omega arith
one-up false true up = let e = up refl in absurd (cc)
one-up false false up = omega arith

count_below-up : (before now : ℕ → Bool) (n : ℕ) → ((i : ℕ) → i < n → IsTrue (now i) → IsTrue (before i)) → count_below now n ≤ count_below before n
count_below-up before now zero up = omega arith
count_below-up before now (suc n) up =
    let rest = count_below-up before now n (λ i less. up i (omega (arith, less))) in
    let here = one-up (before n) (now n) (up n (omega arith)) in
    omega (arith, rest, here)

-- and where each but one was
one-most : (now : Bool) → (if now then 1 else 0) ≤ 1
one-most true = omega arith
one-most false = omega arith

count_below-one : (before now : ℕ → Bool) (k n : ℕ) → ((i : ℕ) → i ≢ k → IsTrue (now i) → IsTrue (before i)) → count_below now n ≤ count_below before n + 1
count_below-one before now k zero up = omega arith
count_below-one before now k (suc n) up = elim (eqb_tells n k) [
  | inl t ↦
      let is = t.1 in
      let rest = count_below-up before now n (λ i less. up i (λ same. omega (arith, less, same, is))) in
      let here = one-most (now n) in
      omega (arith, rest, here)
  | inr t ↦
      let rest = count_below-one before now k n up in
      let here = one-up (before n) (now n) (up n t.1) in
      omega (arith, rest, here)
]

-- an event of a phase makes a cell only at the index that it puts
abbrev put_index : Act → ℕ
put_index (Put p i tag value) = i
put_index _ = 0

module _ (s : Table) (e : Event) (sound : IsSound s) (legal : IsLegal s e) (during : IsDuringPhase e.act) where
  abbrev before : ℕ → Bool
  before i = is_some (s.cells External i)

  abbrev now : ℕ → Bool
  now i = is_some ((next s e).cells External i)

  stood : (i : ℕ) → IsTrue (now i) → IsTrue (before i) ⊎ ((tag : ℕ) × (value : ℕ) × (e.act ≡ Put External i tag value))
  stood i is = by (s.cells External i) refl
    where
      by : (cell : Option _) → s.cells External i ≡ cell → IsTrue (before i) ⊎ ((tag : ℕ) × (value : ℕ) × (e.act ≡ Put External i tag value))
      by None none = inr ((events-steady s e sound legal during).cells.made External i none is)
      by (Some c) some = inl (ap is_some some)

  kept : (put : Bool) → is_external_put e.act ≡ put → (i : ℕ) → (put ≡ true → i ≢ put_index e.act) → IsTrue (now i) → IsTrue (before i)
  kept put is i other there = elim (stood i there) [
    | inl stands ↦ stands
    | inr made ↦ absurd (other (sym is ∙ ap is_external_put made.2) (sym (ap put_index made.2)))
  ]

  same_limit : limit_of (next s e) External ≡ limit_of s External
  same_limit = ap (λ (z : Sizes). limit_in z External) (events-steady s e sound legal during).sizes

  cells-next : cells_in (next s e) External ≤ cells_in s External + (if is_external_put e.act then 1 else 0)
  cells-next = subst (λ (n : ℕ). count_below now n ≤ cells_in s External + (if is_external_put e.act then 1 else 0)) (sym same_limit) (by (is_external_put e.act) refl)
    where
      by : (put : Bool) → is_external_put e.act ≡ put → count_below now (limit_of s External) ≤ cells_in s External + (if put then 1 else 0)
      by true is = count_below-one before now (put_index e.act) (limit_of s External) (λ i apart. kept true is i (λ same. apart))
      by false is =
          let up = count_below-up before now (limit_of s External) (λ i less. kept false is i (λ same. absurd (cc))) in
          omega (arith, up)

-- the events leave at most as many external cells more as they put
abbrev MakesFew : Table → List Event → Type 0
MakesFew s es = cells_in (after s es) External ≤ cells_in s External + puts_in es

-- and so the events of a phase
cells-during : (es : List Event) (s : Table) → IsSound s → IsLegalHistory s es → AreDuringPhase es → MakesFew s es
cells-during [] s sound legal during = omega arith
cells-during (e ∷ es) s sound legal during =
    let here = cells-next s e sound legal.0 during.0 in
    let rest = cells-during es (next s e) (events-sound s e sound legal.0) legal.1 during.1 in
    let puts = sum_by-cons (λ (one : Event). if is_external_put one.act then 1 else 0) e es in
    omega (arith, here, rest, puts)

-- the events of one number are those of a phase
abbrev OwnDuring : ℕ → List Event → Type 0
OwnDuring b es = AllByRecursion (λ (e : Event). e.by ≡ b → IsDuringPhase e.act) es

makes-during : (IsRead : Table → Field → ℕ → Type 0) (b : ℕ) (s : Table) (e : Event) (at to : Scanner) → Makes IsRead b s e at to → IsDuringPhase e.act
makes-during IsRead b s _ _ _ (Marks o f w fields read) = tt
makes-during IsRead b s _ _ _ (Takes o number w start i fields inside) = tt
makes-during IsRead b s _ _ _ (Fills o number i fields) = tt
makes-during IsRead b s _ _ _ (Fails o number w start fields inside) = tt
makes-during IsRead b s _ _ _ (Aborts o fields) = tt
makes-during IsRead b s _ _ _ (Says o) = tt

scans-during : (MayScan : Table → ℕ → Type 0) (IsRead : Table → Field → ℕ → Type 0) (b : ℕ) (at to : Scanner) (s : Table) (es : List Event) →
    Scans MayScan IsRead b at s es to → OwnDuring b es
scans-during MayScan IsRead b _ _ _ _ (Ends at s) = tt
scans-during MayScan IsRead b _ _ _ _ (Others at s e es to apart rest) =
    (λ own. absurd (apart own), scans-during MayScan IsRead b at to (next s e) es rest)
scans-during MayScan IsRead b _ _ _ _ (Turn at mid s es to turns rest) = scans-during MayScan IsRead b mid to s es rest
scans-during MayScan IsRead b _ _ _ _ (Make at mid s e es to by makes rest) =
    (λ own. makes-during IsRead b s e at mid makes, scans-during MayScan IsRead b mid to (next s e) es rest)

calls-during : (b : ℕ) (es : List Event) → AreOfCalls (events_by b es) → OwnDuring b es
calls-during b [] calls = tt
calls-during b (e ∷ es) calls = elim (eqb_tells e.by b) [
  | inl t ↦
      let all = subst (λ (own : Bool). AreOfCalls (if own then e ∷ events_by b es else events_by b es)) t.0 calls in
      (λ own. IsDuringPhase-call e.act all.0, calls-during b es all.1)
  | inr t ↦
      let rest = subst (λ (own : Bool). AreOfCalls (if own then e ∷ events_by b es else events_by b es)) t.0 calls in
      (λ own. absurd (t.1 own), calls-during b es rest)
]

-- and so those of some numbers
all-during : (Has : ℕ → Type 0) (es : List Event) → ((b : ℕ) → Has b → OwnDuring b es) → AllByRecursion (λ (e : Event). Has e.by) es → AreDuringPhase es
all-during Has [] each all = tt
all-during Has (e ∷ es) each all = ((each e.by all.0).0 refl, all-during Has es (λ b has. (each b has).1) all.1)

during-phase : (limits : Limits) (begins : Bool) (linked : List ℕ) (s : Table) (phase : Phase) (part : Part) (said : PhaseReport) →
    PhaseBelongs limits begins linked s phase part said → AreDuringPhase part.during
during-phase limits begins linked s phase part said belongs =
    all-during (λ b. (b < limits.mutators) ⊎ IsMarker limits b) part.during each (recursion_from_All _ part.during belongs.numbers)
  where
    each : (b : ℕ) → (b < limits.mutators) ⊎ IsMarker limits b → OwnDuring b part.during
    each b (inl mutator) = calls-during b part.during (MakesCalls-acts b s.cycle (s.vars b) (with_ticket (s.ticket b)) _ _ (events_by b part.during) (belongs.calls b mutator))
    each b (inr marker) = scans-during any_object IsReadConcurrently b Rest Rest s part.during (belongs.scans b marker)

during-pause : (linked : List ℕ) (s : Table) (es : List Event) → IsPause linked s es → AreDuringPhase es
during-pause linked s es pause =
    all-during (λ b. b ≡ meeting) es
    (λ b is. subst (λ (n : ℕ). OwnDuring n es) (sym is) (scans-during (MayScanAtMeet linked) IsReadAtMeet meeting Rest Rest s es pause.scans))
    (recursion_from_All _ es pause.own)

-- a finish keeps no more than there were
cells-swept : (s : Table) (sweep : SweepReport) → (cycle : Option Cycle) → IsSomeAnd cycle (λ c. IsSweep s c (finished s c) sweep) →
    cells_in (finished_in s cycle) External ≤ cells_in s External
cells-swept s sweep None some = absurd some
cells-swept s sweep (Some c) is = let kept = is.kept in let freed = is.freed in omega (arith, kept, freed)

cells-met : (linked : List ℕ) (s : Table) (meet : Meet) (es : List Event) (said : MeetReport) → IsSound s → IsLegalHistory s es →
    MeetBelongs linked s meet es said → MakesFew s es
cells-met linked s kind.Plain es report.Plain sound legal is = subst (MakesFew s) (sym is) (omega arith)
cells-met linked s kind.End es report.Ended sound legal is = subst (MakesFew s) (sym is) (omega arith)
cells-met linked s (kind.Start policy) es (report.Started area) sound legal is =
    subst (MakesFew s) (sym is.0) (omega arith)
cells-met linked s kind.Finish es (report.Swept sweep) sound legal is =
    let scans = is.0 in
    let last : List Event = event meeting Finish Ok ∷ [] in
    let first = legal_front s scans last (subst (IsLegalHistory s) is.1 legal) in
    let paused = cells-during scans s sound first (during-pause linked s scans is.2) in
    let swept = cells-swept (after s scans) sweep (after s scans).cycle is.3 in
    let puts = puts_in-append scans last in
    let ends : cells_in (after s es) External ≡ cells_in (finished_in (after s scans) (after s scans).cycle) External =
    ap (λ (es : List Event). cells_in (after s es) External) is.1 ∙ ap (λ (t : Table). cells_in t External) (after-append s scans last) in
    let all : puts_in es ≡ puts_in (scans ++ last) = ap puts_in is.1 in
    omega (arith, paused, swept, puts, ends, all)
cells-met linked s kind.Plain es (report.Started area) sound legal is = absurd is
cells-met linked s kind.Plain es (report.Swept sweep) sound legal is = absurd is
cells-met linked s kind.Plain es report.Ended sound legal is = absurd is
cells-met linked s kind.End es (report.Started area) sound legal is = absurd is
cells-met linked s kind.End es (report.Swept sweep) sound legal is = absurd is
cells-met linked s kind.End es report.Plain sound legal is = absurd is
cells-met linked s (kind.Start policy) es report.Plain sound legal is = absurd is
cells-met linked s (kind.Start policy) es (report.Swept sweep) sound legal is = absurd is
cells-met linked s (kind.Start policy) es report.Ended sound legal is = absurd is
cells-met linked s kind.Finish es report.Plain sound legal is = absurd is
cells-met linked s kind.Finish es (report.Started area) sound legal is = absurd is
cells-met linked s kind.Finish es report.Ended sound legal is = absurd is

cells-phase : (limits : Limits) (begins : Bool) (linked : List ℕ) (s : Table) (phase : Phase) (part : Part) (said : PhaseReport) → IsSound s →
    IsLegalHistory s (events_of part) → PhaseBelongs limits begins linked s phase part said →
    MakesFew s (events_of part)
cells-phase limits begins linked s phase part said sound legal belongs =
    let front = legal_front s part.during part.meet legal in
    let during = cells-during part.during s sound front (during-phase limits begins linked s phase part said belongs) in
    let met = cells-met (linked_after s linked part.during) (after s part.during) phase.meet part.meet said.meet
    (sound-after part.during s sound front) (legal_rest s part.during part.meet legal) belongs.meet in
    let puts = puts_in-append part.during part.meet in
    let ends : cells_in (after s (events_of part)) External ≡ cells_in (after (after s part.during) part.meet) External =
    ap (λ (t : Table). cells_in t External) (after-append s part.during part.meet) in
    omega (arith, during, met, puts, ends)

cells-phases : (limits : Limits) (begins : Bool) (linked : List ℕ) (s : Table) (phases : List Phase) (parts : List Part) (reports : List PhaseReport) → IsSound s →
    IsLegalHistory s (whole parts) → PhasesBelong limits begins linked s phases parts reports →
    MakesFew s (whole parts)
cells-phases limits begins linked s [] [] [] sound legal belong = omega arith
cells-phases limits begins linked s [] [] (r ∷ reports) sound legal belong = absurd belong
cells-phases limits begins linked s [] (part ∷ parts) reports sound legal belong = absurd belong
cells-phases limits begins linked s (phase ∷ phases) [] reports sound legal belong = absurd belong
cells-phases limits begins linked s (phase ∷ phases) (part ∷ parts) [] sound legal belong = absurd belong
cells-phases limits begins linked s (phase ∷ phases) (part ∷ parts) (said ∷ reports) sound legal belong =
    let front = legal_front s (events_of part) (whole parts) legal in
    let first = cells-phase limits begins linked s phase part said sound front belong.0 in
    let rest = cells-phases limits (is_start phase.meet) (linked_after s linked (events_of part)) (after s (events_of part)) phases parts reports
    (sound-after (events_of part) s sound front) (legal_rest s (events_of part) (whole parts) legal) belong.1 in
    let puts = puts_in-append (events_of part) (whole parts) in
    let ends : cells_in (after s (whole (part ∷ parts))) External ≡ cells_in (after (after s (events_of part)) (whole parts)) External =
    ap (λ (t : Table). cells_in t External) (after-append s (events_of part) (whole parts)) in
    omega (arith, first, rest, puts, ends)

pub live-within_puts : (script : Script) (parts : List Part) (outcome : Outcome) → IsInRange script.limits → Belongs script parts outcome → outcome.live ≤ outcome.puts
live-within_puts script parts outcome range belongs =
    let s : Table = opening script.limits in
    let most = cells-phases script.limits false [] s script.phases parts outcome.phases (IsSound-opening script.limits range) belongs.legal belongs.phases in
    let none : cells_in s External ≡ 0 = count_below-none (λ i. false) (limit_of s External) (λ k less. refl) in
    let live = belongs.totals.live in
    let puts = belongs.totals.puts in
    omega (arith, most, none, live, puts)

pub sum-small : (script : Script) (parts : List Part) (outcome : Outcome) → Belongs script parts outcome → outcome.sum < 2 ^ 48
sum-small script parts outcome belongs = let sum = belongs.totals.sum in omega (arith, sum)
