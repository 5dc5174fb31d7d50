-- Phases that run in turn from the opening on: none, one more, and what they are to a script.
use Rattle.std.proofs.Common.{◌≡◌, ℕ, ◌+◌, ◌<◌, Bool, false, List, [], ◌∷◌, ◌++◌, length, get_or, take, refl, sym, ◌∙◌, ap, subst, append_assoc, arith, IsTrue}
use Rattle.std.proofs.lemmas.List.{take_more}
use Rattle.plain_table.specs.declared.scripts.Limits.{Limits}
use Rattle.plain_table.specs.declared.scripts.Phase.{Phase}
use Rattle.plain_table.specs.declared.scripts.Script.{Script}
use Rattle.plain_table.specs.declared.events.Event.{Event}
use Rattle.plain_table.specs.declared.reports.Outcome.{Outcome}
use Rattle.plain_table.specs.declared.reports.PhaseReport.{PhaseReport}
use Rattle.plain_table.specs.Table.{Table, opening}
use Rattle.plain_table.specs.History.{IsLegalHistory, after, next}
use Rattle.plain_table.specs.Sweeps.{linked_after, linked_next}
use Rattle.plain_table.specs.Belongs.{Part, PhaseBelongs, PhasesBelong, events_of, is_start, whole}
use Rattle.plain_table.specs.Ranges.{IsInRange}
use Rattle.plain_table.proofs.OpeningSound.{IsSound-opening}
use Rattle.plain_table.proofs.CallsMade.{after-append, IsLegalHistory-append}
use Rattle.entry_word.specs.Image.{ShowsOpening, image_of, sizes_of}
use Rattle.mutator_calls.specs.declared.cycles.Totals.{Totals}
use Rattle.mutator_calls.specs.declared.heap.Mutator.{Mutator}
use Rattle.mutator_calls.specs.Calls.{HandsOver, Sees}
use Rattle.mutator_calls.specs.Totals.{IsTotal}
use Rattle.phase_calls.proofs.CallRows.{puts_in-append}
use Rattle.phase_run.specs.Meets.{IsStarted, MeetsEach, begins_after, puts_in}
use Rattle.phase_run.specs.Run.{Answers, HaveRun, RunsEach, WorksEach, puts_of_all}
use Rattle.phase_run.proofs.MeetRuns.{IsStarted-met}

pub linked_after-append : (s : Table) (linked : List ℕ) (es fs : List Event) →
    linked_after s linked (es ++ fs) ≡ linked_after (after s es) (linked_after s linked es) fs
linked_after-append s linked [] fs = refl
linked_after-append s linked (e ∷ es) fs = linked_after-append (next s e) (linked_next s e.by e.act linked) es fs

-- the calls of a phase, and then its meet
pub runs_phase : (limits : Limits) (old mid new : Mutator) (phase : Phase) (report : PhaseReport) (puts : ℕ) → puts ≡ puts_of_all phase.calls report.replies →
    WorksEach limits old mid phase report.replies → MeetsEach mid new phase.meet report.meet → RunsEach limits old new phase report puts
runs_phase limits old mid new phase report puts counted works meets begins s linked starts sees handed =
    let worked = works begins s linked starts sees handed in
    let met = meets (after s worked.during) (linked_after s linked worked.during) worked.sees worked.handed in
    let t : after s (worked.during ++ met.events) ≡ after (after s worked.during) met.events = after-append s worked.during met.events in
    record {
      part = record { during = worked.during; meet = met.events };
      legal = IsLegalHistory-append s worked.during met.events worked.legal met.legal;
      belongs = worked.belongs met.events report.meet met.belongs;
      puts = counted ∙ worked.puts ∙ (let all = puts_in-append worked.during met.events in let none = met.quiet in omega (arith, all, none));
      sees = subst (Sees (image_of new.image)) (sym t) met.sees;
      handed = subst (HandsOver new (linked_after s linked (worked.during ++ met.events))) (sym t)
          (subst (λ (ls : List ℕ). HandsOver new ls (after (after s worked.during) met.events)) (sym (linked_after-append s linked worked.during met.events)) met.handed);
      begun = λ starts. subst IsStarted (sym t) (IsStarted-met (linked_after s linked worked.during) (after s worked.during) phase.meet met.events report.meet met.belongs starts);
    }

append_none : (es : List Event) → es ++ [] ≡ es
append_none [] = refl
append_none (e ∷ es) = ap (λ (more : List Event). e ∷ more) (append_none es)

whole-push : (parts : List Part) (part : Part) → whole (parts ++ part ∷ []) ≡ whole parts ++ events_of part
whole-push [] part = append_none (events_of part)
whole-push (first ∷ parts) part =
    ap (λ (es : List Event). events_of first ++ es) (whole-push parts part) ∙ sym (append_assoc (events_of first) (whole parts) (events_of part))

PhasesBelong-push : (limits : Limits) (begins : Bool) (linked : List ℕ) (s : Table) (phases : List Phase) (parts : List Part) (reports : List PhaseReport)
    (phase : Phase) (part : Part) (report : PhaseReport) → PhasesBelong limits begins linked s phases parts reports →
    PhaseBelongs limits (begins_after begins phases) (linked_after s linked (whole parts)) (after s (whole parts)) phase part report →
    PhasesBelong limits begins linked s (phases ++ phase ∷ []) (parts ++ part ∷ []) (reports ++ report ∷ [])
PhasesBelong-push limits begins linked s [] [] [] phase part report belong last = (last, tt)
PhasesBelong-push limits begins linked s (p ∷ phases) (q ∷ parts) (r ∷ reports) phase part report belong last = (
  belong.0,
  PhasesBelong-push limits (is_start p.meet) (linked_after s linked (events_of q)) (after s (events_of q)) phases parts reports phase part report belong.1
      (subst (λ (t : Table). PhaseBelongs limits (begins_after (is_start p.meet) phases) (linked_after (after s (events_of q)) (linked_after s linked (events_of q)) (whole parts)) t phase part report)
      (after-append s (events_of q) (whole parts))
      (subst (λ (ls : List ℕ). PhaseBelongs limits (begins_after (is_start p.meet) phases) ls (after s (events_of q ++ whole parts)) phase part report) (linked_after-append s linked (events_of q) (whole parts)) last)),
)
PhasesBelong-push limits begins linked s [] [] (r ∷ reports) phase part report belong last = absurd belong
PhasesBelong-push limits begins linked s [] (q ∷ parts) reports phase part report belong last = absurd belong
PhasesBelong-push limits begins linked s (p ∷ phases) [] reports phase part report belong last = absurd belong
PhasesBelong-push limits begins linked s (p ∷ phases) (q ∷ parts) [] phase part report belong last = absurd belong

begins_after-push : (begins : Bool) (phases : List Phase) (phase : Phase) → begins_after begins (phases ++ phase ∷ []) ≡ is_start phase.meet
begins_after-push begins [] phase = refl
begins_after-push begins (first ∷ phases) phase = begins_after-push (is_start first.meet) phases phase

pub runs_nothing : (limits : Limits) (m : Mutator) → Sees (image_of m.image) (opening limits) → HaveRun limits m [] [] 0
runs_nothing limits m sees = record { parts = []; legal = tt; belong = tt; puts = refl; sees = sees; handed = tt; begun = λ starts. absurd (cc) }

pub runs_more : (limits : Limits) (old new : Mutator) (phases : List Phase) (reports : List PhaseReport) (puts : ℕ) (phase : Phase) (report : PhaseReport) (more : ℕ) →
    HaveRun limits old phases reports puts → RunsEach limits old new phase report more →
    HaveRun limits new (phases ++ phase ∷ []) (reports ++ report ∷ []) (puts + more)
runs_more limits old new phases reports puts phase report more before runs =
    let s = after (opening limits) (whole before.parts) in
    let linked = linked_after (opening limits) [] (whole before.parts) in
    let run = runs (begins_after false phases) s linked before.begun before.sees before.handed in
    let all : whole (before.parts ++ run.part ∷ []) ≡ whole before.parts ++ events_of run.part = whole-push before.parts run.part in
    let t : after (opening limits) (whole (before.parts ++ run.part ∷ [])) ≡ after s (events_of run.part) =
    ap (after (opening limits)) all ∙ after-append (opening limits) (whole before.parts) (events_of run.part) in
    record {
      parts = before.parts ++ run.part ∷ [];
      legal = subst (IsLegalHistory (opening limits)) (sym all) (IsLegalHistory-append (opening limits) (whole before.parts) (events_of run.part) before.legal run.legal);
      belong = PhasesBelong-push limits false [] (opening limits) phases before.parts reports phase run.part report before.belong run.belongs;
      puts = ap (λ n. n + more) before.puts ∙ ap (λ n. puts_in (whole before.parts) + n) run.puts
          ∙ sym (puts_in-append (whole before.parts) (events_of run.part)) ∙ ap puts_in (sym all);
      sees = subst (Sees (image_of new.image)) (sym t) run.sees;
      handed = subst (HandsOver new (linked_after (opening limits) [] (whole (before.parts ++ run.part ∷ [])))) (sym t)
          (subst (λ (ls : List ℕ). HandsOver new ls (after s (events_of run.part)))
          (sym (ap (linked_after (opening limits) []) all ∙ linked_after-append (opening limits) [] (whole before.parts) (events_of run.part))) run.handed);
      begun = λ starts. subst IsStarted (sym t) (run.begun (subst IsTrue (begins_after-push false phases phase) starts));
    }

-- at the turn of one phase
pub runs_turn : (script : Script) (old new : Mutator) (k : ℕ) (d : Phase) (reports later : List PhaseReport) (puts : ℕ) (report : PhaseReport) (more : ℕ) →
    k < length script.phases → HaveRun script.limits old (take k script.phases) reports puts →
    RunsEach script.limits old new (get_or script.phases k d) report more → later ≡ reports ++ report ∷ [] → HaveRun script.limits new (take (k + 1) script.phases) later (puts + more)
runs_turn script old new k d reports later puts report more within before runs pushed =
    subst (λ (phases : List Phase). HaveRun script.limits new phases later (puts + more)) (sym (take_more script.phases k d within))
    (subst (λ (rs : List PhaseReport). HaveRun script.limits new (take k script.phases ++ get_or script.phases k d ∷ []) rs (puts + more)) (sym pushed)
    (runs_more script.limits old new (take k script.phases) reports puts (get_or script.phases k d) report more before runs))

-- a fresh mutator sees the opening of limits with its sizes
pub sees_opening : (limits : Limits) (m : Mutator) → IsInRange limits → sizes_of m.image.shape ≡ (opening limits).sizes →
    ShowsOpening (image_of m.image) → Sees (image_of m.image) (opening limits)
sees_opening limits m range sizes shows = record { sound = IsSound-opening limits range; shows = shows limits (sym sizes); covered = tt }

-- the outcome of the phases that have run
pub record IsOutcome (reports : List PhaseReport) (totals : Totals) (many : ℕ) (outcome : Outcome) : Type 0 where
  pub phases : outcome.phases ≡ reports
  pub live : outcome.live ≡ totals.live
  pub trusted : outcome.trusted ≡ totals.trusted
  pub objects : outcome.objects ≡ totals.objects
  pub sum : outcome.sum ≡ totals.sum
  pub puts : outcome.puts ≡ many

pub answers_run : (script : Script) (m : Mutator) (phases : List Phase) (reports : List PhaseReport) (puts : ℕ) (totals : Totals) (outcome : Outcome) →
    phases ≡ script.phases → HaveRun script.limits m phases reports puts →
    ((s : Table) → Sees (image_of m.image) s → IsTotal s totals) → IsOutcome reports totals puts outcome → Answers script outcome
answers_run script m phases reports puts totals outcome all run totalled is =
    let total = totalled (after (opening script.limits) (whole run.parts)) run.sees in (
      run.parts,
      record {
        legal = run.legal;
        phases = subst (λ (ps : List Phase). PhasesBelong script.limits false [] (opening script.limits) ps run.parts outcome.phases) all
            (subst (λ (rs : List PhaseReport). PhasesBelong script.limits false [] (opening script.limits) phases run.parts rs) (sym is.phases) run.belong);
        totals = record {
          live = is.live ∙ total.live;
          trusted = is.trusted ∙ total.trusted;
          objects = is.objects ∙ total.objects;
          sum = is.sum ∙ total.sum;
          puts = is.puts ∙ run.puts;
        };
      },
    )
