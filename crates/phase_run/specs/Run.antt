-- What a run leaves, phase by phase, for each table that the mutator's image showed: one legal history, whose parts are those of
-- the phases, and the image that shows the table after it. And what it is to answer a script.
use Rattle.std.specs.Prelude.{◌≡◌, ℕ, ◌+◌, Bool, false, List, [], ◌∷◌, IsTrue}
use Rattle.plain_table.specs.declared.scripts.Limits.{Limits}
use Rattle.plain_table.specs.declared.scripts.Op.{Op}
use Rattle.plain_table.specs.declared.scripts.Phase.{Phase}
use Rattle.plain_table.specs.declared.scripts.Script.{Script}
use Rattle.plain_table.specs.declared.events.Event.{Event}
use Rattle.plain_table.specs.declared.reports.MeetReport.{MeetReport}
use Rattle.plain_table.specs.declared.reports.Outcome.{Outcome}
use Rattle.plain_table.specs.declared.reports.PhaseReport.{PhaseReport}
use Rattle.plain_table.specs.declared.reports.Reply.{Reply}
use Rattle.plain_table.specs.Table.{Table, opening}
use Rattle.plain_table.specs.History.{IsLegalHistory, after}
use Rattle.plain_table.specs.Sweeps.{MeetBelongs, linked_after}
use Rattle.plain_table.specs.Belongs.{Belongs, Part, PhaseBelongs, PhasesBelong, events_of, is_start, whole}
use Rattle.entry_word.specs.Image.{image_of}
use Rattle.mutator_calls.specs.declared.heap.Mutator.{Mutator}
use Rattle.mutator_calls.specs.Calls.{HandsOver, Sees}
use Rattle.phase_calls.specs.Calls.{puts_of}
use Rattle.phase_run.specs.Meets.{IsStarted, begins_after, puts_in}

-- how many external cells the calls of all mutators put, by their replies
abbrev pub puts_of_all : List (List Op) → List (List Reply) → ℕ
puts_of_all (calls ∷ more) (replies ∷ others) = puts_of calls replies + puts_of_all more others
puts_of_all _ _ = 0

-- the calls and scans of a phase at the table s, where these objects were linked in its cycle: with what happens at the meet after
-- them they are a part of the phase
pub record HasWorked (limits : Limits) (begins : Bool) (new : Mutator) (phase : Phase) (replies : List (List Reply)) (s : Table) (linked : List ℕ) : Type 0 where
  pub during : List Event
  pub legal : IsLegalHistory s during
  pub belongs : (met : List Event) (report : MeetReport) →
      MeetBelongs (linked_after s linked during) (after s during) phase.meet met report →
      PhaseBelongs limits begins linked s phase (record { during = during; meet = met }) (record { replies = replies; meet = report })
  pub puts : puts_of_all phase.calls replies ≡ puts_in during
  pub sees : Sees (image_of new.image) (after s during)
  pub handed : HandsOver new (linked_after s linked during) (after s during)

abbrev pub WorksEach : Limits → Mutator → Mutator → Phase → List (List Reply) → Type 0
WorksEach limits old new phase replies =
    (begins : Bool) (s : Table) (linked : List ℕ) → (IsTrue begins → IsStarted s) →
    Sees (image_of old.image) s → HandsOver old linked s → HasWorked limits begins new phase replies s linked

-- a phase and its meet from the table s on
pub record HasRun (limits : Limits) (begins : Bool) (new : Mutator) (phase : Phase) (report : PhaseReport) (many : ℕ) (s : Table) (linked : List ℕ) : Type 0 where
  pub part : Part
  pub legal : IsLegalHistory s (events_of part)
  pub belongs : PhaseBelongs limits begins linked s phase part report
  pub puts : many ≡ puts_in (events_of part)
  pub sees : Sees (image_of new.image) (after s (events_of part))
  pub handed : HandsOver new (linked_after s linked (events_of part)) (after s (events_of part))
  pub begun : IsTrue (is_start phase.meet) → IsStarted (after s (events_of part))

abbrev pub RunsEach : Limits → Mutator → Mutator → Phase → PhaseReport → ℕ → Type 0
RunsEach limits old new phase report puts =
    (begins : Bool) (s : Table) (linked : List ℕ) → (IsTrue begins → IsStarted s) →
    Sees (image_of old.image) s → HandsOver old linked s → HasRun limits begins new phase report puts s linked

-- these phases in turn from the opening on
pub record HaveRun (limits : Limits) (now : Mutator) (phases : List Phase) (reports : List PhaseReport) (many : ℕ) : Type 0 where
  pub parts : List Part
  pub legal : IsLegalHistory (opening limits) (whole parts)
  pub belong : PhasesBelong limits false [] (opening limits) phases parts reports
  pub puts : many ≡ puts_in (whole parts)
  pub sees : Sees (image_of now.image) (after (opening limits) (whole parts))
  pub handed : HandsOver now (linked_after (opening limits) [] (whole parts)) (after (opening limits) (whole parts))
  pub begun : IsTrue (begins_after false phases) → IsStarted (after (opening limits) (whole parts))

-- the outcome belongs to the script by some history
abbrev pub Answers : Script → Outcome → Type 0
Answers script outcome = (parts : List Part) × Belongs script parts outcome
