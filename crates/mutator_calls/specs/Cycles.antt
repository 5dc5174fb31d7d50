-- What the start and the finish of a cycle leave, for each sound table that the image showed and was covered in.
use Rattle.std.specs.Prelude.{◌≡◌, ℕ, List, [], ◌∷◌, ◌++◌, Option, Some, None}
use Rattle.plain_table.specs.declared.events.Act.TheVariants.{Finish}
use Rattle.plain_table.specs.declared.events.Event.{Event}
use Rattle.plain_table.specs.declared.reports.Reply.TheVariants as reply
use Rattle.plain_table.specs.declared.reports.SweepReport.{SweepReport}
use Rattle.plain_table.specs.declared.scripts.Policy.{Policy}
use Rattle.plain_table.specs.Cycle.{Cycle}
use Rattle.plain_table.specs.Table.{Table}
use Rattle.plain_table.specs.Finish.{area_of, finished, started}
use Rattle.plain_table.specs.Rows.{InCycle}
use Rattle.plain_table.specs.History.{IsLegalHistory, after}
use Rattle.plain_table.specs.Shapes.{event}
use Rattle.plain_table.specs.Sweeps.{IsPause, IsSweep, meeting}
use Rattle.entry_word.specs.Image.{image_of}
use Rattle.mutator_calls.specs.declared.heap.Mutator.{Mutator}
use Rattle.mutator_calls.specs.Calls.{HandsOver, Sees}

-- a start at the table s: the image shows the table after it, and its roots are handed over
pub record StartsAt (new : Mutator) (policy : Policy) (area : Option ℕ) (s : Table) : Type 0 where
  pub sees : Sees (image_of new.image) (started s policy)
  pub area_is : area ≡ area_of s policy
  pub handed : HandsOver new [] (started s policy)

abbrev pub StartsEach : Mutator → Mutator → Policy → Option ℕ → Type 0
StartsEach old new policy area = (s : Table) → Sees (image_of old.image) s → s.cycle ≡ None → StartsAt new policy area s

-- the event that ends a cycle
abbrev pub finishing : Event
finishing = event meeting Finish reply.Ok

-- a finish at the table s, where `linked` are the objects that were linked since the start: a pause of scans, and the
-- finish after it, which the report is of
pub record FinishesAt (new : Mutator) (report : SweepReport) (s : Table) (linked : List ℕ) : Type 0 where
  pub scans : List Event
  pub legal : IsLegalHistory s (scans ++ finishing ∷ [])
  pub pause : IsPause linked s scans
  pub sees : Sees (image_of new.image) (after s (scans ++ finishing ∷ []))
  pub reported : InCycle (after s scans) (λ c. IsSweep (after s scans) c (finished (after s scans) c) report)

abbrev pub FinishesEach : Mutator → Mutator → SweepReport → Type 0
FinishesEach old new report =
    (s : Table) (c : Cycle) (linked : List ℕ) → Sees (image_of old.image) s → s.cycle ≡ Some c → HandsOver old linked s →
    FinishesAt new report s linked
