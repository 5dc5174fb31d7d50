-- The events of a share by the phase of the opening.
use Rattle.std.specs.Prelude.{◌≡◌, ◌≢◌, ◌⊎◌, ℕ, ◌==◌, if◌then◌else◌, List, [], ◌∷◌, ◌++◌}
use Rattle.plain_table.specs.declared.events.Act.TheVariants as act
use Rattle.plain_table.specs.declared.events.Event.{Event}
use Rattle.plain_table.specs.declared.events.Field.TheVariants as field
use Rattle.plain_table.specs.declared.events.Space.TheVariants.{Trusted}
use Rattle.plain_table.specs.declared.reports.Reply.{Reply}
use Rattle.plain_table.specs.declared.reports.Reply.TheVariants as reply
use Rattle.plain_table.specs.Index.{index_of}
use Rattle.plain_table.specs.Shapes.{event}
use Rattle.entry_base.specs.declared.view.View.{View}
use Rattle.entry_base.specs.Openings.{phase_of}
use Rattle.call_base.specs.Called.{Called, EndsWith}

-- in a cycle, whose phase is not 0, the trusted cell that is to be shared is marked
abbrev pub mark_for : ℕ → ℕ → ℕ → List Event
mark_for b phase word = if phase == 0 then [] else event b (act.Mark Trusted (index_of word)) reply.Ok ∷ []

-- the name of the one field, and where its word is not 0, the mark and the bind of the other
abbrev pub IsShareIn : ℕ → ℕ → ℕ → ℕ → Reply → List Event → Type 0
IsShareIn b phase source target said events =
    (w : ℕ) × (((w ≡ 0) × (said ≡ reply.Null) × (events ≡ event b (act.Name (field.Trusted source)) (reply.Word w) ∷ []))
    ⊎ ((w ≢ 0) × (events ≡ event b (act.Name (field.Trusted source)) (reply.Word w) ∷ mark_for b phase w ++ event b (act.Bind (field.Trusted target) w) said ∷ [])))

-- these are the events of a caller
pub record SharesEntry (v : View) (source target : ℕ) (said : Reply) (w : View) : Type 0 where
  pub own : List Event
  pub called : Called v own w
  pub ends : EndsWith own w.seen
  pub shape : IsShareIn v.number (phase_of v.opening) source target said own
