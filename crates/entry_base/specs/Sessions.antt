-- What a clause says of sessions, chunks and their table.
use Rattle.std.specs.Prelude.{◌≡◌, ◌+◌, ◌*◌, ◌-◌, ◌==◌, ℕ, [], if◌then◌else◌, Option, Some, None, slice_index, slice_index_or}
use Rattle.std.specs.Option.{option_map}
use Rattle.entry_word.specs.declared.image.Pending.{Pending}
use Rattle.entry_base.specs.declared.view.Opening.{Opening}
use Rattle.entry_base.specs.declared.view.View.{View}
use Rattle.entry_base.specs.declared.table.Shared.{Shared}
use Rattle.entry_base.specs.declared.sessions.Session.{Session}
use Rattle.entry_base.specs.declared.chunks.Chunk.{Chunk}
use Rattle.entry_base.specs.Callers.{AreWithin, IsCaller}
use Rattle.entry_base.specs.Histories.{IsPhaseHistory}
use Rattle.entry_base.specs.Openings.{opening_of}

-- what a session knows and holds, and what a chunk does
abbrev pub view : Session → View
view s = s.seat.me.0

abbrev pub hands_of : Chunk → View
hands_of c = c.seat.me.0

-- the image that the table was opened with
abbrev pub opened_with : Shared → Opening
opened_with t = opening_of t.table.shared.key

-- a session of this table
abbrev pub IsOf : Shared → Session → Type 0
IsOf t s = (s.seat.table_id ≡ t.table.shared.table_id) × IsCaller (opened_with t) (view s)

-- a chunk of this table
pub record IsPart (key : Opening) (v : View) : Type 0 where
  pub opened : v.opening ≡ key
  pub numbers : v.numbers ≡ []
  pub lawful : IsPhaseHistory key v.seen
  pub hands : AreWithin key v.hands

abbrev pub IsChunkOf : Shared → Chunk → Type 0
IsChunkOf t c = (c.seat.table_id ≡ t.table.shared.table_id) × IsPart (opened_with t) (hands_of c)

-- what a variable holds, by its number in a view, and the cell that the view's own number may publish, with its index
abbrev pub object_at : ℕ → Option ℕ
object_at x = if x == 0 then None else Some (x - 1)

abbrev pub held_in : View → ℕ → Option ℕ
held_in v var = object_at (slice_index v.vars (16 * v.number + var))

abbrev pub pending_in : View → Option Pending
pending_in v = slice_index_or v.pending v.number None

abbrev pub ticket_in : View → Option ℕ
ticket_in v = option_map (λ (p : Pending). p.index) (pending_in v)
