-- The calls before this turn are made, and their replies are listed.
use Rattle.std.proofs.Common.{◌≡◌, length, take}
use Rattle.entry_base.specs.Sessions.{view, IsOf}
use Rattle.phase_calls.specs.Calls.{MakesInTurn}
use Rattle.phase_calls.proofs.runs.run_calls.Given as goal

abbrev pub invariant-loop-call : goal.invariant-loop-call
invariant-loop-call g l =
    IsOf l.shared l.s × ((view l.s).number ≡ (view l.initial.s).number)
    × MakesInTurn (view l.initial.s) (take l.call-index l.calls) l.replies.items (view l.s)
    × (length l.replies.items ≡ l.call-index) × (l.number ≡ l.call-index)
