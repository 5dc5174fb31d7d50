use Rattle.std.proofs.Common.{◌≡◌, ℕ, ◌<◌, Some}
use Rattle.plain_program.specs.Kept.{shown}
use Rattle.plain_program.proofs.state.State.holds.Given as goal

abbrev pub invariant-loop-var : goal.invariant-loop-var
invariant-loop-var l = (v : ℕ) → v < l.var → (shown l.self).vars l.by v ≡ Some l.object → ⊥
