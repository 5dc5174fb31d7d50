use Rattle.std.proofs.Common.{◌≡◌, ◌<◌, ◌+◌, ℕ, slice_index}
use Rattle.sweeper.specs.Roots.{IsHeldMore}
use Rattle.sweeper.proofs.roots.hold_variables.Given as goal

abbrev pub invariant-loop-word : goal.invariant-loop-word
invariant-loop-word l = IsHeldMore l.fn.held l.held (λ o. (k : ℕ) × (k < l.word-index) × (slice_index l.variables k ≡ o + 1))
