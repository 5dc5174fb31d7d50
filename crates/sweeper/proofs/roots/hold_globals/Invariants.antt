use Rattle.std.proofs.Common.{◌≡◌, ◌<◌, ◌+◌, ℕ, slice_index}
use Rattle.sweeper.specs.Roots.{IsHeldMore}
use Rattle.sweeper.proofs.roots.hold_globals.Given as goal

abbrev pub invariant-loop-global : goal.invariant-loop-global
invariant-loop-global l = IsHeldMore l.fn.held l.held (λ o. (g : ℕ) × (g < l.global) × (slice_index l.words (16 + g) ≡ o + 1))
