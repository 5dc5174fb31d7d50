use Rattle.std.proofs.Common.{◌≡◌, ◌<◌, ◌+◌, ℕ, slice_index}
use Rattle.sweeper.specs.Shading.{Shades}
use Rattle.sweeper.proofs.shading.shade_variables.Given as goal

abbrev pub invariant-loop-k : goal.invariant-loop-k
invariant-loop-k l = Shades l.fn.words l.words l.fn.list l.list l.len l.end (λ o. (k : ℕ) × (k < l.k) × (slice_index l.variables (0 + k) ≡ o + 1))
