use Rattle.std.proofs.Common.{◌≡◌, ◌<◌, ◌+◌, ℕ, slice_index}
use Rattle.sweeper.specs.Shading.{Shades}
use Rattle.sweeper.proofs.shading.shade_words.Given as goal

abbrev pub invariant-loop-k : goal.invariant-loop-k
invariant-loop-k l = Shades l.fn.words l.words l.fn.list l.list l.len l.end (λ o. (k : ℕ) × (k < l.k) × (slice_index l.fn.words (l.first + k) ≡ o + 1))
