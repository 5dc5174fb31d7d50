use Rattle.std.proofs.Common.{◌≡◌, ◌≤◌, ◌<◌, ℕ, false}
use Rattle.sweeper.specs.Pass.{entries_from, stays}
use Rattle.sweeper.proofs.pass.greatest.Given as goal

abbrev pub invariant-loop-end : goal.invariant-loop-end
invariant-loop-end l = record {
  within : l.end ≤ l.span.limit;
  below : l.end ≤ l.span.from;
  above : (k : ℕ) → l.end ≤ k → k < l.span.limit → stays (entries_from l.words l.span.base) l.span.from k ≡ false;
}

abbrev pub decreases-loop-end : goal.decreases-loop-end
decreases-loop-end l = l.end
