use Rattle.std.proofs.Common.{◌≤◌, ℕ, List}
use Rattle.sweeper.specs.Moves.{AreMovedAt}
use Rattle.sweeper.proofs.moves.move_chunk.Given as goal

abbrev pub invariant-loop-entry : goal.invariant-loop-entry
invariant-loop-entry l = record {
  later : l.first ≤ l.entry;
  moved : (start_words : List ℕ) → AreMovedAt start_words l.fn.words l.span.base l.span.limit l.span.start l.end → AreMovedAt start_words l.words l.span.base l.span.limit l.span.start l.entry;
}
