use Rattle.std.proofs.Common.{◌≤◌}
use Rattle.sweeper.specs.Pass.{entries_from, IsPassAt, IsTallyAt, IsFew}
use Rattle.sweeper.proofs.pass.close_entries.Given as goal

abbrev pub invariant-loop-index : goal.invariant-loop-index
invariant-loop-index l = record {
  later : l.committed ≤ l.index;
  words : IsPassAt l.fn.words l.words l.span.base l.span.limit l.span.from l.committed l.index;
  tally : IsTallyAt (entries_from l.fn.words l.span.base) l.span.limit l.span.from l.committed l.index l.tally;
  few : IsFew l.span.limit l.index l.tally;
}
