use Rattle.std.proofs.Common.{◌≡◌, ◌≤◌}
use Rattle.sweeper.specs.Pass.{entries_from}
use Rattle.sweeper.specs.Usage.{usage_of}
use Rattle.sweeper.proofs.usage.used_indexes.Given as goal

abbrev pub invariant-loop-index : goal.invariant-loop-index
invariant-loop-index l = record {
  counts : l.usage ≡ usage_of (entries_from l.words l.base) l.head l.index;
  few : l.usage.count ≤ l.index;
}
