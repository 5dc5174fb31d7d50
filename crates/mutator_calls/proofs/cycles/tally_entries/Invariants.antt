use Rattle.std.proofs.Common.{◌≡◌, ◌≤◌, ◌<◌, ◌^◌}
use Rattle.sweeper.specs.Pass.{entries_from}
use Rattle.mutator_calls.specs.Totals.{tally_of}
use Rattle.mutator_calls.proofs.cycles.tally_entries.Given as goal

abbrev pub invariant-loop-index : goal.invariant-loop-index
invariant-loop-index l = record {
  counts : l.tally ≡ tally_of (entries_from l.words l.base) l.index;
  few : l.tally.cells ≤ l.index;
  small : l.tally.sum < 2 ^ 48;
}
