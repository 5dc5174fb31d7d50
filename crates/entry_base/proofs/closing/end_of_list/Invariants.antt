use Rattle.std.proofs.Common.{◌≡◌, ◌-◌, ◌<◌, ◌^◌}
use Rattle.entry_base.specs.Closing.{walk}
use Rattle.entry_base.proofs.closing.end_of_list.Given as goal

abbrev pub invariant-loop-link : goal.invariant-loop-link
invariant-loop-link l = record {
  low : l.at < 2 ^ 32;
  walked : walk l.words l.first (l.len - l._link) l.at ≡ walk l.words l.first l.len l.head;
}
