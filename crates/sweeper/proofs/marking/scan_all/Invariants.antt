use Rattle.std.proofs.Common.{◌≤◌, ◌+◌, ◌-◌, length}
use Rattle.sweeper.specs.Marking.{MarksFrom}
use Rattle.sweeper.specs.Shading.{white_in}
use Rattle.entry_word.specs.Image.{sizes_of}
use Rattle.sweeper.proofs.marking.scan_all.Given as goal

abbrev pub invariant-loop-next : goal.invariant-loop-next
invariant-loop-next l = record {
  marked : MarksFrom l.fn.words l.words l.fn.list l.list l.len l.next l.end (sizes_of l.shape);
  room : l.end + white_in l.words (length l.list) ≤ length l.list;
  order : l.next ≤ l.end;
}

abbrev pub decreases-loop-next : goal.decreases-loop-next
decreases-loop-next l = length l.list - l.next
