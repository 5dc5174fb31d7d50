-- What was counted and what the rest puts are the puts of all; and at most one a call was counted.
use Rattle.std.proofs.Common.{◌≡◌, ◌≤◌, ◌+◌}
use Rattle.script_reader.specs.Valid.{lists_length}
use Rattle.phase_run.specs.Run.{puts_of_all}
use Rattle.phase_run.proofs.puts.count_all_puts.Given as goal

abbrev pub invariant-loop-made : goal.invariant-loop-made
invariant-loop-made l =
    (l.puts + puts_of_all l.made-iterator.a.rest.now l.made-iterator.b.rest.now ≡ puts_of_all l.calls l.replies)
    × (l.puts + lists_length l.made-iterator.a.rest.now ≤ lists_length l.calls)
