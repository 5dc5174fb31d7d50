-- What was counted and what the rest puts are the puts of all calls; and at most one a call was counted.
use Rattle.std.proofs.Common.{◌≡◌, ◌≤◌, ◌+◌, length}
use Rattle.phase_calls.specs.Calls.{puts_of}
use Rattle.phase_calls.proofs.runs.count_puts.Given as goal

abbrev pub invariant-loop-call : goal.invariant-loop-call
invariant-loop-call l =
    (puts_of l.calls l.replies ≡ l.puts + puts_of l.call-iterator.a.rest.now l.call-iterator.b.rest.now)
    × (l.puts + length l.call-iterator.a.rest.now ≤ length l.calls)
