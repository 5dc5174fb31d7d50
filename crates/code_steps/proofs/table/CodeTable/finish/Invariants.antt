use Rattle.std.proofs.Common.{◌≡◌, ℕ, ◌<◌, get_or, length}
use Rattle.code_steps.proofs.table.CodeTable.finish.Given as goal

abbrev pub invariant-loop-i : goal.invariant-loop-i
invariant-loop-i l = record {
  room : length l.room.items ≡ length l.initial.room.items;
  done : (k : ℕ) → k < l.i → get_or l.room.items k 0 ≡ get_or l.closed.words.items k 0;
}
