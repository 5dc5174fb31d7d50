-- The lines so far are skipped.
use Rattle.std.proofs.Common.{◌≡◌, ◌≤◌, ◌+◌, length}
use Rattle.script_reader.specs.Spelling.{pieces}
use Rattle.script_reader.specs.Grammar.{bad_after}
use Rattle.script_reader.proofs.reader.bad_line.Given as goal

abbrev pub invariant-loop-piece : goal.invariant-loop-piece
invariant-loop-piece l = record {
  read : bad_after l.first (pieces l.fn.after) ≡ bad_after l.line (pieces l.rest);
  line : l.line + length l.rest ≤ l.first + length l.fn.after;
}

abbrev pub decreases-loop-piece : goal.decreases-loop-piece
decreases-loop-piece l = length l.rest
