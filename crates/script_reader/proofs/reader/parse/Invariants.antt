-- The lines so far are skipped.
use Rattle.std.proofs.Common.{◌≡◌, ◌≤◌, ◌+◌, length}
use Rattle.script_reader.specs.Spelling.{pieces}
use Rattle.script_reader.specs.Grammar.{header_from, script_of}
use Rattle.script_reader.proofs.reader.parse.Given as goal

abbrev pub invariant-loop-piece : goal.invariant-loop-piece
invariant-loop-piece l = record {
  read : script_of l.fn.bytes ≡ header_from l.line (pieces l.rest);
  line : l.line + length l.rest ≤ length l.fn.bytes + 1;
}

abbrev pub decreases-loop-piece : goal.decreases-loop-piece
decreases-loop-piece l = length l.rest
