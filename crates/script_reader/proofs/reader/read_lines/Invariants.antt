-- What is left of the text goes on after what is read so far.
use Rattle.std.proofs.Common.{◌≡◌, ◌≤◌, ◌+◌, length}
use Rattle.script_reader.specs.Spelling.{pieces}
use Rattle.script_reader.specs.Grammar.{lines_from, opening}
use Rattle.script_reader.specs.Reading.{IsDraft}
use Rattle.script_reader.proofs.reader.read_lines.Given as goal

abbrev pub invariant-loop-piece : goal.invariant-loop-piece
invariant-loop-piece l = record {
  read : lines_from l.header.limits (opening l.header) l.first (pieces l.fn.lines)
      ≡ lines_from l.header.limits l.draft l.line (pieces l.rest);
  line : l.line + length l.rest ≤ l.first + length l.fn.lines;
  draft : IsDraft l.header.limits l.draft;
}

abbrev pub decreases-loop-piece : goal.decreases-loop-piece
decreases-loop-piece l = length l.rest
