use Rattle.std.proofs.Common.{length}
use Rattle.entry_base.proofs.LastImage.{ReadBack}
use Rattle.entry_base.proofs.table.Shared.finish.Given as goal

abbrev pub invariant-loop-i : goal.invariant-loop-i
invariant-loop-i l = ReadBack l.closed.words.items l.words.items (length l.initial.words.items) l.i
