-- The operations so far, and those of the lines that are left, are the whole list.
use Rattle.std.proofs.Common.{◌≡◌, ◌++◌, drop}
use Rattle.script_reader.specs.Grammar.{ops_of}
use Rattle.script_reader.proofs.draft.list.Given as goal

abbrev pub invariant-loop-call : goal.invariant-loop-call
invariant-loop-call l = l.ops ++ ops_of l.mutator (drop l.call-index l.calls) ≡ ops_of l.mutator l.calls
