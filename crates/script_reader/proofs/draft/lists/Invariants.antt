-- The lists of the mutators so far.
use Rattle.std.proofs.Common.{◌≡◌}
use Rattle.script_reader.specs.Grammar.{lists_of}
use Rattle.script_reader.proofs.draft.lists.Given as goal

abbrev pub invariant-loop-mutator : goal.invariant-loop-mutator
invariant-loop-mutator l = l.lists ≡ lists_of l.mutator l.calls
