-- What stands there, and the lines of the mutators that are left, make the whole.
use Rattle.std.proofs.Common.{◌≡◌, ◌++◌, string_bytes, drop}
use Rattle.script_reader.specs.Canonical.{lists_text}
use Rattle.script_reader.proofs.printer.push_lists.Given as goal

abbrev pub invariant-loop-mutator : goal.invariant-loop-mutator
invariant-loop-mutator l =
    string_bytes l.text ++ lists_text l.mutator (drop l.mutator l.lists)
    ≡ string_bytes l.initial.text ++ lists_text 0 l.lists
