-- What stands there, and the lines of the mutators that are left, make the whole.
use Rattle.std.proofs.Common.{◌≡◌, ◌++◌, string_bytes, drop}
use Rattle.report_text.specs.Report.{mutators_text}
use Rattle.report_text.proofs.report.push_mutators.Given as goal

abbrev pub invariant-loop-mutator : goal.invariant-loop-mutator
invariant-loop-mutator l =
    string_bytes l.text ++ mutators_text l.mutator (drop l.mutator l.mutators)
    ≡ string_bytes l.initial.text ++ mutators_text 0 l.mutators
