-- The empty lists of the mutators so far.
use Rattle.std.proofs.Common.{◌≡◌, [], map}
use Rattle.script_generator.specs.Generated.{first_numbers}
use Rattle.script_generator.proofs.generator.empty_phase.Given as goal

abbrev pub invariant-loop-mutator : goal.invariant-loop-mutator
invariant-loop-mutator l = l.calls ≡ map (λ mutator. []) (first_numbers l._mutator)
