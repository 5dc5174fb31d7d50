-- The lists of the mutators so far.
use Rattle.std.proofs.Common.{◌≡◌, map}
use Rattle.script_generator.specs.Generated.{first_numbers, round_lines}
use Rattle.script_generator.proofs.generator.round_phase.Given as goal

abbrev pub invariant-loop-mutator : goal.invariant-loop-mutator
invariant-loop-mutator l = l.calls ≡ map (round_lines l.seed l.round) (first_numbers l.mutator)
