-- The lists of the mutators so far.
use Rattle.std.proofs.Common.{◌≡◌, [], ◌∷◌, map}
use Rattle.plain_table.specs.declared.scripts.Op.TheVariants.{Drop}
use Rattle.script_generator.specs.Generated.{first_numbers}
use Rattle.script_generator.proofs.generator.emptying_phase.Given as goal

abbrev pub invariant-loop-mutator : goal.invariant-loop-mutator
invariant-loop-mutator l = l.calls ≡ map (λ mutator. Drop 0 ∷ Drop 1 ∷ []) (first_numbers l._mutator)
