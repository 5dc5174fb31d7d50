-- The lines of the objects so far.
use Rattle.std.proofs.Common.{◌≡◌}
use Rattle.std.specs.List.{flat_map}
use Rattle.script_generator.specs.Generated.{first_numbers, lines_at}
use Rattle.script_generator.proofs.generator.round_lines.Given as goal

abbrev pub invariant-loop-object : goal.invariant-loop-object
invariant-loop-object l = l.ops ≡ flat_map (lines_at l.seed l.round l.mutator) (first_numbers l.object)
