-- The phases of the rounds so far.
use Rattle.std.proofs.Common.{◌≡◌, ◌++◌}
use Rattle.std.specs.List.{flat_map}
use Rattle.script_generator.specs.Generated.{first_numbers, round_phases}
use Rattle.script_generator.proofs.generator.push_rounds.Given as goal

abbrev pub invariant-loop-round : goal.invariant-loop-round
invariant-loop-round l =
    l.phases ≡ l.initial.phases ++ flat_map (round_phases l.seed) (first_numbers l.round)
