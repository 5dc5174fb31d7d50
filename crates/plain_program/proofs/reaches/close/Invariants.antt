use Rattle.plain_program.specs.Rounds.{Keeps, StaysWithin, unfound}
use Rattle.plain_program.proofs.reaches.close.Given as goal

abbrev pub invariant-loop : goal.invariant-loop
invariant-loop l = record {
  kept : Keeps l.fn.found.keys l.found.keys;
  within : StaysWithin l.refs.entries l.fn.found.keys l.found.keys;
}

abbrev pub decreases-loop : goal.decreases-loop
decreases-loop l = unfound l.refs.entries l.found.keys
