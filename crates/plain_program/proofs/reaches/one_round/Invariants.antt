use Rattle.std.proofs.Common.{◌≡◌, ◌<◌, ◌≤◌, true, false}
use Rattle.std.specs.List.{list_all}
use Rattle.plain_program.specs.Rounds.{Keeps, StaysWithin, leads, unfound}
use Rattle.plain_program.proofs.reaches.one_round.Given as goal

abbrev pub invariant-loop-object : goal.invariant-loop-object
invariant-loop-object l = record {
  kept : Keeps l.fn.found.keys l.found.keys;
  within : StaysWithin l.refs.entries l.fn.found.keys l.found.keys;
  no_more : unfound l.refs.entries l.found.keys ≤ unfound l.refs.entries l.fn.found.keys;
  fewer : l.grew ≡ true → unfound l.refs.entries l.found.keys < unfound l.refs.entries l.fn.found.keys;
  passed : l.grew ≡ false → list_all (leads l.found.keys) l.refs.entries ≡ list_all (leads l.found.keys) l.object-iterator;
}
