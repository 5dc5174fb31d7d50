use Rattle.std.proofs.Common.{◌≡◌}
use Rattle.sweeper.specs.Roots.{members_below, is_held}
use Rattle.sweeper.proofs.roots.listed.Given as goal

abbrev pub invariant-loop-object : goal.invariant-loop-object
invariant-loop-object l = l.list.items ≡ members_below (is_held l.held) l.object
