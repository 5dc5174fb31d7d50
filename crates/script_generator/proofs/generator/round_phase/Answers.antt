use Rattle.std.proofs.Common.{sym, ◌∙◌}
use Rattle.script_generator.specs.Generated.{round_lines}
use Rattle.script_generator.proofs.Counting.{map-none, map-pushed}
use Rattle.script_generator.proofs.generator.round_phase.Goals as goal

pub loop-mutator-init : goal.loop-mutator-init
loop-mutator-init c = c.new-calls.ensures ∙ sym (map-none (round_lines c.args.seed c.args.round))

pub loop-mutator-preserved : goal.loop-mutator-preserved
loop-mutator-preserved c =
    map-pushed (round_lines c.args.seed c.args.round) c.loop-mutator.mutator c.loop-mutator.calls _ c.push.new.self
    c.loop-mutator.invariant c.in_ok-round_lines.ensures c.in_ok-push.ensures.ok
