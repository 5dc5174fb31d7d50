use Rattle.std.proofs.Common.{[], sym, ◌∙◌}
use Rattle.script_generator.proofs.Counting.{map-none, map-pushed}
use Rattle.script_generator.proofs.generator.empty_phase.Goals as goal

pub loop-mutator-init : goal.loop-mutator-init
loop-mutator-init c = c.new-calls.ensures ∙ sym (map-none (λ mutator. []))

pub loop-mutator-preserved : goal.loop-mutator-preserved
loop-mutator-preserved c =
    map-pushed (λ mutator. []) c.loop-mutator._mutator c.loop-mutator.calls c.new.result c.push.new.self
    c.loop-mutator.invariant c.new.ensures c.in_ok-push.ensures.ok
