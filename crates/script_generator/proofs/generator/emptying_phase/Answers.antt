use Rattle.std.proofs.Common.{[], ◌∷◌, sym, ◌∙◌}
use Rattle.plain_table.specs.declared.scripts.Op.TheVariants.{Drop}
use Rattle.script_generator.proofs.Counting.{map-none, map-pushed}
use Rattle.script_generator.proofs.generator.emptying_phase.Goals as goal

pub loop-mutator-init : goal.loop-mutator-init
loop-mutator-init c = c.new-calls.ensures ∙ sym (map-none (λ mutator. Drop 0 ∷ Drop 1 ∷ []))

pub loop-mutator-preserved : goal.loop-mutator-preserved
loop-mutator-preserved c =
    map-pushed (λ mutator. Drop 0 ∷ Drop 1 ∷ []) c.loop-mutator._mutator c.loop-mutator.calls _ c.push.new.self
    c.loop-mutator.invariant c.in_ok-from_slice.ensures c.in_ok-push.ensures.ok
