use Rattle.plain_program.specs.Kept.{shown, shown_cycle}
use Rattle.plain_program.proofs.SafeFields.{AreSafe-iff, AreSafe-refuted}
use Rattle.plain_program.proofs.state.State.are_safe.Goals as goal

pub returns-then-are_external_safe : goal.returns-then-are_external_safe
returns-then-are_external_safe c =
    AreSafe-iff (shown c.args.self.now) (shown_cycle c.args.cycle.now) c.args.object c.is_safe_if_bound.result
    c.is_safe_if_bound.ensures (c.are_external_safe.ensures.0 c.if-are_external_safe.true)

pub returns-else-are_external_safe : goal.returns-else-are_external_safe
returns-else-are_external_safe c =
    AreSafe-refuted (shown c.args.self.now) (shown_cycle c.args.cycle.now) c.args.object c.are_external_safe.result
    c.are_external_safe.ensures c.if-are_external_safe.false
