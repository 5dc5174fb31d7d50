use Rattle.plain_program.specs.KeptFields.{IsFieldKept}
use Rattle.plain_program.specs.Kept.{shown, shown_cycle}
use Rattle.plain_program.proofs.KeptFields.{fields-then, fields-else}
use Rattle.plain_program.proofs.state.State.are_kept.Goals as goal

pub returns-then-are_external_kept : goal.returns-then-are_external_kept
returns-then-are_external_kept c =
    fields-then (IsFieldKept (shown c.args.self.now) (shown_cycle c.args.cycle.now) c.args.reached.now.keys) c.are_trusted_kept.result
    (c.are_external_kept.ensures.0 c.if-are_external_kept.true) c.are_trusted_kept.ensures

pub returns-else-are_external_kept : goal.returns-else-are_external_kept
returns-else-are_external_kept c =
    fields-else (IsFieldKept (shown c.args.self.now) (shown_cycle c.args.cycle.now) c.args.reached.now.keys) c.are_external_kept.result
    c.if-are_external_kept.false c.are_external_kept.ensures
