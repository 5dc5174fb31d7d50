use Rattle.std.proofs.lemmas.Result.{IfOk-weaker}
use Rattle.plain_program.proofs.Makes.{Steps-next}
use Rattle.plain_program.proofs.steps.step.Goals as goal

pub returns-else-is_err-clause-next : goal.returns-else-is_err-clause-next
returns-else-is_err-clause-next c =
    IfOk-weaker c.make-made.result _ _ (Steps-next c.args.state.now c.make-made.new.self c.args.event.now) c.make-made.ensures
