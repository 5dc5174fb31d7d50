use Rattle.std.proofs.Common.{sym, ap, ◌∙◌}
use Rattle.plain_program.specs.Kept.{Kept}
use Rattle.plain_program.proofs.Finishes.{finishes}
use Rattle.plain_program.proofs.state.State.finish.Goals as goal

pub returns-clause-table : goal.returns-clause-table
returns-clause-table c =
    finishes c.args.self.now c.put_swept.new.self c.in-Some.cycle c.in_ok-swept.swept
    (sym (ap (λ (k : Kept). k.cycle) c.self.view_is) ∙ c.in-Some.is) c.in_ok-swept.ensures c.put_swept.ensures
