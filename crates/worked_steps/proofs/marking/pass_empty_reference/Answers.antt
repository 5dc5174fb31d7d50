use Rattle.worked_steps.proofs.PassedParts.{PassedReference-zero}
use Rattle.std.proofs.lemmas.Bool.Decides.{nat_tests}
use Rattle.std.proofs.Common.{arith}
use Rattle.worked_steps.proofs.marking.pass_empty_reference.Goals as goal

pub returns-clause-passed : goal.returns-clause-passed
returns-clause-passed c = λ is. PassedReference-zero _ _ _ _ _ c.load_reference.ensures.learned (grind (arith, nat_tests))
