use Rattle.std.proofs.Common.{rules}
use Rattle.code_steps.proofs.OneCall.{missed_shown, write_shown, write_stored}
use Rattle.code_steps.proofs.calls.write.Goals as goal

pub returns-then-found-expected-clause-shown : goal.returns-then-found-expected-clause-shown
returns-then-found-expected-clause-shown c = search (rules, missed_shown)

pub returns-clause-shown : goal.returns-clause-shown
returns-clause-shown c = search (rules, write_shown)

pub returns-clause-learned : goal.returns-clause-learned
returns-clause-learned c = search (rules, write_stored)
