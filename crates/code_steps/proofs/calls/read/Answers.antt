use Rattle.std.proofs.Common.{rules}
use Rattle.code_steps.proofs.OneCall.{read_shown, read_looked, pair_shown, pair_ends}
use Rattle.code_steps.proofs.calls.read.Goals as goal

pub returns-then-first-second-clause-shown : goal.returns-then-first-second-clause-shown
returns-then-first-second-clause-shown c = search (rules, pair_shown)

pub returns-then-first-second-clause-learned : goal.returns-then-first-second-clause-learned
returns-then-first-second-clause-learned c = (search (rules, read_looked), search (rules, pair_ends))

pub returns-else-first-eq0-clause-shown : goal.returns-else-first-eq0-clause-shown
returns-else-first-eq0-clause-shown c = search (rules, read_shown)

pub returns-else-first-eq0-clause-learned : goal.returns-else-first-eq0-clause-learned
returns-else-first-eq0-clause-learned c = search (rules, read_looked)
