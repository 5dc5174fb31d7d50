use Rattle.table_laws.proofs.TakesFind.{takes-least}
use Rattle.table_laws.proofs.takes_find_the_least.Goals as goal

pub returns : goal.returns
returns c = takes-least
