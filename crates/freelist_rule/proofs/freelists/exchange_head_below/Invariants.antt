use Rattle.plain_table.specs.declared.events.Act.TheVariants as act
use Rattle.plain_table.specs.declared.events.Space.TheVariants.{External}
use Rattle.freelist_rule.specs.Freelists.{Took}
use Rattle.freelist_rule.proofs.freelists.exchange_head_below.Given as goal

abbrev pub ghosts-exchange_head_below_as : goal.ghosts-exchange_head_below_as
ghosts-exchange_head_below_as a = record { learns = λ found v w. Took v External (act.Below a.start) a.word found w }
