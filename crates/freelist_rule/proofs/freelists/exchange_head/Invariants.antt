use Rattle.plain_table.specs.declared.events.Act.TheVariants as act
use Rattle.freelist_rule.specs.Freelists.{Took}
use Rattle.freelist_rule.proofs.freelists.exchange_head.Given as goal

abbrev pub ghosts-exchange_head_as : goal.ghosts-exchange_head_as
ghosts-exchange_head_as a = record { learns = λ found v w. Took v a.space (act.Take a.space) a.word found w }
